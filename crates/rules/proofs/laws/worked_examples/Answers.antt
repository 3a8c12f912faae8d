use Rattle.rules.proofs.WorkedComputed.{worked}
use Rattle.rules.proofs.laws.worked_examples.Goals as goal

pub returns : goal.returns
returns c = worked
