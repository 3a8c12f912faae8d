use Rattle.model.proofs.Again.{swept_again}
use Rattle.model.proofs.laws.a_second_sweep_changes_nothing.Goals as goal

pub returns : goal.returns
returns c = swept_again
