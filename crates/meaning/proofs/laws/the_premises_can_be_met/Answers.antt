use Rattle.meaning.proofs.Plain.{met}
use Rattle.meaning.proofs.laws.the_premises_can_be_met.Goals as goal

pub returns : goal.returns
returns c = met
