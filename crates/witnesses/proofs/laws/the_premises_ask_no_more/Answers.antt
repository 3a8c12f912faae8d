use Rattle.witnesses.proofs.Loose.{loose_meets}
use Rattle.witnesses.proofs.laws.the_premises_ask_no_more.Goals as goal

pub returns : goal.returns
returns c = loose_meets
