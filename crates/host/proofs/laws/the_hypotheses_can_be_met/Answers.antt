use Rattle.host.proofs.Example.{met}
use Rattle.host.proofs.laws.the_hypotheses_can_be_met.Goals as goal

pub returns : goal.returns
returns c = met
