use Rattle.model.proofs.Exampled.{had}
use Rattle.model.proofs.laws.true_hosts_can_be_had.Goals as goal

pub returns : goal.returns
returns c = had
