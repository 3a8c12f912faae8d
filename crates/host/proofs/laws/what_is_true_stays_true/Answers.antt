use Rattle.host.proofs.Staying.{stays_true}
use Rattle.host.proofs.laws.what_is_true_stays_true.Goals as goal

pub returns : goal.returns
returns g c = stays_true _
