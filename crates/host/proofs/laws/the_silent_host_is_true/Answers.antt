use Rattle.host.proofs.Knowing.{silent_true}
use Rattle.host.proofs.laws.the_silent_host_is_true.Goals as goal

pub returns : goal.returns
returns g c = silent_true _
