use Rattle.host.proofs.Shaped.{structural_true}
use Rattle.host.proofs.laws.the_structural_host_is_true.Goals as goal

pub returns : goal.returns
returns g c = structural_true _
