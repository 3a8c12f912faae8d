use Rattle.model.proofs.Going.{nobody_tells_with_them}
use Rattle.model.proofs.laws.nobody_can_tell_with_true_hosts.Goals as goal

pub returns : goal.returns
returns g c = nobody_tells_with_them _
