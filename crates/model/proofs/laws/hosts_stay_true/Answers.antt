use Rattle.model.proofs.Going.{hosts_stay}
use Rattle.model.proofs.laws.hosts_stay_true.Goals as goal

pub returns : goal.returns
returns g c = hosts_stay _
