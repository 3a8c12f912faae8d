use Rattle.model.proofs.Allowed.{allowed}
use Rattle.model.proofs.laws.what_hosts_allow.Goals as goal

pub returns : goal.returns
returns c = allowed
