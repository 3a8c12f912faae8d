use Rattle.model.proofs.Still.{ends_at_root}
use Rattle.model.proofs.laws.a_sweep_ends_at_the_root.Goals as goal

pub returns : goal.returns
returns c = ends_at_root
