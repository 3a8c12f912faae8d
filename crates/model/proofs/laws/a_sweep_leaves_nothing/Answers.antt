use Rattle.model.proofs.Still.{nothing_left}
use Rattle.model.proofs.laws.a_sweep_leaves_nothing.Goals as goal

pub returns : goal.returns
returns c = nothing_left
