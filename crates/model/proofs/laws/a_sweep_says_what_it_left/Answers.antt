use Rattle.model.proofs.Still.{left_told}
use Rattle.model.proofs.laws.a_sweep_says_what_it_left.Goals as goal

pub returns : goal.returns
returns c = left_told
