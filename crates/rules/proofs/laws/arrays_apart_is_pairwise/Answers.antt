use Rattle.rules.proofs.Pairwise.{arrays_apart_pairwise}
use Rattle.rules.proofs.laws.arrays_apart_is_pairwise.Goals as goal

pub returns : goal.returns
returns c = arrays_apart_pairwise
