use Rattle.rules.proofs.Shrinking.{rewrite_smaller}
use Rattle.rules.proofs.laws.a_rewrite_makes_it_smaller.Goals as goal

pub returns : goal.returns
returns c = rewrite_smaller
