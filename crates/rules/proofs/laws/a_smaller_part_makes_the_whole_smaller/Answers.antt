use Rattle.rules.proofs.Sizes.{whole_smaller}
use Rattle.rules.proofs.laws.a_smaller_part_makes_the_whole_smaller.Goals as goal

pub returns : goal.returns
returns c = whole_smaller
