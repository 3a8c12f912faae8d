use Rattle.tree.proofs.Judging.{lawful_tree}
use Rattle.tree.proofs.laws.lawful_numbers_make_a_lawful_tree.Goals as goal

pub returns : goal.returns
returns c = lawful_tree
