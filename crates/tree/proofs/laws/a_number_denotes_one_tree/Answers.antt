use Rattle.tree.proofs.Denoting.{same_tree}
use Rattle.tree.proofs.laws.a_number_denotes_one_tree.Goals as goal

pub returns : goal.returns
returns c = same_tree
