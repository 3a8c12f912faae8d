use Rattle.tree.proofs.Gathering.{one_tree_of_all}
use Rattle.tree.proofs.laws.lower_links_make_one_tree.Goals as goal

pub returns : goal.returns
returns c = one_tree_of_all
