use Rattle.tree.proofs.Relinking.{one_place}
use Rattle.tree.proofs.laws.one_changed_link_changes_one_place.Goals as goal

pub returns : goal.returns
returns c = one_place
