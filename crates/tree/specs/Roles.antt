-- What a record says of its place and of its children, before any text is read.
use Rattle.std.specs.Prelude.{◌≡◌, ℕ, ◌+◌, ◌-◌, ◌<◌, ◌≤◌, List, [], ◌∷◌, length, Some, None, Option}
use Rattle.std.specs.List.{slice_get}
use Rattle.tree.specs.declared.node.Node.{Node}
use Rattle.tree.specs.declared.role.Child.{Child}
use Rattle.tree.specs.declared.role.Child.TheVariants.{Link, Entry}
use Rattle.tree.specs.declared.role.Links.{Links}
use Rattle.tree.specs.declared.role.Links.TheVariants.{Zero, One, Two}
use Rattle.tree.specs.declared.role.Sort.{Sort}
use Rattle.tree.specs.declared.role.Role.{Role}
use Rattle.tree.specs.Heap.{links, list_of, own}
use Rattle.tree.specs.Lawful.{sort_of, role}

-- The sort of a node and the roles of its children do not depend on its text.
abbrev pub sort_of_node : Node → Sort
sort_of_node n = sort_of (own [] n)

abbrev pub role_of_node : Node → ℕ → Role
role_of_node n k = role (own [] n) k

-- Where the node n names its child k, links before list.
abbrev pub NamesChild : Node → ℕ → Option Child → Type 0
NamesChild n k None = length (links n) + (list_of n).len ≤ k
NamesChild n k (Some (Link c)) = slice_get (links n) k ≡ Some c
NamesChild n k (Some (Entry i)) = (length (links n) ≤ k) × (k < length (links n) + (list_of n).len) × (i ≡ (list_of n).start + (k - length (links n)))

abbrev pub linked_by : Links → List ℕ
linked_by Zero = []
linked_by (One x) = x ∷ []
linked_by (Two x y) = x ∷ y ∷ []
