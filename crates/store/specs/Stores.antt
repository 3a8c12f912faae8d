-- The three stores, and what is read from them.
use Rattle.std.specs.Prelude.{◌≡◌, ℕ, true, length, is_some, Some, None, Option}
use Rattle.std.specs.List.{slice_get}
use Rattle.tree.specs.declared.node.Node.{Node}
use Rattle.tree.specs.Tree.{Tree, label, own_of, below, labels, Denotes, children_of}
use Rattle.tree.specs.Heap.{Held, look, own, children, inside}
use Rattle.store.specs.declared.stores.Stores.{Stores}
use Rattle.store.specs.declared.stores.Counts.{Counts}
use Rattle.store.specs.Held.{held, room}

abbrev pub held_of : Stores → Held
held_of s = record { nodes = held s.nodes; entries = held s.entries; text = held s.text }

abbrev pub counts_of : Stores → Counts
counts_of s = record { nodes = length (held s.nodes); entries = length (held s.entries); text = length (held s.text) }

abbrev pub rooms_of : Stores → Counts
rooms_of s = record { nodes = room s.nodes; entries = room s.entries; text = room s.text }

-- The record of the node x is what each tree that x denotes has at its top: own part and children's numbers. Its pieces
-- lie within the stores, so that its list and its texts can be read.
abbrev pub ShowsTop : Held → Option Node → Tree → Type 0
ShowsTop h None t = ⊥
ShowsTop h (Some n) t =
    (own_of t ≡ own h.text n) × (labels (below t) ≡ children h.entries n) × (inside h.entries h.text n ≡ true)

abbrev pub Shows : Held → ℕ → Option Node → Type 0
Shows h x r = (t : Tree) → label t ≡ x → Denotes (look h) t → ShowsTop h r t

-- Where something is stored at x, its child k.
abbrev pub ShowsChild : Held → (x k : ℕ) → Option ℕ → Type 0
ShowsChild h x k child = is_some (look h x) ≡ true → child ≡ slice_get (children_of (look h x)) k
