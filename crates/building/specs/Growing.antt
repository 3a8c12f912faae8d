-- Stores that hold more than they did.
use Rattle.std.specs.Prelude.{◌≡◌, ℕ, ◌+◌, ◌-◌, ◌<◌, ◌≤◌, ◌^◌, List, [], ◌∷◌, ◌++◌, length, Ok, Err, Result}
use Rattle.base.specs.declared.fault.Fault.{Fault}
use Rattle.store.specs.declared.stores.Stores.{Stores}
use Rattle.store.specs.declared.stores.Counts.{Counts}
use Rattle.store.specs.Held.{held, room, Refilled}
use Rattle.tree.specs.declared.node.Node.{Node}
use Rattle.tree.specs.declared.run.Run.{Run}
use Rattle.tree.specs.Heap.{Held}

-- The stores hold all that they held, and more behind it; the rest of the lent memory is as it was.
pub record GrowsBy (old : Stores) (more : Held) (new : Stores) : Type 0 where
  pub nodes_grow : Refilled old.nodes (held old.nodes ++ more.nodes) new.nodes
  pub entries_grow : Refilled old.entries (held old.entries ++ more.entries) new.entries
  pub text_grows : Refilled old.text (held old.text ++ more.text) new.text

-- Nothing, one node, some entries, and some bytes.
abbrev pub nothing : Held
nothing = record { nodes = []; entries = []; text = [] }

abbrev pub one_node : Node → Held
one_node n = record { nodes = n ∷ []; entries = []; text = [] }

abbrev pub some_entries : List ℕ → Held
some_entries es = record { nodes = []; entries = es; text = [] }

abbrev pub some_bytes : List ℕ → Held
some_bytes bytes = record { nodes = []; entries = []; text = bytes }

abbrev pub counts : Held → Counts
counts h = record { nodes = length h.nodes; entries = length h.entries; text = length h.text }

-- So much more has room, and all of it numbers of 32 bits.
abbrev pub Takes : (held more room : ℕ) → Type 0
Takes held more room = (held + more ≤ room) × (held + more < 2 ^ 32)

pub record HasRoom (s : Stores) (need : Counts) : Type 0 where
  pub for_nodes : Takes (length (held s.nodes)) need.nodes (room s.nodes)
  pub for_entries : Takes (length (held s.entries)) need.entries (room s.entries)
  pub for_text : Takes (length (held s.text)) need.text (room s.text)

-- A node is appended, and has this number; or there is no room for it.
abbrev pub Pushes : (old : Stores) (node : Node) (new : Stores) → Result ℕ Fault → Type 0
Pushes old node new (Ok n) = (n ≡ length (held old.nodes)) × GrowsBy old (one_node node) new
Pushes old node new (Err e) = Takes (length (held old.nodes)) 1 (room old.nodes) → ⊥

-- A piece of a store, by where it begins and where it ends; or it does not fit a record.
abbrev pub RunBetween : {X : Type 0} → (start end : ℕ) → Result (Run X) Fault → Type 0
RunBetween start end (Ok r) = (r.start ≡ start) × (r.len ≡ end - start) × (start ≤ end)
RunBetween start end (Err e) = start ≤ end → end < 2 ^ 32 → ⊥
