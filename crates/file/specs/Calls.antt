-- What load answers.
use Rattle.std.specs.Prelude.{◌≡◌, ℕ, List, Ok, Err, Result}
use Rattle.base.specs.Questions.{Refuses}
use Rattle.store.specs.declared.stores.Stores.{Stores}
use Rattle.store.specs.Held.{lent, Refilled}
use Rattle.store.specs.Stores.{held_of, rooms_of}
use Rattle.tree.specs.Heap.{Held}
use Rattle.file.specs.declared.loaded.Loaded.{Loaded}
use Rattle.file.specs.declared.loaded.Refused.{Refused}
use Rattle.file.specs.Layout.{root}
use Rattle.file.specs.Lawful.{LawfulFile, Fits, load_questions}
use Rattle.file.specs.Payoff.{IsPayoffRoot}

abbrev pub loaded_stores : Loaded → Stores
loaded_stores d = d.stores

abbrev pub loaded_root : Loaded → ℕ
loaded_root d = d.root

-- The stores hold what h has, and the rest of the lent memory is as it was.
pub record Holds (old : Stores) (h : Held) (new : Stores) : Type 0 where
  pub nodes_held : Refilled old.nodes h.nodes new.nodes
  pub entries_held : Refilled old.entries h.entries new.entries
  pub text_held : Refilled old.text h.text new.text

-- The lent memory is as it was, and as much of it is held.
abbrev pub Untouched : Stores → Stores → Type 0
Untouched old new =
    (held_of new ≡ held_of old)
    × (lent new.nodes ≡ lent old.nodes) × (lent new.entries ≡ lent old.entries) × (lent new.text ≡ lent old.text)

-- The file is lawful and fits: the stores hold what it holds, and its root denotes its one tree. Or the first question
-- that is answered no is named, and nothing is changed.
abbrev pub Loads : List ℕ → Stores → Result Loaded Refused → Type 0
Loads file old (Ok d) =
    LawfulFile file (held_of d.stores) × Fits file (rooms_of old) × (d.root ≡ root file)
    × Holds old (held_of d.stores) d.stores
    × IsPayoffRoot (held_of d.stores) d.root
Loads file old (Err e) = Refuses (load_questions file (rooms_of old)) e.fault × Untouched old e.stores
