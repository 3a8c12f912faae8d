-- What a load answers and leaves is one thing.
use Rattle.std.specs.Prelude.{◌≡◌, ℕ, List, Err}
use Rattle.base.specs.Questions.{named}
use Rattle.store.specs.declared.stores.Stores.{Stores}
use Rattle.store.specs.Held.{lent}
use Rattle.store.specs.Stores.{held_of}
use Rattle.file.specs.declared.loaded.Refused.{Refused}
use Rattle.file.specs.Calls.{Loads}

-- The stores hold the same, and the lent memory is the same.
abbrev pub SameStores : Stores → Stores → Type 0
SameStores s t = (held_of s ≡ held_of t) × (lent s.nodes ≡ lent t.nodes) × (lent s.entries ≡ lent t.entries) × (lent s.text ≡ lent t.text)

abbrev pub RefusedLoadsAreOne : Type 0
RefusedLoadsAreOne =
    (file : List ℕ) (old : Stores) (e f : Refused) → Loads file old (Err e) → Loads file old (Err f)
    → (named e.fault ≡ named f.fault) × SameStores e.stores f.stores
