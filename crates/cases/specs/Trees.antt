-- The tree that is shown.
use Rattle.std.specs.Prelude.{ℕ}
use Rattle.store.specs.declared.stores.Stores.{Stores}
use Rattle.cases.specs.declared.printing.Shown.{Shown}

abbrev pub shown_stores : Shown → Stores
shown_stores s = s.stores.now

abbrev pub shown_root : Shown → ℕ
shown_root s = s.root
