-- A piece of a run of items, where it lies within.
use Rattle.std.specs.Prelude.{◌≡◌, ℕ, true, false, List, Some, None, Option}
use Rattle.std.specs.Borrow.{Bor}
use Rattle.tree.specs.Heap.{cut, within}

abbrev pub PieceOf : {X : Type 0} → List X → ℕ → ℕ → Option (Bor (List X)) → Type 0
PieceOf xs start len None = within xs start len ≡ false
PieceOf xs start len (Some s) = (within xs start len ≡ true) × (s.now ≡ cut xs start len)
