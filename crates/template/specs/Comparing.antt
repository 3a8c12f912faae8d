-- Comparing a text with what raw text cooks to.
use Rattle.std.specs.Prelude.{◌≡◌, ℕ, List, [], ◌++◌, Some, None, Option, MatchOption, ◌≢◌}
use Rattle.std.specs.Borrow.{Bor}

-- What follows the piece in the rest of a text, or None where that does not begin with it, as with any before it.
abbrev pub Passes : Option (Bor (List ℕ)) → List ℕ → Option (Bor (List ℕ)) → Type 0
Passes None piece new = new ≡ None
Passes (Some bytes) piece new = MatchOption new ((rest : List ℕ) → bytes.now ≢ piece ++ rest) (λ rest. bytes.now ≡ piece ++ rest.now)

-- Nothing is left.
abbrev pub IsPassed : Option (Bor (List ℕ)) → Type 0
IsPassed None = ⊥
IsPassed (Some rest) = rest.now ≡ []
