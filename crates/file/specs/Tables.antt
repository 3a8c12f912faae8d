-- A table of counts, and the lowest number of which something does not hold.
use Rattle.std.specs.Prelude.{◌≡◌, ◌==◌, ◌&&◌, Bool, false, not, IsTrue, ℕ, ◌<◌, min, List, length, Some, None, Option, slice_index}
use Rattle.file.specs.Lawful.{due}

-- A table has these counts, up to 255.
abbrev pub Tallies : List ℕ → (ℕ → ℕ) → Type 0
Tallies table f = (y : ℕ) → y < length table → slice_index table y ≡ min (f y) 255

-- The lowest number below n of which P does not hold, if there is one.
abbrev pub Lowest : (ℕ → Type 0) → ℕ → Option ℕ → Type 0
Lowest P n None = (y : ℕ) → y < n → P y
Lowest P n (Some x) = (x < n) × ((y : ℕ) → y < x → P y) × (P x → ⊥)

-- Whether x is the node that is named.
abbrev pub is_named : Option ℕ → ℕ → Bool
is_named None x = false
is_named (Some w) x = w == x

-- The node x is not the one with a wrong link, and has as many parents as it should.
abbrev pub right : List ℕ → Option ℕ → ℕ → Bool
right table wrong x = not (is_named wrong x) && (slice_index table x == due (length table) x)

abbrev pub Right : List ℕ → Option ℕ → ℕ → Type 0
Right table wrong x = IsTrue (right table wrong x)
