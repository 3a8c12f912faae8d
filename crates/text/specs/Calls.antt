-- What the calls on texts answer.
use Rattle.std.specs.Prelude.{◌≡◌, ℕ, ◌≤◌, List, [], ◌∷◌, ◌++◌, length, drop, Ok, Err, Option, Result}
use Rattle.std.specs.List.{slice_get}
use Rattle.base.specs.declared.fault.Fault.{Fault}
use Rattle.base.specs.Questions.{Refuses}
use Rattle.text.specs.Stored.{stored, Stores, Lawful}

-- How many units a text has.
abbrev pub Counts : List ℕ → Result ℕ Fault → Type 0
Counts text (Ok n) = (us : List ℕ) × Stores text us × (n ≡ length us)
Counts text (Err e) = Refuses (((12, 0), Lawful text) ∷ []) e

-- The unit at n.
abbrev pub Picks : List ℕ → ℕ → Result (Option ℕ) Fault → Type 0
Picks text n (Ok u) = (us : List ℕ) × Stores text us × (u ≡ slice_get us n)
Picks text n (Err e) = Refuses (((12, 0), Lawful text) ∷ []) e

-- Joining: of an output `old`, the front holds the stored form of both texts' units, one behind the other.
abbrev pub Joins : (left right old new : List ℕ) → Result ℕ Fault → Type 0
Joins left right old new (Ok n) =
    (us : List ℕ) × (vs : List ℕ) × Stores left us × Stores right vs × (n ≡ length (stored (us ++ vs))) × (n ≤ length old)
    × (new ≡ stored (us ++ vs) ++ drop n old)
Joins left right old new (Err e) =
    (new ≡ old)
    × Refuses (((12, 0), Lawful left × Lawful right)
    ∷ ((13, 0), (us vs : List ℕ) → Stores left us → Stores right vs → length (stored (us ++ vs)) ≤ length old)
    ∷ []) e
