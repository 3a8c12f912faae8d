-- A run of items within a slice that the caller lends.
use Rattle.std.specs.Prelude.{◌≡◌, ℕ, ◌+◌, ◌≤◌, List, [], ◌∷◌, ◌++◌, length, take, drop, Ok, Err, Result}
use Rattle.base.specs.declared.fault.Fault.{Fault}
use Rattle.base.specs.Questions.{Refuses}

-- Of a slice `old` of which the first `count` items are in use, appending leaves `new`:
-- the items in use, then all of `more`, then what lay behind; or all as it was, for want of room.
abbrev pub Appended : {T : Type 0} → (old : List T) (count : ℕ) (more new : List T) → Result ℕ Fault → Type 0
Appended old count more new (Ok n) = (n ≡ count + length more) × (n ≤ length old) × (new ≡ take count old ++ more ++ drop n old)
Appended old count more new (Err e) = (new ≡ old) × Refuses (((13, 0), count + length more ≤ length old) ∷ []) e
