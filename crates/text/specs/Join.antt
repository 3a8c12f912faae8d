-- Where two texts meet.
use Rattle.std.specs.Prelude.{◌≡◌, ℕ, ◌≤◌, true, false, List, [], ◌∷◌, ◌++◌, length, drop, Some, None, Ok, Err, Option, Result}
use Rattle.std.proofs.Math.Utf8.{encodes}
use Rattle.base.specs.declared.fault.Fault.{Fault}
use Rattle.base.specs.Questions.{Refuses}
use Rattle.text.specs.Utf16.{leading, trailing, paired}
use Rattle.text.specs.Points.{Canonical}
use Rattle.text.specs.Stored.{Lawful}

-- Of the code points of two texts, the last leading surrogate and the first trailing one, which are one code point once
-- joined.
abbrev pub Meets : List ℕ → List ℕ → Result (Option ℕ) Fault → Type 0
Meets left right (Ok None) = (cs : List ℕ) × (ds : List ℕ) × Canonical false (cs ++ ds) × (encodes cs ≡ left) × Canonical false ds × (encodes ds ≡ right)
Meets left right (Ok (Some x)) =
    (cs : List ℕ) × (ds : List ℕ) × (h : ℕ) × (l : ℕ) × (x ≡ paired h l) × (leading h ≡ true) × (trailing l ≡ true)
    × Canonical false (cs ++ h ∷ []) × (encodes (cs ++ h ∷ []) ≡ left) × Canonical false (l ∷ ds) × (encodes (l ∷ ds) ≡ right)
Meets left right (Err e) = Refuses (((12, 0), Lawful left × Lawful right) ∷ []) e

-- A run at the front of an output, or nothing.
abbrev pub Written : (old run new : List ℕ) → Result ℕ Fault → Type 0
Written old run new (Ok n) = (n ≡ length run) × (n ≤ length old) × (new ≡ run ++ drop n old)
Written old run new (Err e) = (new ≡ old) × Refuses (((13, 0), length run ≤ length old) ∷ []) e
