-- Laws of texts.
use Rattle.std.specs.Prelude.{◌≡◌, ℕ, Bool, true, false, ◌&&◌, List, [], ◌∷◌, ◌++◌}
use Rattle.std.proofs.Math.Utf8.{encode}
use Rattle.text.specs.Utf16.{Text, leading, trailing, paired, points, units}
use Rattle.text.specs.Points.{ends}
use Rattle.text.specs.Stored.{stored, Stores}

-- The code points of a text spell its units, and bytes are the stored form of one text at most.
abbrev pub DetermineEachOther : Type 0
DetermineEachOther = ((us : List ℕ) → Text us → units (points us) ≡ us) × ((bytes us vs : List ℕ) → Stores bytes us → Stores bytes vs → us ≡ vs)

-- A text begins with a trailing surrogate.
abbrev pub begins_trailing : List ℕ → Bool
begins_trailing [] = false
begins_trailing (u ∷ us) = trailing u

-- The stored form of two texts, one behind the other: where no leading surrogate meets a trailing one, both stored
-- forms; and the pair that meets is one character.
abbrev pub JoinsAsUnits : Type 0
JoinsAsUnits =
    ((us vs : List ℕ) → (ends false us && begins_trailing vs) ≡ false → stored (us ++ vs) ≡ stored us ++ stored vs)
    × ((us vs : List ℕ) (h l : ℕ) → leading h ≡ true → trailing l ≡ true
    → stored ((us ++ h ∷ []) ++ l ∷ vs) ≡ stored us ++ encode (paired h l) ++ stored vs)
