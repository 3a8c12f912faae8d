-- What the calls answer, and what they leave in the output.
use Rattle.std.specs.Prelude.{◌≡◌, ℕ, ◌≤◌, List, [], ◌∷◌, ◌++◌, length, drop, Ok, Err, Result}
use Rattle.base.specs.declared.fault.Fault.{Fault}
use Rattle.base.specs.Questions.{Refuses}
use Rattle.text.specs.Stored.{stored, Stores}
use Rattle.template.specs.Cooked.{Cooks}
use Rattle.template.specs.Escaped.{raw_of}

-- A call whose input Means the text us writes `form us` to the front of the output, of which the rest stays. It leaves
-- the output as it was where its input means no text, or where what it would write has no room.
abbrev pub Writes : (Means : List ℕ → Type 0) (form : List ℕ → List ℕ) (old new : List ℕ) → Result ℕ Fault → Type 0
Writes Means form old new (Ok n) = (us : List ℕ) × Means us × (n ≡ length (form us)) × (n ≤ length old) × (new ≡ form us ++ drop n old)
Writes Means form old new (Err e) =
    (new ≡ old) × Refuses (((12, 0), (us : List ℕ) × Means us) ∷ ((13, 0), (us : List ℕ) → Means us → length (form us) ≤ length old) ∷ []) e

-- Escaping writes the raw text of a stored text.
abbrev pub Escapes : (text old new : List ℕ) → Result ℕ Fault → Type 0
Escapes text old new r = Writes (Stores text) raw_of old new r

-- Cooking writes the stored form of what raw text cooks to.
abbrev pub CooksInto : (raw old new : List ℕ) → Result ℕ Fault → Type 0
CooksInto raw old new r = Writes (Cooks raw) stored old new r
