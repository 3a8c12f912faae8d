-- Reading a stored text character by character.
use Rattle.std.specs.Prelude.{◌≡◌, ℕ, ◌≤◌, Bool, false, ◌&&◌, ◌⊎◌, List, [], ◌∷◌, ◌++◌, Some, None, Ok, Err, Option, Result}
use Rattle.std.proofs.Math.Utf8.{encode}
use Rattle.base.specs.declared.fault.Fault.{Fault}
use Rattle.base.specs.Questions.{Refuses}
use Rattle.text.specs.Utf16.{leading, trailing}
use Rattle.text.specs.declared.character.Character.{Character}
use Rattle.text.specs.declared.reader.Characters.{Characters}

-- What is left to read, and whether a leading surrogate was read last.
abbrev pub rest_of : Characters → List ℕ
rest_of s = s.rest.now

abbrev pub led_of : Characters → Bool
led_of s = s.led

-- The bytes are at their end, or begin with a character that may stand there: no trailing surrogate behind a leading
-- one.
abbrev pub Readable : Bool → List ℕ → Type 0
Readable led bytes =
    (bytes ≡ []) ⊎ ((c : ℕ) × (rest : List ℕ) × (c ≤ 0x10FFFF) × ((led && trailing c) ≡ false) × (bytes ≡ encode c ++ rest))

-- One step: the next character, the end, or a refusal where there is neither.
abbrev pub Next : Characters → Characters → Result (Option Character) Fault → Type 0
Next s t (Ok (Some h)) =
    (h.code ≤ 0x10FFFF) × ((led_of s && trailing h.code) ≡ false) × (h.bytes.now ≡ encode h.code)
    × (rest_of s ≡ encode h.code ++ rest_of t) × (led_of t ≡ leading h.code)
Next s t (Ok None) = (rest_of s ≡ []) × (rest_of t ≡ []) × (led_of t ≡ led_of s)
Next s t (Err e) = Refuses (((12, 0), Readable (led_of s) (rest_of s)) ∷ []) e × (rest_of t ≡ rest_of s) × (led_of t ≡ led_of s)
