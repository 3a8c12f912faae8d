-- Bytes as a word of the protocol: lower-case hexadecimal, two digits to a byte.
use Rattle.std.specs.Prelude.{◌≡◌, ℕ, ◌/◌, ◌%◌, ◌<◌, List, [], ◌∷◌, Option, MatchOption, ◌≢◌}
use Rattle.std.specs.Char.{digit_char}

-- Reading a digit gives its value, or none where the byte is the digit of no value.
abbrev pub DigitRead : ℕ → Option ℕ → Type 0
DigitRead digit r = MatchOption r ((v : ℕ) → v < 16 → digit_char v ≢ digit) (λ v. (v < 16) × (digit_char v ≡ digit))

abbrev pub two_digits : ℕ → List ℕ
two_digits b = digit_char (b / 16) ∷ digit_char (b % 16) ∷ []

abbrev pub hexed : List ℕ → List ℕ
hexed [] = []
hexed (b ∷ bs) = digit_char (b / 16) ∷ digit_char (b % 16) ∷ hexed bs

abbrev pub Byte : ℕ → Type 0
Byte b = b < 256

-- Reading two digits gives their byte, or none where they are those of no byte.
abbrev pub PairRead : ℕ → ℕ → Option ℕ → Type 0
PairRead high low r = MatchOption r ((b : ℕ) → Byte b → two_digits b ≢ high ∷ low ∷ []) (λ b. Byte b × (two_digits b ≡ high ∷ low ∷ []))
