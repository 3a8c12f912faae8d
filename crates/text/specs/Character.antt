-- One character of a stored text: a code point up to 0x10FFFF, surrogates among them, in UTF-8.
use Rattle.std.specs.Prelude.{◌≡◌, ℕ, ◌+◌, ◌-◌, ◌/◌, ◌%◌, ◌<◌, ◌≤◌, max, List, ◌++◌, length, drop, ◌≢◌}
use Rattle.std.specs.Int.Count.{count_leading_zeros}
use Rattle.std.proofs.Math.Utf8.{encode}
use Rattle.text.specs.declared.character.Character.{Character}

-- The number of leading one bits of a byte, which are the leading zeros of its complement, or 1 if there are none.
abbrev pub lead_length : ℕ → ℕ
lead_length lead = max 1 (count_leading_zeros 8 (0xFF - lead))

-- The bytes begin with the code point c.
abbrev pub Begins : List ℕ → ℕ → Type 0
Begins bytes c = bytes ≡ encode c ++ drop (length (encode c)) bytes

-- The bytes begin with no code point below the limit.
abbrev pub Lacks : List ℕ → ℕ → Type 0
Lacks bytes limit = (c : ℕ) (rest : List ℕ) → c < limit → bytes ≢ encode c ++ rest

-- The character h stands at the front of the bytes.
abbrev pub Reads : List ℕ → Character → Type 0
Reads bytes h = (h.code < 0x110000) × (h.bytes.now ≡ encode h.code) × Begins bytes h.code

-- The code point x in one, two, three and four bytes.
abbrev pub One : ℕ → ℕ → Type 0
One a x = (x < 0x80) × (a ≡ x)

abbrev pub Two : ℕ → ℕ → ℕ → Type 0
Two a b x = (0x80 ≤ x) × (x < 0x800) × (a ≡ 0xC0 + x / 0x40) × (b ≡ 0x80 + x % 0x40)

abbrev pub Three : ℕ → ℕ → ℕ → ℕ → Type 0
Three a b c x = (0x800 ≤ x) × (x < 0x10000) × (a ≡ 0xE0 + x / 0x1000) × (b ≡ 0x80 + x / 0x40 % 0x40) × (c ≡ 0x80 + x % 0x40)

abbrev pub Four : ℕ → ℕ → ℕ → ℕ → ℕ → Type 0
Four a b c d x = (0x10000 ≤ x) × (x < 0x110000) × (a ≡ 0xF0 + x / 0x40000) × (b ≡ 0x80 + x / 0x1000 % 0x40) × (c ≡ 0x80 + x / 0x40 % 0x40) × (d ≡ 0x80 + x % 0x40)
