-- Texts as ECMA-262 has them: lists of 16-bit code units, and the code points that they spell.
use Rattle.std.specs.Prelude.{ℕ, ◌+◌, ◌-◌, ◌*◌, ◌/◌, ◌%◌, ◌<◌, Bool, cond, ◌&&◌, List, [], ◌∷◌, ◌++◌, nat_le, nat_lt}

-- A text: each element is a 16-bit code unit. ECMA-262, "The String Type".
abbrev pub Text : List ℕ → Type 0
Text [] = Unit {0}
Text (u ∷ us) = (u < 0x10000) × Text us

-- A leading surrogate, and a trailing one. ECMA-262, "The String Type".
abbrev pub leading : ℕ → Bool
leading u = nat_le 0xD800 u && nat_lt u 0xDC00

abbrev pub trailing : ℕ → Bool
trailing u = nat_le 0xDC00 u && nat_lt u 0xE000

-- ECMA-262, "UTF16SurrogatePairToCodePoint".
abbrev pub paired : ℕ → ℕ → ℕ
paired lead trail = (lead - 0xD800) * 0x400 + (trail - 0xDC00) + 0x10000

-- ECMA-262, "CodePointAt" and "StringToCodePoints": a leading surrogate before a trailing one spells one
-- code point with it, and every other unit spells itself. (A text's first code point is a trailing surrogate
-- exactly where its first unit is one.)
abbrev pub before : ℕ → List ℕ → List ℕ
before u [] = u ∷ []
before u (c ∷ cs) = cond (leading u && trailing c) (paired u c ∷ cs) (u ∷ c ∷ cs)

abbrev pub points : List ℕ → List ℕ
points [] = []
points (u ∷ us) = before u (points us)

-- ECMA-262, "UTF16EncodeCodePoint": the units of one code point.
abbrev pub utf16 : ℕ → List ℕ
utf16 c = cond (nat_lt c 0x10000) (c ∷ []) (((c - 0x10000) / 0x400 + 0xD800) ∷ ((c - 0x10000) % 0x400 + 0xDC00) ∷ [])

-- ECMA-262, "CodePointsToString".
abbrev pub units : List ℕ → List ℕ
units [] = []
units (c ∷ cs) = utf16 c ++ units cs
