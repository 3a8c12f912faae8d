-- Escaping: a text as raw template text.
use Rattle.std.specs.Prelude.{ℕ, ◌/◌, ◌%◌, cond, ◌||◌, List, [], ◌∷◌, ◌++◌, ◌==◌}
use Rattle.std.proofs.Math.Utf8.{encodes}
use Rattle.std.specs.Char.{digit_char}
use Rattle.text.specs.Utf16.{leading, trailing, points}

-- Four lower-case hexadecimal digits.
abbrev pub four_digits : ℕ → List ℕ
four_digits u = digit_char (u / 0x1000) ∷ digit_char (u / 0x100 % 16) ∷ digit_char (u / 16 % 16) ∷ digit_char (u % 16) ∷ []

-- One code point: a backslash before \ ` and $, CR as \r, a lone surrogate as \u and four digits, any other as it is.
abbrev pub escaped : ℕ → List ℕ
escaped c =
    cond (c == 0x5C || c == 0x60 || c == 0x24) (0x5C ∷ c ∷ [])
    (cond (c == 0x0D) (0x5C ∷ 0x72 ∷ [])
    (cond (leading c || trailing c) (0x5C ∷ 0x75 ∷ four_digits c) (c ∷ [])))

abbrev pub escapes : List ℕ → List ℕ
escapes [] = []
escapes (c ∷ cs) = escaped c ++ escapes cs

-- The raw text of a text, in UTF-8.
abbrev pub raw_of : List ℕ → List ℕ
raw_of us = encodes (escapes (points us))
