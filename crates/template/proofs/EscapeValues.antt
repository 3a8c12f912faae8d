-- The code points that escapes stand for.
use Rattle.std.proofs.Common.{◌≡◌, ℕ, ◌<◌, ◌≤◌, true, List, ◌∷◌, length, ⊎_elim, arith}
use lib.Utf8.{encodes, scalar_cases}
use Rattle.std.specs.Char.{digit_value}
use Rattle.std.proofs.lemmas.Bool.{ltb-true}
use Rattle.std.proofs.lemmas.Str.{length-le-encodes}
use Rattle.std.proofs.lemmas.Bool.Decides.{nat_tests}
use Rattle.template.specs.Grammar.{Escape, single, non_escape, null, hex, hex4, code_point, is_single, single_value, escape_source, escape_code, escape_allowed}

single_low : (c : ℕ) → is_single c ≡ true → c < 0x80
single_low c e = grind (arith, nat_tests)

single_value_low : (c : ℕ) → c < 0x80 → single_value c ≤ 0x10FFFF
single_value_low c h = grind (arith, nat_tests)

-- An escape stands for a code point.
pub escape_small : (e : Escape) (rest : List ℕ) → escape_allowed e rest → escape_code e ≤ 0x10FFFF
escape_small (single c) rest a = single_value_low c (single_low c a)
escape_small (non_escape c) rest a = ⊎_elim (λ h. omega arith) (λ h. omega arith) (scalar_cases c a.0)
escape_small null rest a = omega arith
escape_small (hex a b) rest h = omega (arith, ltb-true (digit_value a) 16 h.0, ltb-true (digit_value b) 16 h.1.0)
escape_small (hex4 a b c d) rest h =
    omega (arith, ltb-true (digit_value a) 16 h.0, ltb-true (digit_value b) 16 h.1.0, ltb-true (digit_value c) 16 h.1.1.0, ltb-true (digit_value d) 16 h.1.1.1.0)
escape_small (code_point ds) rest h = h.2

source_some : (e : Escape) → 1 ≤ length (escape_source e)
source_some (single c) = omega arith
source_some (non_escape c) = omega arith
source_some null = omega arith
source_some (hex a b) = omega arith
source_some (hex4 a b c d) = omega arith
source_some (code_point ds) = omega arith

-- An escape takes at least two bytes.
pub escape_long : (e : Escape) → 2 ≤ length (encodes (0x5C ∷ escape_source e))
escape_long e = omega (arith, length-le-encodes (0x5C ∷ escape_source e), source_some e)
