-- Digits in raw text.
use Rattle.std.proofs.Common.{◌≡◌, ℕ, zero, suc, ◌+◌, ◌*◌, ◌<◌, ◌≤◌, min, true, false, List, [], ◌∷◌, ◌++◌, length, get_or, take, sym, refl, ap, ◌∙◌, subst, ap₂, inl, inr, arith}
use lib.Utf8.{encodes}
use Rattle.std.specs.Char.{digit_value}
use Rattle.std.proofs.lemmas.Bool.{ltb-true, lt-ltb, le-ltb, cases_lt, cond_above}
use Rattle.std.proofs.lemmas.Bool.Decides.{nat_tests}
use Rattle.std.proofs.lemmas.List.{take_more}
use Rattle.std.proofs.lemmas.Str.{encode_ascii, encodes-append}
use Rattle.template.specs.Grammar.{HexDigits, is_hex, is_decimal, mv, mv_from}
use Rattle.template.specs.Fronts.{capped}

-- A digit is ASCII.
pub digit_ascii : (c : ℕ) → digit_value c < 36 → c < 128
digit_ascii c h = elim (cases_lt c 123) [
  | inl k ↦ omega arith
  | inr k ↦
      let high : 36 ≡ digit_value c =
      cond_above c 48 36 _ 36 (omega arith)
      (cond_above c 58 _ _ 36 (omega arith)
      (cond_above c 65 36 _ 36 (omega arith)
      (cond_above c 91 _ _ 36 (omega arith)
      (cond_above c 97 36 _ 36 (omega arith)
      (cond_above c 123 _ _ 36 (omega arith) refl)))))
      in
      absurd (omega arith)
]

pub hex_ascii : (c : ℕ) → is_hex c ≡ true → c < 128
hex_ascii c h = digit_ascii c (omega (arith, ltb-true (digit_value c) 16 h))

pub decimal_ascii : (c : ℕ) → is_decimal c ≡ true → c < 128
decimal_ascii c h = digit_ascii c (omega (arith, ltb-true (digit_value c) 10 h))

-- The decimal digits are those from 0 to 9.
pub decimal_true : (c : ℕ) → 48 ≤ c → c < 58 → is_decimal c ≡ true
decimal_true c l h = lt-ltb (digit_value c) 10 (grind (arith, nat_tests))

pub decimal_false : (c : ℕ) → (48 ≤ c → c < 58 → ⊥) → is_decimal c ≡ false
decimal_false c h = le-ltb (digit_value c) 10 (grind (arith, nat_tests))

-- Hexadecimal digits are their own bytes.
pub hex_encodes : (ds : List ℕ) → HexDigits ds → encodes ds ≡ ds
hex_encodes [] h = refl
hex_encodes (d ∷ ds) h = ap₂ (λ (xs ys : List ℕ). xs ++ ys) (encode_ascii d (hex_ascii d h.0)) (hex_encodes ds h.1)

-- So are those in front of other characters.
pub hex_front : (ds cs : List ℕ) → HexDigits ds → encodes (ds ++ cs) ≡ ds ++ encodes cs
hex_front ds cs h = encodes-append ds cs ∙ ap (λ xs. xs ++ encodes cs) (hex_encodes ds h)

-- One digit more.
hex_push : (ds : List ℕ) (d : ℕ) → HexDigits ds → is_hex d ≡ true → HexDigits (ds ++ d ∷ [])
hex_push [] d h k = (k, tt)
hex_push (e ∷ ds) d h k = (h.0, hex_push ds d h.1 k)

mv_push : (v : ℕ) (ds : List ℕ) (d : ℕ) → mv_from v (ds ++ d ∷ []) ≡ mv_from v ds * 16 + digit_value d
mv_push v [] d = refl
mv_push v (e ∷ ds) d = mv_push (v * 16 + digit_value e) ds d

pub hex_more : (ds : List ℕ) (i : ℕ) → i < length ds → HexDigits (take i ds) → is_hex (get_or ds i 0) ≡ true → HexDigits (take (i + 1) ds)
hex_more ds i l h k = subst HexDigits (sym (take_more ds i 0 l)) (hex_push (take i ds) (get_or ds i 0) h k)

pub capped_more : (ds : List ℕ) (i n v : ℕ) → i < length ds → n ≡ capped (take i ds) → v ≡ digit_value (get_or ds i 0) → min (n * 16 + v) 0x110000 ≡ capped (take (i + 1) ds)
capped_more ds i n v l e f =
    let more = ap mv (take_more ds i 0 l) ∙ mv_push 0 (take i ds) (get_or ds i 0) in
    omega arith

-- Each of them is a digit.
pub hex_each : (ds : List ℕ) (i : ℕ) → HexDigits ds → i < length ds → is_hex (get_or ds i 0) ≡ true
hex_each [] i h l = absurd (omega arith)
hex_each (d ∷ ds) zero h l = h.0
hex_each (d ∷ ds) (suc i) h l = hex_each ds i h.1 (omega arith)
