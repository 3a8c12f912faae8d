-- EscapesTo, by what stands behind the backslash.
use Rattle.std.proofs.Common.{◌≡◌, ℕ, ◌<◌, ◌≤◌, true, false, ◌&&◌, ◌||◌, eqb, List, [], ◌∷◌, ◌++◌, length, Some, None, Option, sym, refl, ap, ◌∙◌, subst, inl, inr, arith, lit<}
use lib.Utf8.{scalar, encode, encodes}
use Rattle.std.specs.Char.{digit_value}
use Rattle.std.proofs.lemmas.Bool.{ltb-true, cases_Bool, cond-true, cond-false, cond_both, and_parts, or_from, ne_eqb}
use Rattle.std.proofs.lemmas.Bool.Decides.{nat_tests}
use Rattle.std.proofs.lemmas.List.{append-nil}
use Rattle.std.proofs.lemmas.Str.{encode_ascii}
use Rattle.template.specs.Grammar.{single, non_escape, null, hex, hex4, HexDigits, is_hex, is_decimal, is_single, is_escape, is_line_terminator, single_value, starts}
use Rattle.template.specs.Fronts.{Frontless, StandsFor, EscapesTo, Digits, capped}
use Rattle.template.specs.declared.raw.escapes.EscapeCode.{EscapeCode}
use Rattle.template.proofs.First.{escape_at, hex_at, hex4_at, unicode_at, is_non_escape}
use Rattle.template.proofs.Fronting.{frontless}
use Rattle.template.proofs.Hex.{hex_encodes}

-- Where no escape goes on behind a backslash with an ASCII character, nothing begins with it.
pub no_escape_at : (x : ℕ) (after : List ℕ) → x < 128 → escape_at (x ∷ after) ≡ None → Frontless (0x5C ∷ x ∷ after)
no_escape_at x after h none = frontless (0x5C ∷ x ∷ after) (lit< tt, λ _. h) none

-- \0
pub null_lost : (after : List ℕ) → starts is_decimal after ≡ true → Frontless (0x5C ∷ 0x30 ∷ after)
null_lost after h = no_escape_at 0x30 after (lit< tt) (cond-true (starts is_decimal after) None _ h)

pub null_found : (after : List ℕ) → starts is_decimal after ≡ false → StandsFor (0x5C ∷ 0x30 ∷ after) 0 after
unfolding encode
null_found after h = (null, refl, (refl, refl, h))

-- \x and two digits
hex_lost : (after : List ℕ) → Digits 2 after None → hex_at after ≡ None
hex_lost [] none = refl
hex_lost (a ∷ []) none = refl
hex_lost (a ∷ b ∷ after) none =
    cond_both (is_hex a && is_hex b) _ None (λ o. o ≡ None)
    (λ h.
    let both = and_parts (is_hex a) (is_hex b) h in
    absurd (none (a ∷ b ∷ []) after refl (both.0, (both.1, tt)) refl))
    (λ _. refl)

hex_found : (ds after rest : List ℕ) (code : ℕ) → length ds ≡ 2 → HexDigits ds → after ≡ ds ++ rest → code ≡ capped ds → StandsFor (0x5C ∷ 0x78 ∷ after) code rest
unfolding encode
hex_found [] after rest code l h e v = absurd (omega arith)
hex_found (a ∷ []) after rest code l h e v = absurd (omega arith)
hex_found (a ∷ b ∷ []) after rest code l h e v = (
  hex a b,
  omega (arith, v, ltb-true (digit_value a) 16 h.0, ltb-true (digit_value b) 16 h.1.0),
  (ap (λ xs. 0x5C ∷ 0x78 ∷ xs) (e ∙ ap (λ xs. xs ++ rest) (sym (hex_encodes (a ∷ b ∷ []) h))), h, h),
)
hex_found (a ∷ b ∷ c ∷ ds) after rest code l h e v = absurd (omega arith)

pub hex_escapes : (after : List ℕ) (r : Option EscapeCode) → Digits 2 after r → EscapesTo (0x5C ∷ 0x78 ∷ after) r
hex_escapes after None d = no_escape_at 0x78 after (lit< tt) (hex_lost after d)
hex_escapes after (Some r) d = hex_found d.0 after r.rest.now r.code d.1 d.2 d.3 d.4

-- \u and four digits
hex4_lost : (a : ℕ) (after : List ℕ) → is_hex a ≡ true → Digits 4 (a ∷ after) None → hex4_at a after ≡ None
hex4_lost a [] h none = refl
hex4_lost a (b ∷ []) h none = refl
hex4_lost a (b ∷ c ∷ []) h none = refl
hex4_lost a (b ∷ c ∷ d ∷ after) h none =
    cond_both (is_hex b && is_hex c && is_hex d) _ None (λ o. o ≡ None)
    (λ k.
    let last = and_parts (is_hex b && is_hex c) (is_hex d) k in
    let both = and_parts (is_hex b) (is_hex c) last.0 in
    absurd (none (a ∷ b ∷ c ∷ d ∷ []) after refl (h, (both.0, (both.1, (last.1, tt)))) refl))
    (λ _. refl)

unicode_lost : (after : List ℕ) → starts (λ c. eqb c 0x7B) after ≡ false → Digits 4 after None → unicode_at after ≡ None
unicode_lost [] brace none = refl
unicode_lost (c ∷ after) brace none =
    cond_both (is_hex c) _ _ (λ o. o ≡ None) (λ h. hex4_lost c after h none) (λ _. cond-false (eqb c 0x7B) _ None brace)

hex4_found : (ds after rest : List ℕ) (code : ℕ) → length ds ≡ 4 → HexDigits ds → after ≡ ds ++ rest → code ≡ capped ds → StandsFor (0x5C ∷ 0x75 ∷ after) code rest
unfolding encode
hex4_found [] after rest code l h e v = absurd (omega arith)
hex4_found (a ∷ []) after rest code l h e v = absurd (omega arith)
hex4_found (a ∷ b ∷ []) after rest code l h e v = absurd (omega arith)
hex4_found (a ∷ b ∷ c ∷ []) after rest code l h e v = absurd (omega arith)
hex4_found (a ∷ b ∷ c ∷ d ∷ []) after rest code l h e v = (
  hex4 a b c d,
  omega (arith, v, ltb-true (digit_value a) 16 h.0, ltb-true (digit_value b) 16 h.1.0, ltb-true (digit_value c) 16 h.1.1.0, ltb-true (digit_value d) 16 h.1.1.1.0),
  (ap (λ xs. 0x5C ∷ 0x75 ∷ xs) (e ∙ ap (λ xs. xs ++ rest) (sym (hex_encodes (a ∷ b ∷ c ∷ d ∷ []) h))), h, h),
)
hex4_found (a ∷ b ∷ c ∷ d ∷ x ∷ ds) after rest code l h e v = absurd (omega arith)

pub hex4_escapes : (after : List ℕ) (r : Option EscapeCode) → starts (λ c. eqb c 0x7B) after ≡ false → Digits 4 after r → EscapesTo (0x5C ∷ 0x75 ∷ after) r
hex4_escapes after None brace d = no_escape_at 0x75 after (lit< tt) (unicode_lost after brace d)
hex4_escapes after (Some r) brace d = hex4_found d.0 after r.rest.now r.code d.1 d.2 d.3 d.4

-- An escape behind the ASCII character c.
pub escapes_at : (c x : ℕ) (rest : List ℕ) (r : Option EscapeCode) → c ≡ x → x < 128 → EscapesTo (0x5C ∷ x ∷ rest) r → EscapesTo (0x5C ∷ (encode c ++ rest)) r
escapes_at c x rest r e h k =
    let bytes : x ∷ rest ≡ encode c ++ rest = ap (λ xs. xs ++ rest) (sym (encode_ascii x h) ∙ ap encode (sym e)) in
    subst (λ xs. EscapesTo (0x5C ∷ xs) r) bytes k

-- \1 to \9 are none.
decimal_lost : (c : ℕ) (es : List ℕ) → 0x31 ≤ c → c ≤ 0x39 → escape_at (c ∷ es) ≡ None
decimal_lost c es l h =
    let digit : is_decimal c ≡ true = grind (arith, nat_tests) in
    cond-false (is_single c) _ _ (grind (arith, nat_tests))
    ∙ cond-false (is_non_escape c) _ _ (grind (arith, nat_tests))
    ∙ cond-false (eqb c 0x30) _ _ (ne_eqb c 0x30 (λ e. omega arith))
    ∙ cond-false (eqb c 0x78) _ _ (ne_eqb c 0x78 (λ e. omega arith))
    ∙ cond-false (eqb c 0x75) _ _ (ne_eqb c 0x75 (λ e. omega arith))
    ∙ cond-false (is_line_terminator c) _ _ (grind (arith, nat_tests))

pub decimal_frontless : (c : ℕ) (rest : List ℕ) → 0x31 ≤ c → c ≤ 0x39 → Frontless (0x5C ∷ (encode c ++ rest))
decimal_frontless c rest l h =
    let low : c < 128 = omega arith in
    escapes_at c c rest None refl low (no_escape_at c rest low (decimal_lost c rest l h))

-- A backslash is its own byte.
pub slash : (cs rest : List ℕ) → 0x5C ∷ (encodes cs ++ rest) ≡ encodes (0x5C ∷ cs) ++ rest
unfolding encode
slash cs rest = refl

-- Any other character that is no line terminator is an escape.
pub simple_found : (c : ℕ) (rest : List ℕ) → scalar c ≡ true → is_line_terminator c ≡ false → is_decimal c ≡ false → (c ≡ 0x78 → ⊥) → (c ≡ 0x75 → ⊥) → StandsFor (0x5C ∷ (encode c ++ rest)) (single_value c) rest
simple_found c rest s line digit x u = elim (cases_Bool (is_single c)) [
  | inl h ↦ (single c, refl, (bytes, h, h))
  | inr h ↦ (non_escape c, same h, (bytes, (s, plain h, line), (s, plain h, line)))
]
  where
    bytes : 0x5C ∷ (encode c ++ rest) ≡ encodes (0x5C ∷ c ∷ []) ++ rest
    bytes = ap (λ xs. 0x5C ∷ (xs ++ rest)) (sym (append-nil (encode c))) ∙ slash (c ∷ []) rest

    plain : is_single c ≡ false → is_escape c ≡ false
    plain h =
        or_from (is_single c || is_decimal c || eqb c 0x78) (eqb c 0x75)
        (or_from (is_single c || is_decimal c) (eqb c 0x78) (or_from (is_single c) (is_decimal c) h digit) (ne_eqb c 0x78 x))
        (ne_eqb c 0x75 u)

    same : is_single c ≡ false → c ≡ single_value c
    same h = grind (arith, nat_tests)
