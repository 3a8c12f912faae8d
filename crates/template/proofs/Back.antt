-- Escaped text is well formed, and cooks back to the text.
use Rattle.std.proofs.Common.{◌≡◌, ℕ, ◌+◌, ◌*◌, ◌/◌, ◌%◌, ◌<◌, ◌≤◌, Bool, true, false, eqb, ltb, leb, ◌⊎◌, List, [], ◌∷◌, ◌++◌, sym, refl, ap, ◌∙◌, subst, ap₂, inl, inr, arith}
use lib.Utf8.{scalar, encodes, low_scalar}
use Rattle.std.specs.Char.{digit_char}
use Rattle.std.proofs.lemmas.Bool.{and_from, both_ways, cond-false, le-leb, le-ltb, lt-ltb}
use Rattle.std.proofs.lemmas.Str.{digit_value-digit_char}
use Rattle.text.specs.Utf16.{Text, leading, utf16, points, units}
use Rattle.text.specs.Points.{Canonical}
use Rattle.text.proofs.Pairing.{units_points, canonical_points}
use Rattle.template.specs.Grammar.{TemplateCharacter, escape, single, non_escape, hex4, source, sources, value, values, Allowed, AllAllowed, is_hex, mv}
use Rattle.template.specs.Cooked.{Cooks}
use Rattle.template.specs.Escaped.{escaped, escapes, raw_of}
use Rattle.template.proofs.Escapes.{Form, marked, return, lone, itself, form_of}
use Rattle.template.proofs.Runs.{plain, plain_source, plain_value, plain_allowed}

-- A template character with this source and value, which may stand before anything.
abbrev Reads : (cs us : List ℕ) → Type 0
Reads cs us = (t : TemplateCharacter) × (source t ≡ cs) × (value t ≡ us) × ((rest : List ℕ) → Allowed t rest)

-- The digits of a surrogate's escape, and their value.
digit_hex : (d : ℕ) → d < 16 → is_hex (digit_char d) ≡ true
digit_hex d h = ap (λ v. ltb v 16) (digit_value-digit_char d (omega arith)) ∙ lt-ltb d 16 h

four_value : (a b c d : ℕ) → a < 16 → b < 16 → c < 16 → d < 16 → mv (digit_char a ∷ digit_char b ∷ digit_char c ∷ digit_char d ∷ []) ≡ ((a * 16 + b) * 16 + c) * 16 + d
four_value a b c d h i j k =
    let p = digit_value-digit_char a (omega arith) in
    let q = digit_value-digit_char b (omega arith) in
    let r = digit_value-digit_char c (omega arith) in
    let s = digit_value-digit_char d (omega arith) in
    omega arith

-- A code point that is no surrogate is a scalar.
is_scalar : (c : ℕ) → c ≤ 0x10FFFF → (c < 0xD800) ⊎ (0xE000 ≤ c) → scalar c ≡ true
is_scalar c h (inl low) = low_scalar c low
is_scalar c h (inr up) =
    cond-false (ltb c 0xD800) _ _ (le-ltb c 0xD800 (omega arith))
    ∙ and_from (leb 0xE000 c) (ltb c 0x110000) (le-leb 0xE000 c up) (lt-ltb c 0x110000 (omega arith))

-- Each code point's escape is one template character, whose value is the code point.
escape_reads : (c : ℕ) → c ≤ 0x10FFFF → Reads (escaped c) (utf16 c)
escape_reads c small = go (form_of c)
  where
    go : Form c → Reads (escaped c) (utf16 c)
    go (marked (inl m) e) = subst (λ x. Reads (escaped x) (utf16 x)) (sym m) (escape (single 0x5C), refl, refl, λ _. refl)
    go (marked (inr (inl m)) e) = subst (λ x. Reads (escaped x) (utf16 x)) (sym m) (escape (non_escape 0x60), refl, refl, λ _. (refl, refl, refl))
    go (marked (inr (inr m)) e) = subst (λ x. Reads (escaped x) (utf16 x)) (sym m) (escape (non_escape 0x24), refl, refl, λ _. (refl, refl, refl))
    go (return m e) = subst (λ x. Reads (escaped x) (utf16 x)) (sym m) (escape (single 0x72), refl, refl, λ _. refl)
    go (lone l h e) =
        let a : c / 0x1000 < 16 = omega arith in
        let b : c / 0x100 % 16 < 16 = omega arith in
        let d : c / 16 % 16 < 16 = omega arith in
        let f : c % 16 < 16 = omega arith in
        let whole : ((c / 0x1000 * 16 + c / 0x100 % 16) * 16 + c / 16 % 16) * 16 + c % 16 ≡ c = omega arith in (
          escape (hex4 (digit_char (c / 0x1000)) (digit_char (c / 0x100 % 16)) (digit_char (c / 16 % 16)) (digit_char (c % 16))),
          sym e,
          ap utf16 (four_value (c / 0x1000) (c / 0x100 % 16) (c / 16 % 16) (c % 16) a b d f ∙ whole),
          λ _. (digit_hex (c / 0x1000) a, (digit_hex (c / 0x100 % 16) b, (digit_hex (c / 16 % 16) d, (digit_hex (c % 16) f, tt)))),
        )
    go (itself p e) = (
      plain c,
      plain_source c ∙ sym e,
      plain_value c,
      λ rest. plain_allowed c rest (is_scalar c small p.no_surrogate) p.no_tick p.no_slash (λ d. absurd (both_ways (eqb c 0x24) p.no_dollar d)) p.no_cr,
    )

-- So are the escapes of code points, one after the other.
escapes_read : (led : Bool) (cs : List ℕ) → Canonical led cs → (ts : List TemplateCharacter) × AllAllowed ts [] × (sources ts ≡ escapes cs) × (values ts ≡ units cs)
escapes_read led [] k = ([], tt, refl, refl)
escapes_read led (c ∷ cs) k =
    let one = escape_reads c k.0 in
    let more = escapes_read (leading c) cs k.2 in (
      one.0 ∷ more.0,
      (one.3 (sources more.0 ++ []), more.1),
      ap₂ (λ (xs ys : List ℕ). xs ++ ys) one.1 more.2,
      ap₂ (λ (xs ys : List ℕ). xs ++ ys) one.2 more.3,
    )

pub escaped_cooks : (us : List ℕ) → Text us → Cooks (raw_of us) us
escaped_cooks us t =
    let r = escapes_read false (points us) (canonical_points us t) in
    (r.0, (r.1, ap encodes r.2), r.3 ∙ units_points us t)
