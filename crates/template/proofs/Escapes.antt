-- Escaping one character: its escape, and the escape in bytes.
use Rattle.std.proofs.Common.{◌≡◌, ℕ, ◌<◌, ◌≤◌, true, false, cond, ◌||◌, eqb, ◌⊎◌, [], ◌∷◌, length, sym, refl, ap, ◌∙◌, subst, inl, inr, ⊎_elim, arith}
use lib.Utf8.{encode}
use Rattle.std.proofs.lemmas.Bool.{cond-true, cond-false, cases_Bool, cases_lt, eqb-true, ne_eqb, or_from, or_left, or_right}
use Rattle.std.proofs.lemmas.Str.{length-encode, len_utf8_bounds}
use Rattle.text.specs.Utf16.{leading, trailing}
use Rattle.text.proofs.Pairing.{is_leading, is_trailing, not_leading_below, not_leading_above, not_trailing_below, not_trailing_above}
use Rattle.template.specs.Escaped.{four_digits, escaped}

-- ---- one character

-- A mark: \ or ` or $.
abbrev pub Mark : ℕ → Type 0
Mark c = (c ≡ 0x5C) ⊎ ((c ≡ 0x60) ⊎ (c ≡ 0x24))

-- A code point that stands for itself.
pub record Itself (c : ℕ) : Type 0 where
  pub no_slash : eqb c 0x5C ≡ false
  pub no_tick : eqb c 0x60 ≡ false
  pub no_dollar : eqb c 0x24 ≡ false
  pub no_cr : eqb c 0x0D ≡ false
  pub no_surrogate : (c < 0xD800) ⊎ (0xE000 ≤ c)

mark_escaped : (c : ℕ) → Mark c → escaped c ≡ 0x5C ∷ c ∷ []
mark_escaped c (inl e) = subst (λ x. escaped x ≡ 0x5C ∷ x ∷ []) (sym e) refl
mark_escaped c (inr (inl e)) = subst (λ x. escaped x ≡ 0x5C ∷ x ∷ []) (sym e) refl
mark_escaped c (inr (inr e)) = subst (λ x. escaped x ≡ 0x5C ∷ x ∷ []) (sym e) refl

cr_escaped : (c : ℕ) → c ≡ 0x0D → escaped c ≡ 0x5C ∷ 0x72 ∷ []
cr_escaped c e = ap escaped e

unmarked : (c : ℕ) → eqb c 0x5C ≡ false → eqb c 0x60 ≡ false → eqb c 0x24 ≡ false → eqb c 0x0D ≡ false → escaped c ≡ cond (leading c || trailing c) (0x5C ∷ 0x75 ∷ four_digits c) (c ∷ [])
unmarked c a b d e = rw (a, b, d, e)

surrogate : (c : ℕ) → 0xD800 ≤ c → c < 0xE000 → (leading c || trailing c) ≡ true
surrogate c l h =
    ⊎_elim (λ low. or_left (leading c) (trailing c) (is_leading c l low)) (λ up. or_right (leading c) (trailing c) (is_trailing c up h)) (cases_lt c 0xDC00)

pub surrogate_escaped : (c : ℕ) → 0xD800 ≤ c → c < 0xE000 → escaped c ≡ 0x5C ∷ 0x75 ∷ four_digits c
surrogate_escaped c l h =
    unmarked c (ne_eqb c 0x5C (λ e. omega arith)) (ne_eqb c 0x60 (λ e. omega arith)) (ne_eqb c 0x24 (λ e. omega arith)) (ne_eqb c 0x0D (λ e. omega arith))
    ∙ cond-true (leading c || trailing c) _ _ (surrogate c l h)

no_surrogate_tests : (c : ℕ) → (c < 0xD800) ⊎ (0xE000 ≤ c) → (leading c || trailing c) ≡ false
no_surrogate_tests c (inl h) = or_from (leading c) (trailing c) (not_leading_below c h) (not_trailing_below c (omega arith))
no_surrogate_tests c (inr h) = or_from (leading c) (trailing c) (not_leading_above c (omega arith)) (not_trailing_above c h)

itself_escaped : (c : ℕ) → Itself c → escaped c ≡ c ∷ []
itself_escaped c p =
    unmarked c p.no_slash p.no_tick p.no_dollar p.no_cr
    ∙ cond-false (leading c || trailing c) _ _ (no_surrogate_tests c p.no_surrogate)

-- A code point above 0xFFFF stands for itself.
pub itself_above : (c : ℕ) → 0x10000 ≤ c → escaped c ≡ c ∷ []
itself_above c l =
    itself_escaped c record {
      no_slash = ne_eqb c 0x5C (λ e. omega arith);
      no_tick = ne_eqb c 0x60 (λ e. omega arith);
      no_dollar = ne_eqb c 0x24 (λ e. omega arith);
      no_cr = ne_eqb c 0x0D (λ e. omega arith);
      no_surrogate = inr (omega arith);
    }

-- A code point by its escape.
pub data Form (c : ℕ) : Type 0 where
  marked : Mark c → escaped c ≡ 0x5C ∷ c ∷ [] → Form c
  return : c ≡ 0x0D → escaped c ≡ 0x5C ∷ 0x72 ∷ [] → Form c
  lone : 0xD800 ≤ c → c < 0xE000 → escaped c ≡ 0x5C ∷ 0x75 ∷ four_digits c → Form c
  itself : Itself c → escaped c ≡ c ∷ [] → Form c

pub form_of : (c : ℕ) → Form c
form_of c =
    elim (cases_Bool (eqb c 0x5C)) [
      | inl e ↦ mark (inl (eqb-true c 0x5C e))
      | inr a ↦ elim (cases_Bool (eqb c 0x60)) [
        | inl e ↦ mark (inr (inl (eqb-true c 0x60 e)))
        | inr b ↦ elim (cases_Bool (eqb c 0x24)) [
          | inl e ↦ mark (inr (inr (eqb-true c 0x24 e)))
          | inr d ↦ elim (cases_Bool (eqb c 0x0D)) [
            | inl e ↦ let same = eqb-true c 0x0D e in return same (cr_escaped c same)
            | inr e ↦ rest a b d e
          ]
        ]
      ]
    ]
  where
    mark : Mark c → Form c
    mark m = marked m (mark_escaped c m)

    rest : eqb c 0x5C ≡ false → eqb c 0x60 ≡ false → eqb c 0x24 ≡ false → eqb c 0x0D ≡ false → Form c
    rest a b d e =
        let own : (c < 0xD800) ⊎ (0xE000 ≤ c) → Form c = λ h.
        let p : Itself c = record { no_slash = a; no_tick = b; no_dollar = d; no_cr = e; no_surrogate = h } in
        itself p (itself_escaped c p)
        in
        ⊎_elim
        (λ low. own (inl low))
        (λ l. ⊎_elim (λ h. lone l h (surrogate_escaped c l h)) (λ up. own (inr up)) (cases_lt c 0xE000))
        (cases_lt c 0xD800)

-- A code point has a byte.
pub some_byte : (c : ℕ) → 1 ≤ length (encode c)
some_byte c = omega (arith, length-encode c, len_utf8_bounds c)
