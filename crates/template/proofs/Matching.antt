-- What units are, in stored form, behind a withheld surrogate and before whatever follows.
use Rattle.std.proofs.Common.{◌≡◌, ℕ, ◌+◌, ◌-◌, ◌/◌, ◌%◌, ◌<◌, ◌≤◌, true, false, List, [], ◌∷◌, ◌++◌, length, Some, None, Option, sym, refl, ap, ◌∙◌, ⊎_elim, arith}
use lib.Utf8.{scalar, scalars, encode, encodes}
use Rattle.std.proofs.lemmas.List.{append-nil, append_assoc}
use Rattle.std.proofs.lemmas.Bool.{and_left, and_right, and_parts, and_cases, both_ways, cases_lt}
use Rattle.std.specs.Option.{ForSome}
use Rattle.text.specs.Laws.{begins_trailing}
use Rattle.text.specs.Points.{ends}
use Rattle.text.specs.Stored.{stored}
use Rattle.text.specs.Utf16.{leading, trailing, utf16, units}
use Rattle.text.proofs.Pairing.{leading_range, trailing_range, not_leading_above, not_trailing_below, points_units, utf16_above, utf16_below}
use Rattle.text.proofs.Rejoin.{joins_as_units}
use Rattle.template.specs.Cooking.{Apart, Becomes, Completes, withheld}
use Rattle.template.specs.Cooked.{Spells}
use Rattle.template.specs.Grammar.{TemplateCharacter, values}
use Rattle.template.specs.Lines.{normal}
use Rattle.template.specs.Raw.{Unescaped}
use Rattle.template.proofs.Plains.{scalar_quiet, plain_points}

-- ---- the stored form of units before more units

-- The units of a code point.
stored_one : (c : ℕ) → c ≤ 0x10FFFF → stored (utf16 c) ≡ encode c
stored_one c h = ap stored (sym (append-nil (utf16 c))) ∙ ap encodes (points_units false (c ∷ []) (h, refl, tt)) ∙ append-nil (encode c)

ends_quiet : (c : ℕ) → leading c ≡ false → ends false (utf16 c) ≡ false
ends_quiet c q =
    ⊎_elim
    (λ small. ap (ends false) (utf16_below c small) ∙ q)
    (λ large. ap (ends false) (utf16_above c large) ∙ not_leading_above ((c - 0x10000) % 0x400 + 0xDC00) (omega arith))
    (cases_lt c 0x10000)

begins_quiet : (c : ℕ) (vs : List ℕ) → c ≤ 0x10FFFF → trailing c ≡ false → begins_trailing (utf16 c ++ vs) ≡ false
begins_quiet c vs h q =
    ⊎_elim
    (λ small. ap (λ l. begins_trailing (l ++ vs)) (utf16_below c small) ∙ q)
    (λ large. ap (λ l. begins_trailing (l ++ vs)) (utf16_above c large) ∙ not_trailing_below ((c - 0x10000) / 0x400 + 0xD800) (omega arith))
    (cases_lt c 0x10000)

-- A code point that is no leading surrogate makes no pair with what follows.
stored_quiet : (c : ℕ) (vs : List ℕ) → c ≤ 0x10FFFF → leading c ≡ false → stored (utf16 c ++ vs) ≡ encode c ++ stored vs
stored_quiet c vs h q =
    joins_as_units.0 (utf16 c) vs (and_left (ends false (utf16 c)) (begins_trailing vs) (ends_quiet c q)) ∙ ap (λ l. l ++ stored vs) (stored_one c h)

stored_scalars : (cs vs : List ℕ) → scalars cs ≡ true → stored (units cs ++ vs) ≡ encodes cs ++ stored vs
stored_scalars [] vs e = refl
stored_scalars (c ∷ cs) vs e =
    let p = and_parts (scalar c) (scalars cs) e in
    let q = scalar_quiet c p.0 in
    ap stored (append_assoc (utf16 c) (units cs) vs)
    ∙ stored_quiet c (units cs ++ vs) q.2 q.0
    ∙ ap (λ l. encode c ++ l) (stored_scalars cs vs p.1)
    ∙ sym (append_assoc (encode c) (encodes cs) (stored vs))

-- ---- what the withheld surrogate makes with what follows

-- A trailing surrogate.
pub pair_becomes : (lead : Option ℕ) (c x : ℕ) → Completes lead c x → Becomes lead (utf16 c) (encode x) None
pair_becomes lead c x k vs =
    let t = trailing_range c k.3 in
    ap (λ o. stored (withheld o ++ (utf16 c ++ vs))) k.1
    ∙ ap (λ l. stored (k.0 ∷ (l ++ vs))) (utf16_below c (omega arith))
    ∙ joins_as_units.1 [] vs k.0 c k.2 k.3
    ∙ ap (λ y. encode y ++ stored vs) (sym k.4)

-- Any other code point: the withheld surrogate comes first.
module _ (lead : Option ℕ) (c : ℕ) (half : ForSome lead (λ h. leading h ≡ true)) (small : c ≤ 0x10FFFF) (apart : Apart lead c) where
  apart_form : (vs : List ℕ) → stored (withheld lead ++ (utf16 c ++ vs)) ≡ stored (withheld lead) ++ stored (utf16 c ++ vs)
  apart_form vs = go lead half apart
    where
      go : (o : Option ℕ) → ForSome o (λ h. leading h ≡ true) → Apart o c → stored (withheld o ++ (utf16 c ++ vs)) ≡ stored (withheld o) ++ stored (utf16 c ++ vs)
      go None half k = refl
      go (Some l) half k =
          let quiet : trailing c ≡ false = ⊎_elim (λ n. absurd (both_ways (leading l) n (half l refl))) (λ n. n) (and_cases (leading l) (trailing c) k) in
          joins_as_units.0 (l ∷ []) (utf16 c ++ vs) (and_right (leading l) (begins_trailing (utf16 c ++ vs)) (begins_quiet c vs small quiet))

  -- A leading surrogate is withheld in its turn.
  pub lead_becomes : (h : ℕ) → h ≡ c → leading c ≡ true → Becomes lead (utf16 c) (stored (withheld lead)) (Some h)
  lead_becomes h same l vs =
      let t = leading_range c l in
      apart_form vs
      ∙ ap (λ us. stored (withheld lead) ++ stored (us ++ vs)) (utf16_below c (omega arith) ∙ ap (λ y. y ∷ []) (sym same))

  pub code_becomes : leading c ≡ false → Becomes lead (utf16 c) (stored (withheld lead) ++ encode c) None
  code_becomes q vs =
      apart_form vs
      ∙ ap (λ l. stored (withheld lead) ++ l) (stored_quiet c vs small q)
      ∙ sym (append_assoc (stored (withheld lead)) (encode c) (stored vs))

-- Characters that are no surrogates.
begins_scalars : (cs vs : List ℕ) → scalars cs ≡ true → 0 < length cs → begins_trailing (units cs ++ vs) ≡ false
begins_scalars [] vs e h = absurd (omega arith)
begins_scalars (c ∷ cs) vs e h =
    let q = scalar_quiet c (and_parts (scalar c) (scalars cs) e).0 in
    ap begins_trailing (append_assoc (utf16 c) (units cs) vs) ∙ begins_quiet c (units cs ++ vs) q.2 q.1

-- A plain run.
pub run_becomes : (lead : Option ℕ) (run : List ℕ) (ts : List TemplateCharacter) → Unescaped ts → 0 < length ts → Spells run ts → Becomes lead (values ts) (stored (withheld lead) ++ normal false run) None
run_becomes lead run ts u some s vs =
    let p = plain_points run ts u some s in
    let ds = p.0 in
    ap (λ l. stored (withheld lead ++ (l ++ vs))) p.4
    ∙ joins_as_units.0 (withheld lead) (units ds ++ vs) (and_right (ends false (withheld lead)) (begins_trailing (units ds ++ vs)) (begins_scalars ds vs p.1 p.2))
    ∙ ap (λ l. stored (withheld lead) ++ l) (stored_scalars ds vs p.1)
    ∙ ap (λ l. stored (withheld lead) ++ (l ++ stored vs)) (sym p.3)
    ∙ sym (append_assoc (stored (withheld lead)) (normal false run) (stored vs))

-- ---- handing on

-- Units behind units.
pub becomes_both : (o p q : Option ℕ) (us vs a b : List ℕ) → Becomes o us a p → Becomes p vs b q → Becomes o (us ++ vs) (a ++ b) q
becomes_both o p q us vs a b f g ws =
    ap (λ l. stored (withheld o ++ l)) (append_assoc us vs ws) ∙ f (vs ++ ws) ∙ ap (λ l. a ++ l) (g ws) ∙ sym (append_assoc a b (stored (withheld q ++ ws)))

-- At the end what is withheld is the rest.
pub becomes_all : (us front : List ℕ) (next : Option ℕ) → Becomes None us front next → front ++ stored (withheld next) ≡ stored us
becomes_all us front next f = ap (λ l. front ++ stored l) (sym (append-nil (withheld next))) ∙ sym (f []) ∙ ap stored (append-nil us)
