-- The template value of a plain run.
use Rattle.std.proofs.Common.{◌≡◌, ℕ, ◌<◌, ◌≤◌, Bool, true, false, ◌&&◌, ◌||◌, eqb, List, [], ◌∷◌, ◌++◌, length, sym, refl, ap, ◌∙◌, ⊎_elim, arith}
use lib.Utf8.{scalar, scalars, encodes, scalar_cases}
use Rattle.std.proofs.lemmas.List.{append-nil}
use Rattle.std.proofs.lemmas.Bool.{and_from, and_parts, or_parts, cond-false, cond_both}
use Rattle.text.specs.Utf16.{leading, trailing, utf16, units}
use Rattle.text.proofs.Pairing.{not_leading_below, not_leading_above, not_trailing_below, not_trailing_above}
use Rattle.template.specs.Grammar.{TemplateCharacter, dollar, escape, continuation, line_end, other, lf, cr, ls, ps, crlf, starts, sources, values, AllAllowed, is_line_terminator}
use Rattle.template.specs.Lines.{normal}
use Rattle.template.specs.Cooked.{Spells}
use Rattle.template.specs.Raw.{Unescaped}
use Rattle.template.proofs.Runs.{normal_after, normal_encodes}

-- ---- scalars are no surrogates

pub scalar_quiet : (c : ℕ) → scalar c ≡ true → (leading c ≡ false) × (trailing c ≡ false) × (c ≤ 0x10FFFF)
scalar_quiet c e =
    ⊎_elim
    (λ h. (not_leading_below c h, not_trailing_below c (omega arith), omega arith))
    (λ h. (not_leading_above c (omega arith), not_trailing_above c h.0, omega arith))
    (scalar_cases c e)

-- ---- line ends

normal_scalars : (b : Bool) (cs : List ℕ) → scalars cs ≡ true → scalars (normal b cs) ≡ true
normal_scalars b [] e = refl
normal_scalars b (c ∷ cs) e =
    let p = and_parts (scalar c) (scalars cs) e in
    cond_both (eqb c 0x0D) _ _ (λ l. scalars l ≡ true)
    (λ _. normal_scalars true cs p.1)
    (λ _. cond_both (b && eqb c 0x0A) _ _ (λ l. scalars l ≡ true)
    (λ _. normal_scalars false cs p.1)
    (λ _. and_from (scalar c) (scalars (normal false cs)) p.0 (normal_scalars false cs p.1)))

-- A run does not vanish.
normal_some : (cs : List ℕ) → 0 < length cs → 0 < length (normal false cs)
normal_some [] h = h
normal_some (c ∷ cs) h = cond_both (eqb c 0x0D) _ _ (λ l. 0 < length l) (λ _. omega arith) (λ _. omega arith)

-- ---- template characters without a backslash

unescaped_scalars : (ts : List TemplateCharacter) → Unescaped ts → AllAllowed ts [] → scalars (sources ts) ≡ true
unescaped_scalars [] u a = refl
unescaped_scalars (dollar ∷ ts) u a = unescaped_scalars ts u a.1
unescaped_scalars (escape e ∷ ts) u a = absurd u
unescaped_scalars (continuation l ∷ ts) u a = absurd u
unescaped_scalars (line_end lf ∷ ts) u a = unescaped_scalars ts u a.1
unescaped_scalars (line_end cr ∷ ts) u a = unescaped_scalars ts u a.1
unescaped_scalars (line_end ls ∷ ts) u a = unescaped_scalars ts u a.1
unescaped_scalars (line_end ps ∷ ts) u a = unescaped_scalars ts u a.1
unescaped_scalars (line_end crlf ∷ ts) u a = unescaped_scalars ts u a.1
unescaped_scalars (other c ∷ ts) u a = and_from (scalar c) (scalars (sources ts)) a.0.0 (unescaped_scalars ts u a.1)

not_cr : (c : ℕ) → is_line_terminator c ≡ false → eqb c 0x0D ≡ false
not_cr c e =
    (or_parts (eqb c 0x0A) (eqb c 0x0D)
    (or_parts (eqb c 0x0A || eqb c 0x0D) (eqb c 0x2028) (or_parts (eqb c 0x0A || eqb c 0x0D || eqb c 0x2028) (eqb c 0x2029) e).0).0).1

unescaped_values : (ts : List TemplateCharacter) → Unescaped ts → AllAllowed ts [] → values ts ≡ units (normal false (sources ts))
unescaped_values [] u a = refl
unescaped_values (dollar ∷ ts) u a = ap (λ l. 0x24 ∷ l) (unescaped_values ts u a.1)
unescaped_values (escape e ∷ ts) u a = absurd u
unescaped_values (continuation l ∷ ts) u a = absurd u
unescaped_values (line_end lf ∷ ts) u a = ap (λ l. 0x0A ∷ l) (unescaped_values ts u a.1)
unescaped_values (line_end cr ∷ ts) u a =
    let apart : starts (λ c. eqb c 0x0A) (sources ts) ≡ false = ap (starts (λ c. eqb c 0x0A)) (sym (append-nil (sources ts))) ∙ a.0 in
    ap (λ l. 0x0A ∷ l) (unescaped_values ts u a.1 ∙ ap units (sym (normal_after (sources ts) apart)))
unescaped_values (line_end ls ∷ ts) u a = ap (λ l. 0x2028 ∷ l) (unescaped_values ts u a.1)
unescaped_values (line_end ps ∷ ts) u a = ap (λ l. 0x2029 ∷ l) (unescaped_values ts u a.1)
unescaped_values (line_end crlf ∷ ts) u a = ap (λ l. 0x0A ∷ l) (unescaped_values ts u a.1)
unescaped_values (other c ∷ ts) u a =
    ap (λ l. utf16 c ++ l) (unescaped_values ts u a.1) ∙ ap units (sym (cond-false (eqb c 0x0D) _ _ (not_cr c a.0.2)))

sources_some : (ts : List TemplateCharacter) → Unescaped ts → 0 < length ts → 0 < length (sources ts)
sources_some [] u h = h
sources_some (dollar ∷ ts) u h = omega arith
sources_some (escape e ∷ ts) u h = absurd u
sources_some (continuation l ∷ ts) u h = absurd u
sources_some (line_end lf ∷ ts) u h = omega arith
sources_some (line_end cr ∷ ts) u h = omega arith
sources_some (line_end ls ∷ ts) u h = omega arith
sources_some (line_end ps ∷ ts) u h = omega arith
sources_some (line_end crlf ∷ ts) u h = omega arith
sources_some (other c ∷ ts) u h = omega arith

-- The code points that a plain run stands for: its own with LF for each line end.
pub plain_points : (run : List ℕ) (ts : List TemplateCharacter) → Unescaped ts → 0 < length ts → Spells run ts → (ds : List ℕ) × (scalars ds ≡ true) × (0 < length ds) × (normal false run ≡ encodes ds) × (values ts ≡ units ds)
plain_points run ts u some s = (
  normal false (sources ts),
  normal_scalars false (sources ts) (unescaped_scalars ts u s.0),
  normal_some (sources ts) (sources_some ts u some),
  ap (normal false) (sym s.1) ∙ normal_encodes false (sources ts),
  unescaped_values ts u s.0,
)
