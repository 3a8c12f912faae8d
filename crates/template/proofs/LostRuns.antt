-- Plain runs behind which nothing goes on.
use Rattle.std.proofs.Common.{◌≡◌, ℕ, ◌<◌, false, eqb, List, [], ◌∷◌, ◌++◌, length, get_or, None, sym, refl, ap, ◌∙◌, subst, inl, inr, arith}
use lib.Utf8.{encode, encodes}
use Rattle.std.proofs.lemmas.Bool.{cases_Bool, both_ways, eqb-true}
use Rattle.template.specs.Grammar.{TemplateCharacter, line_end, lf, sources, AllAllowed, starts}
use Rattle.template.specs.Cooked.{WellFormed}
use Rattle.template.specs.Raw.{Partless}
use Rattle.template.specs.Fronts.{Frontless, Parts}
use Rattle.template.specs.declared.raw.RawPart.TheVariants.{Plain, Escaped, Continuation}
use Rattle.template.proofs.Alike.{encode_some, starts_front}
use Rattle.template.proofs.Reading.{malformed_more, read_past}
use Rattle.template.proofs.Runs.{run, run_allowed}
use Rattle.template.proofs.Fronting.{malformed, part_source, unbegun}
use Rattle.template.proofs.PlainRuns.{Run, Ends, run_bytes, run_slash, ends_short}

-- Where nothing goes on behind a run, no line feed does.
no_feed : (rest : List ℕ) → Frontless rest → starts (λ c. eqb c 0x0A) rest ≡ false
unfolding encode
no_feed [] bad = refl
no_feed (b ∷ rest) bad = elim (cases_Bool (eqb b 0x0A)) [
  | inl h ↦ absurd (bad (line_end lf) rest tt (ap (λ x. x ∷ rest) (sym (eqb-true b 0x0A h))))
  | inr h ↦ h
]

-- There all is malformed.
run_malformed : (raw rest : List ℕ) → Run raw rest → 0 < length rest → Frontless rest → WellFormed raw → ⊥
run_malformed raw rest r some bad =
    malformed_more (run r.0) rest raw (sym (run_bytes raw rest r)) (run_allowed r.0 rest r.2 (no_feed rest bad)) (malformed rest some bad)

-- A plain part does not end inside the run.
ends_inside : (d : ℕ) (end more : List ℕ) → end ≡ encode d ++ more → eqb d 0x5C ≡ false → Ends end → ⊥
ends_inside d end more e unlike (inl stop) = omega (arith, ap length (sym e ∙ stop), encode_some d more)
ends_inside d end more e unlike (inr stop) = both_ways (eqb d 0x5C) unlike (starts_front (λ b. eqb b 0x5C) (λ x k. omega (arith, eqb-true x 0x5C k)) d end more e ∙ stop)

-- Nor does it end behind the run, or at its end.
past_run : (rest end : List ℕ) → 0 < length rest → (get_or rest 0 0 ≡ 0x5C → ⊥) → Frontless rest → Ends end → (ws : List TemplateCharacter) → AllAllowed ws end → encodes (sources ws) ++ end ≡ rest → ⊥
past_run rest end some next bad stop [] a e = ends_short rest (subst Ends e stop) some next
past_run rest end some next bad stop (w ∷ ws) a e = unbegun rest bad (w ∷ ws) end (omega arith) a e

-- So no part stands at the front.
run_partless : (raw rest : List ℕ) → Run raw rest → (get_or raw 0 0 ≡ 0x5C → ⊥) → 0 < length rest → (get_or rest 0 0 ≡ 0x5C → ⊥) → Frontless rest → Partless raw
unfolding encode
run_partless raw rest r front some next bad (Plain bytes) end p =
    let own = run_allowed r.0 rest r.2 (no_feed rest bad) in
    elim (read_past (run r.0) p.0 rest end raw (sym (run_bytes raw rest r)) own (part_source (Plain bytes) raw end p) p.4) [
      | inl w ↦ past_run rest end some next bad p.1.2 w.0 w.1 w.2
      | inr w ↦ ends_inside w.0 end (encodes w.1 ++ rest) w.3 (run_slash raw rest r (sources p.0) w.0 w.1 w.2) p.1.2
    ]
run_partless raw rest r front some next bad (Escaped bytes code) end p =
    front (ap (λ xs. get_or xs 0 0) (sym (part_source (Escaped bytes code) raw end p) ∙ ap (λ ts. encodes (sources ts) ++ end) p.1.1))
run_partless raw rest r front some next bad (Continuation bytes) end p =
    front (ap (λ xs. get_or xs 0 0) (sym (part_source (Continuation bytes) raw end p) ∙ ap (λ ts. encodes (sources ts) ++ end) p.1.1))

pub run_lost : (raw rest : List ℕ) → Run raw rest → (get_or raw 0 0 ≡ 0x5C → ⊥) → 0 < length rest → (get_or rest 0 0 ≡ 0x5C → ⊥) → Frontless rest → Parts raw None
run_lost raw rest r front some next bad = (run_malformed raw rest r some bad, run_partless raw rest r front some next bad)
