-- Plain runs, character by character.
use Rattle.std.proofs.Common.{◌≡◌, ℕ, ◌<◌, true, false, eqb, ◌⊎◌, List, [], ◌∷◌, ◌++◌, length, get_or, sym, refl, ap, ◌∙◌, subst, inl, inr, arith}
use lib.Utf8.{scalar, encode, encodes}
use Rattle.std.proofs.lemmas.Bool.{cond_both, eqb-true, eq-eqb}
use Rattle.std.proofs.lemmas.List.{append-nil, append_assoc}
use Rattle.std.proofs.lemmas.Str.{encodes-append}
use Rattle.template.specs.Grammar.{TemplateCharacter, dollar, escape, continuation, line_end, other, lf, cr, ls, ps, crlf, sources, AllAllowed, starts}
use Rattle.template.specs.Raw.{Unescaped}
use Rattle.template.specs.Fronts.{PlainAt}
use Rattle.template.proofs.Runs.{Plain, run, run_source, run_allowed, after_cr, plain}
use Rattle.template.proofs.Alike.{starts_front}

-- The reading of plain text has no backslash.
plain_unescaped : (c : ℕ) (ts : List TemplateCharacter) → Unescaped ts → Unescaped (plain c ∷ ts)
plain_unescaped c ts h =
    cond_both (eqb c 0x24) _ _ P (λ _. h)
    (λ _. cond_both (eqb c 0x0A) _ _ P (λ _. h)
    (λ _. cond_both (eqb c 0x2028) _ _ P (λ _. h)
    (λ _. cond_both (eqb c 0x2029) _ _ P (λ _. h) (λ _. h))))
  where
    P : TemplateCharacter → Type 0
    P t = Unescaped (t ∷ ts)

cr_unescaped : (ts : List TemplateCharacter) → Unescaped ts → Unescaped (after_cr ts)
cr_unescaped [] h = tt
cr_unescaped (dollar ∷ ts) h = h
cr_unescaped (escape e ∷ ts) h = absurd h
cr_unescaped (continuation l ∷ ts) h = absurd h
cr_unescaped (line_end lf ∷ ts) h = h
cr_unescaped (line_end cr ∷ ts) h = h
cr_unescaped (line_end ls ∷ ts) h = h
cr_unescaped (line_end ps ∷ ts) h = h
cr_unescaped (line_end crlf ∷ ts) h = h
cr_unescaped (other c ∷ ts) h = h

run_unescaped : (cs : List ℕ) → Unescaped (run cs)
run_unescaped [] = tt
run_unescaped (c ∷ cs) =
    cond_both (eqb c 0x0D) _ _ Unescaped (λ _. cr_unescaped (run cs) (run_unescaped cs)) (λ _. plain_unescaped c (run cs) (run_unescaped cs))

-- One plain character more.
plain_push : (done : List ℕ) (c : ℕ) (cs : List ℕ) → Plain done (c ∷ cs) → scalar c ≡ true → eqb c 0x60 ≡ false → eqb c 0x5C ≡ false → (eqb c 0x24 ≡ true → starts (λ d. eqb d 0x7B) cs ≡ false) → Plain (done ++ c ∷ []) cs
plain_push [] c cs p s t b d = (s, t, b, d, tt)
plain_push (e ∷ done) c cs p s t b d = (
  p.0,
  p.1,
  p.2,
  λ h. ap (starts (λ x. eqb x 0x7B)) (append_assoc done (c ∷ []) cs) ∙ p.3 h,
  plain_push done c cs p.4 s t b d,
)

-- What is plain before one text is plain before another that begins with { only if the first does.
plain_before : (done xs ys : List ℕ) → (starts (λ d. eqb d 0x7B) xs ≡ false → starts (λ d. eqb d 0x7B) ys ≡ false) → Plain done xs → Plain done ys
plain_before [] xs ys f p = tt
plain_before (c ∷ done) xs ys f p = (p.0, p.1, p.2, λ h. go done (p.3 h), plain_before done xs ys f p.4)
  where
    go : (cs : List ℕ) → starts (λ d. eqb d 0x7B) (cs ++ xs) ≡ false → starts (λ d. eqb d 0x7B) (cs ++ ys) ≡ false
    go [] h = f h
    go (d ∷ cs) h = h

-- A run without a backslash stands in front of the rest, and is plain before it.
abbrev pub Run : List ℕ → List ℕ → Type 0
Run raw rest = (done : List ℕ) × (raw ≡ encodes done ++ rest) × Plain done rest

pub run_none : (raw : List ℕ) → Run raw raw
run_none raw = ([], refl, tt)

pub run_more : (raw rest more : List ℕ) → Run raw rest → PlainAt rest more → Run raw more
run_more raw rest more r p =
    let done = r.0 in
    let c = p.0 in
    let split = p.5 in (
      done ++ c ∷ [],
      r.1 ∙ ap (λ xs. encodes done ++ xs) (split ∙ ap (λ xs. xs ++ more) (sym (append-nil (encode c)))) ∙ sym (append_assoc (encodes done) (encodes (c ∷ [])) more) ∙ ap (λ xs. xs ++ more) (sym (encodes-append done (c ∷ []))),
      plain_push done c more (plain_before done rest (c ∷ more) (λ h. starts_front (λ x. eqb x 0x7B) (λ x k. omega (arith, eqb-true x 0x7B k)) c rest more split ∙ h) r.2) p.1 p.2 p.3 p.4,
    )

-- The reading of a run, on its own.
run_alone : (raw rest : List ℕ) (r : Run raw rest) → AllAllowed (run r.0) []
run_alone raw rest r = run_allowed r.0 [] (plain_before r.0 rest [] (λ _. refl) r.2) refl

pub run_bytes : (raw rest : List ℕ) (r : Run raw rest) → raw ≡ encodes (sources (run r.0)) ++ rest
run_bytes raw rest r = r.1 ∙ ap (λ cs. encodes cs ++ rest) (sym (run_source r.0))

-- The end of a run: nothing, or a backslash.
abbrev pub Ends : List ℕ → Type 0
Ends rest = (rest ≡ []) ⊎ (starts (λ b. eqb b 0x5C) rest ≡ true)

pub ends_at : (rest : List ℕ) → (0 < length rest → get_or rest 0 0 ≡ 0x5C) → Ends rest
ends_at [] h = inl refl
ends_at (b ∷ rest) h = inr (eq-eqb b 0x5C (h (omega arith)))

ends_feed : (rest : List ℕ) → Ends rest → starts (λ b. eqb b 0x0A) rest ≡ false
ends_feed [] e = refl
ends_feed (b ∷ rest) (inl e) = absurd (omega (arith, ap length e))
ends_feed (b ∷ rest) (inr e) = ap (λ x. eqb x 0x0A) (eqb-true b 0x5C e)

-- A run that stops behind no character began with a backslash or with nothing.
pub ends_short : (raw : List ℕ) → Ends raw → 0 < length raw → (get_or raw 0 0 ≡ 0x5C → ⊥) → ⊥
ends_short [] e l h = omega arith
ends_short (b ∷ raw) (inl e) l h = omega (arith, ap length e)
ends_short (b ∷ raw) (inr e) l h = h (eqb-true b 0x5C e)

some_read : (ts : List TemplateCharacter) (c : ℕ) (cs : List ℕ) → sources ts ≡ c ∷ cs → 0 < length ts
some_read [] c cs e = absurd (omega (arith, ap length e))
some_read (t ∷ ts) c cs e = omega arith

run_some : (raw rest : List ℕ) (r : Run raw rest) → Ends rest → 0 < length raw → (get_or raw 0 0 ≡ 0x5C → ⊥) → 0 < length (run r.0)
run_some raw rest r e l h = go r.0 r.1
  where
    go : (done : List ℕ) → raw ≡ encodes done ++ rest → 0 < length (run done)
    go [] b = absurd (ends_short raw (subst Ends (sym b) e) l h)
    go (c ∷ cs) b = some_read (run (c ∷ cs)) c cs (run_source (c ∷ cs))

-- No character of a run is a backslash.
pub run_slash : (raw rest : List ℕ) (r : Run raw rest) (cs : List ℕ) (d : ℕ) (ds : List ℕ) → sources (run r.0) ≡ cs ++ d ∷ ds → eqb d 0x5C ≡ false
run_slash raw rest r cs d ds e = go cs (subst (λ xs. Plain xs rest) (sym (run_source r.0) ∙ e) r.2)
  where
    go : (xs : List ℕ) → Plain (xs ++ d ∷ ds) rest → eqb d 0x5C ≡ false
    go [] p = p.2
    go (x ∷ xs) p = go xs p.4

pub run_found : (raw rest : List ℕ) → Run raw rest → Ends rest → 0 < length raw → (get_or raw 0 0 ≡ 0x5C → ⊥) → (ts : List TemplateCharacter) × (Unescaped ts × (0 < length ts) × Ends rest) × (raw ≡ encodes (sources ts) ++ rest) × AllAllowed ts [] × AllAllowed ts rest
run_found raw rest r e l h = (
  run r.0,
  (run_unescaped r.0, run_some raw rest r e l h, e),
  run_bytes raw rest r,
  run_alone raw rest r,
  run_allowed r.0 rest r.2 (ends_feed rest e),
)
