-- The walk over raw text: what was read and handed on so far.
use Rattle.std.proofs.Common.{◌≡◌, ℕ, ◌<◌, List, [], ◌∷◌, ◌++◌, length, Some, None, Ok, Option, sym, refl, ap, ◌∙◌, subst, inl, inr, append_assoc, arith, length-append, Bor, false}
use lib.Utf8.{encodes}
use Rattle.std.proofs.lemmas.List.{append-nil}
use Rattle.std.proofs.lemmas.Str.{encodes-append, length-le-encodes}
use Rattle.base.specs.declared.fault.Fault.{Fault}
use Rattle.base.specs.Questions.{Refuses}
use Rattle.text.specs.Stored.{stored}
use Rattle.template.specs.Cooked.{Cooks, WellFormed}
use Rattle.template.specs.Cooking.{Hands, HandsPart, withheld}
use Rattle.template.specs.Grammar.{TemplateCharacter, sources, values, AllAllowed}
use Rattle.template.specs.Lines.{normal}
use Rattle.template.specs.Sinks.{Adds}
use Rattle.template.specs.Raw.{left_of, part_bytes, Reads, NextPart}
use Rattle.template.specs.declared.raw.RawPart.{RawPart}
use Rattle.template.specs.declared.raw.RawPart.TheVariants.{Plain}
use Rattle.template.specs.declared.raw.RawReader.{RawReader}
use Rattle.template.proofs.Adding.{adds_both}
use Rattle.template.proofs.Alike.{allowed_bytes}
use Rattle.template.proofs.Matching.{becomes_both, becomes_all, run_becomes}
use Rattle.template.proofs.Reading.{sources_append, sources_some, values_append, all_allowed_append, malformed_more}
use Rattle.template.proofs.Fronting.{holds_some, part_source}

-- ---- a part

-- The part that was read.
pub part_read : (left right : RawReader) (found : Option RawPart) (part : RawPart) → found ≡ Some part → NextPart left right (Ok found) → Reads part (left_of left) (left_of right)
part_read left right found part e n = subst (λ o. NextPart left right (Ok o)) e n

-- A part is not empty.
pub part_less : (part : RawPart) (left rest : List ℕ) → Reads part left rest → length rest < length left
part_less part left rest r =
    omega (arith, ap length r.3, length-append (part_bytes part) rest, ap length r.2.1, length-le-encodes (sources r.0), sources_some r.0 (holds_some part rest r.0 r.1))

-- ---- the walk

-- Template characters were read whose source and the rest are the raw text, and their template value is handed on.
abbrev pub CookWalk : {S : Type 0} (Took : S → List ℕ → S → Type 0) (start : S) (raw rest : List ℕ) (now : S) (lead : Option ℕ) → Type 0
CookWalk Took start raw rest now lead =
    (ts : List TemplateCharacter) × (encodes (sources ts) ++ rest ≡ raw) × AllAllowed ts rest × Hands Took start None (values ts) now lead

-- Where the rest is malformed, so is the whole.
pub cook_refuse : {S : Type 0} (Took : S → List ℕ → S → Type 0) (start : S) (raw rest : List ℕ) (now : S) (lead : Option ℕ) (e : Fault) → CookWalk Took start raw rest now lead → Refuses (((12, 0), WellFormed rest) ∷ []) e → Refuses (((12, 0), (us : List ℕ) × Cooks raw us) ∷ []) e
cook_refuse Took start raw rest now lead e w (inl bad) = inl (bad.0, λ c. malformed_more w.0 rest raw w.1 w.2 bad.1 (c.1.0, c.1.1))
cook_refuse Took start raw rest now lead e w (inr bad) = absurd bad.1

module _ {S : Type 0} (Took : S → List ℕ → S → Type 0) where
  -- A plain run: the withheld surrogate comes first.
  pub plain_part : (s t u : S) (lead : Option ℕ) (part : RawPart) (run : Bor (List ℕ)) → part ≡ Plain run → Adds Took s (stored (withheld lead)) t → Adds Took t (normal false run.now) u → HandsPart Took s lead part u None
  plain_part s t u lead part run e p q =
      subst (λ x. HandsPart Took s lead x u None) (sym e)
      (λ rest ts h spells. (stored (withheld lead) ++ normal false run.now, adds_both Took s t u (stored (withheld lead)) (normal false run.now) p q, run_becomes lead run.now ts h.0 h.1 spells))

  -- One part more.
  pub cook_step : (start : S) (raw left rest : List ℕ) (now next : S) (lead last : Option ℕ) (part : RawPart) → CookWalk Took start raw left now lead → Reads part left rest → HandsPart Took now lead part next last → CookWalk Took start raw rest next last
  cook_step start raw left rest now next lead last part w r hands =
      let ts = w.0 in
      let us = r.0 in
      let h = hands rest us r.1 r.2 in
      let all : encodes (sources (ts ++ us)) ≡ encodes (sources ts) ++ part_bytes part =
      ap encodes (sources_append ts us) ∙ encodes-append (sources ts) (sources us) ∙ ap (λ l. encodes (sources ts) ++ l) r.2.1
      in (
        ts ++ us,
        ap (λ l. l ++ rest) all
            ∙ append_assoc (encodes (sources ts)) (part_bytes part) rest
            ∙ ap (λ l. encodes (sources ts) ++ l) (sym r.3)
            ∙ w.1,
        all_allowed_append ts us rest (allowed_bytes ts (sources us) rest (subst (AllAllowed ts) (sym (part_source part left rest r)) w.2)) r.4,
        subst (λ vs. Hands Took start None vs next last) (sym (values_append ts us))
            (w.3.0 ++ h.0, adds_both Took start now next w.3.0 h.0 w.3.1 h.1, becomes_both None lead last (values ts) (values us) w.3.0 h.0 w.3.2 h.2),
      )

  -- At the end the raw text is cooked.
  pub cook_finish : (start : S) (raw rest : List ℕ) (now last : S) (lead : Option ℕ) → CookWalk Took start raw rest now lead → rest ≡ [] → Adds Took now (stored (withheld lead)) last → (us : List ℕ) × Cooks raw us × Adds Took start (stored us) last
  cook_finish start raw rest now last lead w none takes =
      let ts = w.0 in
      let whole : encodes (sources ts) ≡ raw = sym (append-nil (encodes (sources ts))) ∙ ap (λ l. encodes (sources ts) ++ l) (sym none) ∙ w.1 in (
        values ts,
        (ts, (subst (AllAllowed ts) none w.2, whole), refl),
        subst (λ l. Adds Took start l last) (becomes_all (values ts) w.3.0 lead w.3.2) (adds_both Took start now last w.3.0 (stored (withheld lead)) w.3.1 takes),
      )
