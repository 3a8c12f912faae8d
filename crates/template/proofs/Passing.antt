-- Comparing piece by piece.
use Rattle.std.proofs.Common.{◌≡◌, ℕ, ◌≤◌, Bool, true, false, List, [], ◌∷◌, ◌++◌, Some, None, MatchBool, Option, is_some, sym, refl, ap, ◌∙◌, subst, inl, inr, arith, Bor}
use Rattle.std.proofs.lemmas.List.{append-nil, append_assoc, append_cancel_left}
use Rattle.text.specs.Stored.{stored}
use Rattle.text.specs.Utf16.{Text, utf16}
use Rattle.text.proofs.Pairing.{text_append, text_units}
use Rattle.template.specs.Comparing.{IsPassed, Passes}
use Rattle.base.specs.declared.fault.Fault.{Fault}
use Rattle.base.specs.Questions.{Refuses}
use Rattle.template.specs.Cooked.{Cooks, CooksTo, WellFormed}
use Rattle.template.specs.Cooking.{withheld}
use Rattle.template.specs.declared.comparing.Compared.{Compared}
use Rattle.template.proofs.CookWalk.{CookWalk, cook_refuse}
use Rattle.template.specs.Grammar.{TemplateCharacter, dollar, escape, continuation, line_end, other, lf, cr, ls, ps, crlf, escape_code, value, values, Allowed, AllAllowed}
use Rattle.template.proofs.EscapeValues.{escape_small}
use Rattle.template.proofs.Plains.{scalar_quiet}
use Rattle.template.proofs.Reading.{cooks_once, cooks_rest}

pub passes_nothing : (r : Option (Bor (List ℕ))) → Passes r [] r
passes_nothing None = refl
passes_nothing (Some bytes) = refl

pub passes_both : (r s t : Option (Bor (List ℕ))) (a b : List ℕ) → Passes r a s → Passes s b t → Passes r (a ++ b) t
passes_both None s t a b p q = subst (λ o. Passes o b t) p q
passes_both (Some bytes) None t a b p q = subst (Passes (Some bytes) (a ++ b)) (sym q) (λ rest e. p (b ++ rest) (e ∙ append_assoc a b rest))
passes_both (Some bytes) (Some mid) None a b p q =
    λ rest e. q rest (append_cancel_left a mid.now (b ++ rest) (sym p ∙ e ∙ append_assoc a b rest))
passes_both (Some bytes) (Some mid) (Some last) a b p q = p ∙ ap (λ l. a ++ l) q ∙ sym (append_assoc a b last.now)

-- ---- cooked raw text is a text

text_code : (c : ℕ) → c ≤ 0x10FFFF → Text (utf16 c)
text_code c h = subst Text (append-nil (utf16 c)) (text_units false (c ∷ []) (h, refl, tt))

value_text : (t : TemplateCharacter) (rest : List ℕ) → Allowed t rest → Text (value t)
value_text dollar rest a = (omega arith, tt)
value_text (escape e) rest a = text_code (escape_code e) (escape_small e rest a)
value_text (continuation l) rest a = tt
value_text (line_end lf) rest a = (omega arith, tt)
value_text (line_end cr) rest a = (omega arith, tt)
value_text (line_end ls) rest a = (omega arith, tt)
value_text (line_end ps) rest a = (omega arith, tt)
value_text (line_end crlf) rest a = (omega arith, tt)
value_text (other c) rest a = text_code c (scalar_quiet c a.0).2

values_text : (ts : List TemplateCharacter) (rest : List ℕ) → AllAllowed ts rest → Text (values ts)
values_text [] rest a = tt
values_text (t ∷ ts) rest a = text_append (value t) (values ts) (value_text t _ a.0) (values_text ts rest a.1)

cooks_text : (raw us : List ℕ) → Cooks raw us → Text us
cooks_text raw us c = subst Text c.2 (values_text c.0 [] c.1.0)

-- ---- the whole text

-- Where all that the raw text cooks to was passed, the text is that exactly where nothing is left.
pub all_passed : (raw : List ℕ) (cooked : Bor (List ℕ)) (left : Option (Bor (List ℕ))) (r : Bool) (us : List ℕ) → Cooks raw us → Passes (Some cooked) (stored us) left → MatchBool r (IsPassed left) (IsPassed left → ⊥) → MatchBool r (CooksTo raw cooked.now) (CooksTo raw cooked.now → ⊥)
all_passed raw cooked None true us c p h = absurd h
all_passed raw cooked None false us c p h =
    λ k. p [] (sym k.2.1 ∙ ap stored (cooks_once raw k.0 us k.1 c) ∙ sym (append-nil (stored us)))
all_passed raw cooked (Some rest) true us c p h =
    (us, c, (cooks_text raw us c, sym (append-nil (stored us)) ∙ ap (λ l. stored us ++ l) (sym h) ∙ sym p))
all_passed raw cooked (Some rest) false us c p h =
    λ k. h (append_cancel_left (stored us) rest.now [] (sym p ∙ sym k.2.1 ∙ ap stored (cooks_once raw k.0 us k.1 c) ∙ sym (append-nil (stored us))))

-- ---- part by part

-- Taking pieces of the text.
abbrev pub Taken : Compared → List ℕ → Compared → Type 0
Taken start piece now = Passes start.rest piece now.rest

pub nothing : (o : Option (Bor (List ℕ))) → is_some o ≡ false → o ≡ None
nothing None e = refl
nothing (Some bytes) e = absurd (subst (λ b. MatchBool b (Unit {0}) ⊥) e tt)

-- Before the first part nothing is read.
pub begun : (raw : List ℕ) (cooked : Bor (List ℕ)) → CookWalk Taken (record { rest = Some cooked }) raw raw (record { rest = Some cooked }) None
begun raw cooked = ([], refl, tt, ([], λ start bytes p. subst (λ l. Passes start.rest l (Some cooked)) (sym (append-nil bytes)) p, λ vs. refl))

-- Where what was handed on and the text part, the raw text cooks to no such text, whatever follows.
pub parted : (raw rest : List ℕ) (cooked : Bor (List ℕ)) (now : Compared) (lead : Option ℕ) → CookWalk Taken (record { rest = Some cooked }) raw rest now lead → now.rest ≡ None → CooksTo raw cooked.now → ⊥
parted raw rest cooked now lead w none k =
    let hands = w.3 in
    let front = hands.0 in
    let behind = cooks_rest w.0 rest raw k.0 w.1 w.2 k.1 in
    let more = stored (withheld lead ++ behind.0) in
    let taken : Passes (Some cooked) front None = subst (Passes (Some cooked) front) none (hands.1 (record { rest = Some cooked }) [] (passes_nothing (Some cooked))) in
    taken more (sym k.2.1 ∙ ap stored behind.2 ∙ hands.2 behind.0)

-- Nor does it where what is left of it is malformed.
pub refused : (raw rest : List ℕ) (cooked : Bor (List ℕ)) (now : Compared) (lead : Option ℕ) (e : Fault) → CookWalk Taken (record { rest = Some cooked }) raw rest now lead → Refuses (((12, 0), WellFormed rest) ∷ []) e → CooksTo raw cooked.now → ⊥
refused raw rest cooked now lead e w r k = elim (cook_refuse Taken (record { rest = Some cooked }) raw rest now lead e w r) [
  | inl bad ↦ bad.1 (k.0, k.1)
  | inr bad ↦ absurd bad.1
]
