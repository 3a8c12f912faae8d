-- The first no, question by question.
use Rattle.std.proofs.Common.{◌≡◌, ℕ, Bool, true, false, List, [], ◌∷◌, Some, None, inl, inr, refl, sym, ap, ◌∙◌, arith}
use Rattle.base.specs.declared.fault.Fault.{Fault}
use Rattle.base.specs.Questions.{Questions, named, Refuses, Granted}
use Rattle.host.proofs.Knowing.{false_true}
use Rattle.witnesses.specs.Refusals.{answered, first_no, TheFirstNoIsNamed}

none_is_some : {A : Type 0} {a : A} → None ≡ Some a → ⊥
none_is_some e = let z : ◌≡◌ {A = ℕ} 0 1 = cc in omega arith

to_first : (bs : List ((ℕ × ℕ) × Bool)) (e : Fault) → Refuses (answered bs) e → first_no bs ≡ Some (named e)
to_first [] e h = elim h [ ]
to_first ((k, true) ∷ bs) e (inl (p, fails)) = absurd (fails refl)
to_first ((k, true) ∷ bs) e (inr (so, r)) = to_first bs e r
to_first ((k, false) ∷ bs) e (inl (p, fails)) = ap Some (sym p)
to_first ((k, false) ∷ bs) e (inr (so, r)) = absurd (false_true so)

from_first : (bs : List ((ℕ × ℕ) × Bool)) (e : Fault) → first_no bs ≡ Some (named e) → Refuses (answered bs) e
from_first [] e h = absurd (none_is_some h)
from_first ((k, true) ∷ bs) e h = inr (refl, from_first bs e h)
from_first ((k, false) ∷ bs) e h = let p : k ≡ named e = cc in inl (sym p, λ so. false_true so)

to_none : (bs : List ((ℕ × ℕ) × Bool)) → Granted (answered bs) → first_no bs ≡ None
to_none [] h = refl
to_none ((k, true) ∷ bs) h = to_none bs h.1
to_none ((k, false) ∷ bs) h = absurd (false_true h.0)

from_none : (bs : List ((ℕ × ℕ) × Bool)) → first_no bs ≡ None → Granted (answered bs)
from_none [] h = tt
from_none ((k, true) ∷ bs) h = (refl, from_none bs h)
from_none ((k, false) ∷ bs) h = absurd (none_is_some (sym h))

pub first_named : TheFirstNoIsNamed
first_named = record {
  refused = λ bs e. (to_first bs e, from_first bs e);
  granted = λ bs. (to_none bs, from_none bs);
  by_node = inr (refl, inl (refl, λ h. omega (arith, h)));
}

-- So one fault at most is named.
pub one_named : (qs : Questions) (e f : Fault) → Refuses qs e → Refuses qs f → named e ≡ named f
one_named [] e f h _ = elim h [ ]
one_named (q ∷ qs) e f (inl (p, fails)) (inl (p2, fails2)) = p ∙ sym p2
one_named (q ∷ qs) e f (inl (p, fails)) (inr (so, r)) = absurd (fails so)
one_named (q ∷ qs) e f (inr (so, r)) (inl (p, fails)) = absurd (fails so)
one_named (q ∷ qs) e f (inr (so, r)) (inr (so2, r2)) = one_named qs e f r r2
