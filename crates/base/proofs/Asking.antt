-- Questions, one after the other.
use Rattle.std.proofs.Common.{◌≡◌, ℕ, zero, suc, ◌+◌, ◌<◌, ◌≤◌, [], ◌∷◌, ◌++◌, subst, inl, inr, arith}
use Rattle.std.proofs.lemmas.Bool.{cases_eq}
use Rattle.base.specs.declared.fault.Fault.{Fault}
use Rattle.base.specs.Questions.{Questions, named, Refuses, Granted, each_from}

-- A refusal by the first questions is one by all.
pub refuses_first : (qs rs : Questions) (e : Fault) → Refuses qs e → Refuses (qs ++ rs) e
refuses_first [] rs e r = absurd r
refuses_first (q ∷ qs) rs e (inl r) = inl r
refuses_first (q ∷ qs) rs e (inr r) = inr (r.0, refuses_first qs rs e r.1)

-- A refusal by later questions is one by all, where the first are answered yes.
pub refuses_later : (qs rs : Questions) (e : Fault) → Granted qs → Refuses rs e → Refuses (qs ++ rs) e
refuses_later [] rs e g r = r
refuses_later (q ∷ qs) rs e g r = inr (g.0, refuses_later qs rs e g.1 r)

pub granted_both : (qs rs : Questions) → Granted qs → Granted rs → Granted (qs ++ rs)
granted_both [] rs g h = h
granted_both (q ∷ qs) rs g h = (g.0, granted_both qs rs g.1 h)

pub granted_apart : (qs rs : Questions) → Granted (qs ++ rs) → Granted qs × Granted rs
granted_apart [] rs g = (tt, g)
granted_apart (q ∷ qs) rs g = let rest = granted_apart qs rs g.1 in ((g.0, rest.0), rest.1)

-- Where every question is answered yes, none is answered no.
pub granted_not_refused : (qs : Questions) (e : Fault) → Granted qs → Refuses qs e → ⊥
granted_not_refused [] e g r = r
granted_not_refused (q ∷ qs) e g (inl r) = r.1 g.0
granted_not_refused (q ∷ qs) e g (inr r) = granted_not_refused qs e g.1 r.1

pub granted_each : (k : ℕ) (P : ℕ → Type 0) (x n : ℕ) → ((y : ℕ) → x ≤ y → y < x + n → P y) → Granted (each_from k P x n)
granted_each k P x zero all = tt
granted_each k P x (suc n) all = (all x (omega arith) (omega arith), granted_each k P (suc x) n (λ y le lt. all y (omega arith) (omega arith)))

pub each_granted : (k : ℕ) (P : ℕ → Type 0) (x n : ℕ) → Granted (each_from k P x n) → (y : ℕ) → x ≤ y → y < x + n → P y
each_granted k P x zero g y le lt = absurd (omega arith)
each_granted k P x (suc n) g y le lt =
    elim (cases_eq x y) [
      | inl here ↦ subst P here g.0
      | inr past ↦ each_granted k P (suc x) n g.1 y (omega arith) (omega arith)
    ]

-- The lowest node of which the answer is no is named.
pub refuses_each : (k : ℕ) (P : ℕ → Type 0) (e : Fault) (x n z : ℕ) → named e ≡ (k, z) → x ≤ z → z < x + n → ((y : ℕ) → x ≤ y → y < z → P y) → (P z → ⊥) → Refuses (each_from k P x n) e
refuses_each k P e x zero z is le lt low not = absurd (omega arith)
refuses_each k P e x (suc n) z is le lt low not =
    elim (cases_eq x z) [
      | inl here ↦ inl (subst (λ y. (named e ≡ (k, y)) × (P y → ⊥)) (sym' here) (is, not))
      | inr past ↦ inr (low x (omega arith) (omega arith), refuses_each k P e (suc x) n z is (omega arith) (omega arith) (λ y a b. low y (omega arith) b) not)
    ]
  where
    sym' : x ≡ z → z ≡ x
    sym' f = omega arith
