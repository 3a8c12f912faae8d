-- A call that is refused names the first question that is answered no, and no other.
use Rattle.std.specs.Prelude.{◌≡◌, ◌↔◌, ℕ, Bool, true, cond, List, [], ◌∷◌, Some, None, Option}
use Rattle.base.specs.declared.fault.Fault.{Fault}
use Rattle.base.specs.declared.fault.Fault.TheVariants.{BadLink}
use Rattle.base.specs.Questions.{Questions, named, Refuses, Granted, each_from}

-- Questions whose answers are known.
abbrev pub answered : List ((ℕ × ℕ) × Bool) → Questions
answered [] = []
answered (b ∷ bs) = (b.0, b.1 ≡ true) ∷ answered bs

-- The name of the first that is answered no, if one is.
abbrev pub first_no : List ((ℕ × ℕ) × Bool) → Option (ℕ × ℕ)
first_no [] = None
first_no (b ∷ bs) = cond b.1 (first_no bs) (Some b.0)

pub record TheFirstNoIsNamed : Type 0 where
  pub refused : (bs : List ((ℕ × ℕ) × Bool)) (e : Fault) → Refuses (answered bs) e ↔ (first_no bs ≡ Some (named e))
  pub granted : (bs : List ((ℕ × ℕ) × Bool)) → Granted (answered bs) ↔ (first_no bs ≡ None)
  -- Of the nodes 7, 8 and 9 the second is the first that is not 7.
  pub by_node : Refuses (each_from 5 (λ x. x ≡ 7) 7 3) (BadLink 8)
