-- A call asks its questions in order. The first that is answered no gives the fault, by its number and its node.
use Rattle.std.specs.Prelude.{◌≡◌, ℕ, zero, suc, ◌⊎◌, List, [], ◌∷◌}
use Rattle.base.specs.declared.fault.Fault.{Fault}
use Rattle.base.specs.Faults.{number, node}

-- What a call asks: the number and the node that a no gives, and what has to hold.
abbrev pub Questions : Type 1
Questions = List ((ℕ × ℕ) × Type 0)

-- The number and the node of a fault. The layer goes by the number.
abbrev pub named : Fault → ℕ × ℕ
named e = (number e, node e)

-- The fault is that of the first question that is answered no.
abbrev pub Refuses : Questions → Fault → Type 0
Refuses [] e = ⊥
Refuses (q ∷ qs) e = ((named e ≡ q.0) × (q.1 → ⊥)) ⊎ (q.1 × Refuses qs e)

-- Every question is answered yes.
abbrev pub Granted : Questions → Type 0
Granted [] = Unit {0}
Granted (q ∷ qs) = q.1 × Granted qs

-- One question of each of n nodes from x on, under one number.
abbrev pub each_from : ℕ → (ℕ → Type 0) → ℕ → ℕ → Questions
each_from k P x zero = []
each_from k P x (suc n) = ((k, x), P x) ∷ each_from k P (suc x) n
