-- How the cursor moves.
use Rattle.std.specs.Prelude.{◌≡◌, ℕ, ◌<◌, true, is_some, List, [], ◌∷◌, ◌++◌, length, Some, Ok, Err, Result}
use Rattle.base.specs.declared.fault.Fault.{Fault}
use Rattle.base.specs.Questions.{Questions, Refuses, Granted}
use Rattle.tree.specs.Tree.{at_place}
use Rattle.model.specs.Model.{Model, cursor, moved}

-- How many steps the cursor can be below the root.
abbrev pub deepest : ℕ
deepest = 256

-- There is such a child, and the path to it has room.
abbrev pub enter_questions : Model → (node child : ℕ) → Questions
enter_questions m node child =
    ((6, node), is_some (at_place m.whole (m.place ++ child ∷ [])) ≡ true)
    ∷ ((7, node), length m.place < deepest)
    ∷ []

-- The cursor goes to a child, counted from 0, links before list; or it stays.
pub data Enters (m : Model) (child : ℕ) : Result (Unit {0}) Fault → Model → Type 0 where
  enters : (node : ℕ) → cursor m ≡ Some node → Granted (enter_questions m node child) → Enters m child (Ok tt) (moved m (m.place ++ child ∷ []))
  refuses : (node : ℕ) (e : Fault) → cursor m ≡ Some node → Refuses (enter_questions m node child) e → Enters m child (Err e) m

-- The cursor is below the root.
abbrev pub leave_questions : Model → (node : ℕ) → Questions
leave_questions m node = ((8, node), m.place ≡ [] → ⊥) ∷ []

-- The cursor goes to the parent; or it stays.
pub data Leaves (m : Model) : Result (Unit {0}) Fault → Model → Type 0 where
  leaves : (p : List ℕ) (i : ℕ) → m.place ≡ p ++ i ∷ [] → Leaves m (Ok tt) (moved m p)
  refuses : (node : ℕ) (e : Fault) → cursor m ≡ Some node → Refuses (leave_questions m node) e → Leaves m (Err e) m
