-- What a sweep does to a session.
use Rattle.std.specs.Prelude.{◌≡◌, ℕ, ◌-◌, Bool, List, [], length, Some, Result}
use Rattle.base.specs.declared.fault.Fault.{Fault}
use Rattle.tree.specs.Tree.{Tree, labels, below, at_place}
use Rattle.host.specs.Answers.{Answers}
use Rattle.model.specs.declared.answer.Swept.{Swept}
use Rattle.model.specs.declared.answer.SweepRefused.{SweepRefused}
use Rattle.model.specs.Model.{Model, moved}
use Rattle.model.specs.Moves.{deepest}
use Rattle.model.specs.Tries.{Try}
use Rattle.model.specs.Sweeps.{TriesEach, each_rule, Visits, VisitsBelow, Rounds, Sweeps}
use Rattle.session.specs.declared.session.Session.{Session}
use Rattle.session.specs.Following.{Is, given_of, Follows}

-- The cursor's node has so many children.
abbrev pub CountsChildren : Session → ℕ → Type 0
CountsChildren s count = (m : Model) → Is s m → (t : Tree) → at_place m.whole m.place ≡ Some t → count ≡ length (labels (below t))

abbrev pub AtRoot : (old new : Session) → Type 0
AtRoot = Follows (λ m n. n ≡ moved m [])

module _ (a : Answers) where
  -- The cursor's place is visited, and all below it that is not too far down.
  abbrev pub Visited : (old new : Session) → Result Bool Fault → Type 0
  Visited old new result = Follows (λ m n. (ts : List Try) × Visits (given_of old) a (deepest - length m.place) m result n ts) old new

  -- Each rule is tried.
  abbrev pub TriedEach : (old new : Session) → Result (Unit {0}) Fault → Type 0
  TriedEach old new result = Follows (λ m n. (ts : List Try) × TriesEach (given_of old) a (each_rule (given_of old) a) m result n ts) old new

  -- Each child of the cursor's node is visited.
  abbrev pub VisitedBelow : (old new : Session) → Result Bool Fault → Type 0
  VisitedBelow old new result =
      Follows (λ m n. (t : Tree) × (ts : List Try) × (at_place m.whole m.place ≡ Some t)
      × VisitsBelow (given_of old) a (deepest - length m.place) 0 (length (labels (below t))) m result n ts) old new

  abbrev pub RoundsMade : (old new : Session) → Result (ℕ × Bool) Fault → Type 0
  RoundsMade old new result = Follows (λ m n. (ts : List Try) × Rounds (given_of old) a m result n ts) old new

  -- The caller's view of a whole sweep.
  abbrev pub SweepsAll : (old new : Session) → Result Swept SweepRefused → Type 0
  SweepsAll old new result = Follows (λ m n. (ts : List Try) × Sweeps (given_of old) a m result n ts) old new
