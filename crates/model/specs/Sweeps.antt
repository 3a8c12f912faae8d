-- A sweep: the three rules once at each place, children first, in rounds until one rewrites nothing.
use Rattle.std.specs.Prelude.{◌≡◌, ℕ, zero, suc, ◌+◌, Bool, true, false, ◌||◌, List, [], ◌∷◌, ◌++◌, length, Some, Ok, Err, Result}
use Rattle.base.specs.declared.fault.Fault.{Fault}
use Rattle.tree.specs.Tree.{Tree, labels, below, at_place}
use Rattle.host.specs.Answers.{Answers}
use Rattle.model.specs.declared.answer.Outcome.{Outcome}
use Rattle.model.specs.declared.answer.Swept.{Swept}
use Rattle.model.specs.declared.answer.SweepRefused.{SweepRefused}
use Rattle.model.specs.Model.{Given, Model, moved}
use Rattle.model.specs.Tries.{Rule, Try, Tries}
use Rattle.model.specs.Moves.{deepest}

module _ (g : Given) (a : Answers) where
  -- Rules are tried one after the other, until one is refused.
  pub data TriesEach : List Rule → Model → Result (Unit {0}) Fault → Model → List Try → Type 0 where
    none : {m : Model} → TriesEach [] m (Ok tt) m []
    tried : {r : Rule} {rs : List Rule} {o : Outcome} {e : Result (Unit {0}) Fault} {l m n : Model} {ts us : List Try}
        → Tries g a r l (Ok o) m ts → TriesEach rs m e n us → TriesEach (r ∷ rs) l e n (ts ++ us)
    stopped : {r : Rule} {rs : List Rule} {e : Fault} {l m : Model} {ts : List Try}
        → Tries g a r l (Err e) m ts → TriesEach (r ∷ rs) l (Err e) m ts

  abbrev pub each_rule : List Rule
  each_rule = Rule.chain ∷ Rule.method ∷ Rule.property ∷ []

  mutual
    -- The place of the cursor is visited: its children first, as many as it had then, and then each rule is tried. The
    -- number says how many steps further down the cursor may go. The answer is whether a place below stayed unvisited.
    pub data Visits : ℕ → Model → Result Bool Fault → Model → List Try → Type 0 where
      visited : {d : ℕ} {left : Bool} {l m n : Model} {t : Tree} {ts us : List Try}
          → at_place l.whole l.place ≡ Some t → VisitsBelow d 0 (length (labels (below t))) l (Ok left) m ts
          → TriesEach each_rule m (Ok tt) n us → Visits d l (Ok left) n (ts ++ us)
      stopped : {d : ℕ} {left : Bool} {e : Fault} {l m n : Model} {t : Tree} {ts us : List Try}
          → at_place l.whole l.place ≡ Some t → VisitsBelow d 0 (length (labels (below t))) l (Ok left) m ts
          → TriesEach each_rule m (Err e) n us → Visits d l (Err e) n (ts ++ us)
      stopped_below : {d : ℕ} {e : Fault} {l m : Model} {t : Tree} {ts : List Try}
          → at_place l.whole l.place ≡ Some t → VisitsBelow d 0 (length (labels (below t))) l (Err e) m ts
          → Visits d l (Err e) m ts

    -- So many children are visited, from the child i on. The cursor comes back to the parent, unless one is refused.
    pub data VisitsBelow : ℕ → (i children : ℕ) → Model → Result Bool Fault → Model → List Try → Type 0 where
      none : {d i : ℕ} {m : Model} → VisitsBelow d i zero m (Ok false) m []
      too_deep : {i k : ℕ} {m : Model} → VisitsBelow zero i (suc k) m (Ok true) m []
      child : {d i k : ℕ} {left more : Bool} {l m n : Model} {ts us : List Try}
          → Visits d (moved l (l.place ++ i ∷ [])) (Ok left) m ts → VisitsBelow (suc d) (suc i) k (moved m l.place) (Ok more) n us
          → VisitsBelow (suc d) i (suc k) l (Ok (left || more)) n (ts ++ us)
      later_stopped : {d i k : ℕ} {left : Bool} {e : Fault} {l m n : Model} {ts us : List Try}
          → Visits d (moved l (l.place ++ i ∷ [])) (Ok left) m ts → VisitsBelow (suc d) (suc i) k (moved m l.place) (Err e) n us
          → VisitsBelow (suc d) i (suc k) l (Err e) n (ts ++ us)
      child_stopped : {d i k : ℕ} {e : Fault} {l m : Model} {ts : List Try}
          → Visits d (moved l (l.place ++ i ∷ [])) (Err e) m ts
          → VisitsBelow (suc d) i (suc k) l (Err e) m ts

  -- One round, from the root.
  abbrev pub VisitsAll : Model → Result Bool Fault → Model → List Try → Type 0
  VisitsAll m r n ts = Visits deepest (moved m []) r n ts

  -- So many rounds, of which the last one rewrites nothing, and says whether a place stayed unvisited; or one is
  -- refused.
  pub data Rounds : Model → Result (ℕ × Bool) Fault → Model → List Try → Type 0 where
    last : {left : Bool} {l m : Model} {ts : List Try} → VisitsAll l (Ok left) m ts → m.rewrites ≡ l.rewrites → Rounds l (Ok (1, left)) m ts
    more : {before left : Bool} {n : ℕ} {l m k : Model} {ts us : List Try} → VisitsAll l (Ok before) m ts → (m.rewrites ≡ l.rewrites → ⊥)
        → Rounds m (Ok (n, left)) k us → Rounds l (Ok (suc n, left)) k (ts ++ us)
    later_stopped : {before : Bool} {e : Fault} {l m k : Model} {ts us : List Try} → VisitsAll l (Ok before) m ts → (m.rewrites ≡ l.rewrites → ⊥)
        → Rounds m (Err e) k us → Rounds l (Err e) k (ts ++ us)
    stopped : {e : Fault} {l m : Model} {ts : List Try} → VisitsAll l (Err e) m ts → Rounds l (Err e) m ts

  -- The sweep tells how many rewrites it made, refused or not, and the cursor ends at the root.
  pub data Sweeps : Model → Result Swept SweepRefused → Model → List Try → Type 0 where
    sweeps : {l m : Model} {s : Swept} {ts : List Try} → Rounds l (Ok (s.rounds, s.left)) m ts → m.rewrites ≡ l.rewrites + s.rewrites
        → Sweeps l (Ok s) (moved m []) ts
    refused : {l m : Model} {e : SweepRefused} {ts : List Try} → Rounds l (Err e.fault) m ts → m.rewrites ≡ l.rewrites + e.rewrites
        → Sweeps l (Err e) (moved m []) ts
