-- What sweeps leave.
use Rattle.std.specs.Prelude.{◌≡◌, ℕ, suc, ◌≤◌, ◌↔◌, true, is_some, List, [], length, None, Ok, Result}
use Rattle.tree.specs.Tree.{at_place}
use Rattle.meaning.specs.Expression.{Expression}
use Rattle.host.specs.Answers.{Answers}
use Rattle.rules.specs.Deciding.{decided}
use Rattle.model.specs.declared.answer.Swept.{Swept}
use Rattle.model.specs.declared.answer.SweepRefused.{SweepRefused}
use Rattle.model.specs.Model.{Given, Model, Sound, At, moved}
use Rattle.model.specs.Tries.{Rule, Try, decision}
use Rattle.model.specs.Moves.{deepest}
use Rattle.model.specs.Sweeps.{Sweeps}

-- Each rule, tried with the cursor at this place, would keep what stands there.
abbrev pub AllKeep : Given → Answers → Model → List ℕ → Type 0
AllKeep g a m p = (rule : Rule) (x : Expression) → At (moved m p) x → decided a (decision g a rule (moved m p) x) ≡ None

-- After a sweep that is not refused, no rule would rewrite anything, by the host that it took, wherever the cursor can
-- go.
abbrev pub ASweepLeavesNothing : Type 0
ASweepLeavesNothing =
    (g : Given) (a : Answers) (l m : Model) (s : Swept) (ts : List Try)
    → Sound l → Sweeps g a l (Ok s) m ts → (p : List ℕ) → length p ≤ deepest → AllKeep g a m p

-- And it says that it left something unvisited exactly where a node stands one step further down.
abbrev pub ASweepSaysWhatItLeft : Type 0
ASweepSaysWhatItLeft =
    (g : Given) (a : Answers) (l m : Model) (s : Swept) (ts : List Try)
    → Sweeps g a l (Ok s) m ts
    → (s.left ≡ true) ↔ ((p : List ℕ) × (length p ≡ suc deepest) × (is_some (at_place m.whole p) ≡ true))

-- Refused or not, the cursor is at the root after it.
abbrev pub ASweepEndsAtTheRoot : Type 0
ASweepEndsAtTheRoot =
    (g : Given) (a : Answers) (l m : Model) (r : Result Swept SweepRefused) (ts : List Try)
    → Sweeps g a l r m ts → m.place ≡ []

-- A second sweep with the same host makes one round, rewrites nothing, tells the same of what it left, and leaves the
-- session as it was.
abbrev pub ASecondSweepChangesNothing : Type 0
ASecondSweepChangesNothing =
    (g : Given) (a : Answers) (l m n : Model) (s : Swept) (r : Result Swept SweepRefused) (ts us : List Try)
    → Sound l → Sweeps g a l (Ok s) m ts → Sweeps g a m r n us
    → (r ≡ Ok (record { rewrites = 0; rounds = 1; left = s.left })) × (n ≡ m)
