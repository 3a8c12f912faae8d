-- The calls of a session, and lists of them.
use Rattle.std.specs.Prelude.{ℕ, ◌+◌, ◌==◌, cond, List, [], ◌∷◌, ◌++◌, Ok, Err, Result}
use Rattle.base.specs.declared.fault.Fault.{Fault}
use Rattle.host.specs.Answers.{Answers}
use Rattle.model.specs.declared.answer.Outcome.{Outcome}
use Rattle.model.specs.declared.answer.Outcome.TheVariants.{Kept, Rewritten}
use Rattle.model.specs.declared.answer.Swept.{Swept}
use Rattle.model.specs.declared.answer.SweepRefused.{SweepRefused}
use Rattle.model.specs.Model.{Given, Model}
use Rattle.model.specs.Tries.{Rule, Try, Tries}
use Rattle.model.specs.Moves.{Enters, Leaves}
use Rattle.model.specs.Sweeps.{Sweeps}

-- A call, with the host that it takes.
pub data Call : Type 0 where
  enter : ℕ → Call
  leave : Call
  rewrite : Rule → Answers → Call
  sweep : Answers → Call

pub data Answer : Type 0 where
  moves : Result (Unit {0}) Fault → Answer
  tries : Result Outcome Fault → Answer
  sweeps : Result Swept SweepRefused → Answer

-- A call is made: what it answers, the session after it, and what was tried meanwhile.
pub data Makes (g : Given) (l : Model) : Call → Answer → Model → List Try → Type 0 where
  enters : {k : ℕ} {r : Result (Unit {0}) Fault} {m : Model} → Enters l k r m → Makes g l (Call.enter k) (Answer.moves r) m []
  leaves : {r : Result (Unit {0}) Fault} {m : Model} → Leaves l r m → Makes g l Call.leave (Answer.moves r) m []
  tries : {k : Rule} {a : Answers} {r : Result Outcome Fault} {m : Model} {ts : List Try} → Tries g a k l r m ts → Makes g l (Call.rewrite k a) (Answer.tries r) m ts
  sweeps : {a : Answers} {r : Result Swept SweepRefused} {m : Model} {ts : List Try} → Sweeps g a l r m ts → Makes g l (Call.sweep a) (Answer.sweeps r) m ts

-- A list of calls is made, one on what the other leaves, refused or not.
pub data MakesAll (g : Given) : Model → List Call → List Answer → Model → List Try → Type 0 where
  none : {m : Model} → MakesAll g m [] [] m []
  then : {c : Call} {cs : List Call} {r : Answer} {rs : List Answer} {l m n : Model} {ts us : List Try}
      → Makes g l c r m ts → MakesAll g m cs rs n us → MakesAll g l (c ∷ cs) (r ∷ rs) n (ts ++ us)

-- How many rewrites a call tells of, and a list of calls.
abbrev pub told : Answer → ℕ
told (Answer.moves r) = 0
told (Answer.tries (Ok Kept)) = 0
told (Answer.tries (Ok Rewritten)) = 1
told (Answer.tries (Err e)) = 0
told (Answer.sweeps (Ok s)) = s.rewrites
told (Answer.sweeps (Err e)) = e.rewrites

abbrev pub all_told : List Answer → ℕ
all_told [] = 0
all_told (r ∷ rs) = told r + all_told rs

-- How many tries changed the number of the node at the cursor's place.
abbrev pub changes : List Try → ℕ
changes [] = 0
changes (t ∷ ts) = cond (t.before == t.after) 0 1 + changes ts
