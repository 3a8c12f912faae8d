-- Where hosts say only what is true, each answer that was asked for is true; the host that knows nothing always does.
use Rattle.std.proofs.Common.{◌≡◌, ℕ, Bool, List, [], ◌∷◌, ◌++◌, Result, sym, subst}
use Rattle.base.specs.declared.fault.Fault.{Fault}
use Rattle.meaning.specs.World.{World}
use Rattle.host.specs.Answers.{Answers, Question}
use Rattle.host.specs.Truth.{Truthful}
use Rattle.host.specs.Silent.{silent_answers}
use Rattle.host.proofs.Knowing.{silent_true}
use Rattle.rules.specs.Laws.{AllTrue}
use Rattle.rules.specs.Deciding.{asked}
use Rattle.model.specs.declared.answer.Outcome.{Outcome}
use Rattle.model.specs.declared.answer.Swept.{Swept}
use Rattle.model.specs.declared.answer.SweepRefused.{SweepRefused}
use Rattle.model.specs.Model.{Given, Model}
use Rattle.model.specs.Tries.{Rule, Try, Tries, deciding}
use Rattle.model.specs.Sweeps.{TriesEach, Visits, VisitsBelow, Rounds, Sweeps}
use Rattle.model.specs.Calls.{Call, Answer, Makes, MakesAll}
use Rattle.model.specs.Laws.{EachTrue}
use Rattle.model.specs.Silence.{AllSilent, Silent, ASilentHostNeedsNoWord, NobodyCanTellSilentCalls}
use Rattle.model.proofs.Making.{makes_fitting, makes_alike}
use Rattle.model.proofs.Calls.{nobody_tells}

all_true : (w : World) (a : Answers) → Truthful w a → (qs : List Question) → AllTrue w a qs
all_true w a h [] = tt
all_true w a h (q ∷ qs) = (h q, all_true w a h qs)

true_both : (w : World) (ts us : List Try) → EachTrue w ts → EachTrue w us → EachTrue w (ts ++ us)
true_both w [] us h k = k
true_both w (t ∷ ts) us h k = (h.0, true_both w ts us h.1 k)

silent_is_true : (w : World) (a : Answers) → a ≡ silent_answers → Truthful w a
silent_is_true w a e = subst (Truthful w) (sym e) (silent_true w)

module _ (w : World) {g : Given} where
  module _ {a : Answers} (h : Truthful w a) where
    tries_true : {k : Rule} {l m : Model} {r : Result Outcome Fault} {ts : List Try} → Tries g a k l r m ts → EachTrue w ts
    tries_true (Tries.at_no_expression t at n) = tt
    tries_true (Tries.keeps x at e) = (all_true w a h _, tt)
    tries_true (Tries.refuses x y e at d q) = (all_true w a h _, tt)
    tries_true (Tries.rewrites x y at e q) = (all_true w a h _, tt)

    each_true : {rs : List Rule} {l m : Model} {r : Result (Unit {0}) Fault} {ts : List Try} → TriesEach g a rs l r m ts → EachTrue w ts
    each_true TriesEach.none = tt
    each_true (TriesEach.tried d e) = true_both w _ _ (tries_true d) (each_true e)
    each_true (TriesEach.stopped d) = tries_true d

    mutual
      visits_true : {d : ℕ} {l m : Model} {r : Result Bool Fault} {ts : List Try} → Visits g a d l r m ts → EachTrue w ts
      visits_true (Visits.visited at b e) = true_both w _ _ (below_true b) (each_true e)
      visits_true (Visits.stopped at b e) = true_both w _ _ (below_true b) (each_true e)
      visits_true (Visits.stopped_below at b) = below_true b

      below_true : {d i k : ℕ} {l m : Model} {r : Result Bool Fault} {ts : List Try} → VisitsBelow g a d i k l r m ts → EachTrue w ts
      below_true VisitsBelow.none = tt
      below_true VisitsBelow.too_deep = tt
      below_true (VisitsBelow.child v b) = true_both w _ _ (visits_true v) (below_true b)
      below_true (VisitsBelow.later_stopped v b) = true_both w _ _ (visits_true v) (below_true b)
      below_true (VisitsBelow.child_stopped v) = visits_true v

    rounds_true : {l m : Model} {r : Result (ℕ × Bool) Fault} {ts : List Try} → Rounds g a l r m ts → EachTrue w ts
    rounds_true (Rounds.last v e) = visits_true v
    rounds_true (Rounds.more v n d) = true_both w _ _ (visits_true v) (rounds_true d)
    rounds_true (Rounds.later_stopped v n d) = true_both w _ _ (visits_true v) (rounds_true d)
    rounds_true (Rounds.stopped v) = visits_true v

    pub sweeps_true : {l m : Model} {r : Result Swept SweepRefused} {ts : List Try} → Sweeps g a l r m ts → EachTrue w ts
    sweeps_true (Sweeps.sweeps d e) = rounds_true d
    sweeps_true (Sweeps.refused d e) = rounds_true d

  makes_true : {l m : Model} {c : Call} {r : Answer} {ts : List Try} → Makes g l c r m ts → Silent c → EachTrue w ts
  makes_true (Makes.enters d) s = tt
  makes_true (Makes.leaves d) s = tt
  makes_true (Makes.tries {a = a} d) s = tries_true (silent_is_true w a s) d
  makes_true (Makes.sweeps {a = a} d) s = sweeps_true (silent_is_true w a s) d

  all_made_true : {l m : Model} {cs : List Call} {rs : List Answer} {ts : List Try} → MakesAll g l cs rs m ts → AllSilent cs → EachTrue w ts
  all_made_true MakesAll.none s = tt
  all_made_true (MakesAll.then d e) s = true_both w _ _ (makes_true d s.0) (all_made_true e s.1)

-- ---- the laws

pub no_word_needed : (w : World) → ASilentHostNeedsNoWord w
no_word_needed w p rule s next r x y e = (
  makes_alike silent_answers s next r x y w p rule e (all_true w silent_answers (silent_true w) (asked silent_answers (deciding rule s next r x))),
  makes_fitting silent_answers s next r x y rule e,
)

pub silent_calls : (w : World) → NobodyCanTellSilentCalls w
silent_calls w p g t l m cs rs ts o d s = nobody_tells w p g t l m cs rs ts o d (all_made_true w d s)
