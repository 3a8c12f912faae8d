-- The laws of every list of calls.
use Rattle.std.proofs.Common.{◌≡◌, ℕ, ◌+◌, List, Result, sym, refl, subst, arith}
use Rattle.meaning.specs.Payoffs.{StoredAs}
use Rattle.meaning.specs.World.{World}
use Rattle.meaning.proofs.Reading.{one_expression}
use Rattle.host.specs.Answers.{Answers}
use Rattle.base.specs.declared.fault.Fault.{Fault}
use Rattle.model.specs.declared.answer.Outcome.{Outcome}
use Rattle.model.specs.Model.{Given, Model}
use Rattle.model.specs.Tries.{Rule, Try, Tries}
use Rattle.model.specs.Moves.{Enters, Leaves}
use Rattle.model.specs.Sweeps.{Sweeps}
use Rattle.model.specs.Calls.{Call, Answer, Makes, MakesAll, told, all_told}
use Rattle.model.specs.Laws.{NobodyCanTell, EachRewriteIsCounted, APayoffIsLeft}
use Rattle.model.proofs.Onward.{all_onward}

-- ---- what the calls tell of

tries_told : {g : Given} {a : Answers} {k : Rule} {l m : Model} {r : Result Outcome Fault} {ts : List Try} → Tries g a k l r m ts → m.rewrites ≡ l.rewrites + told (Answer.tries r)
tries_told (Tries.at_no_expression s at n) = omega arith
tries_told (Tries.keeps x at e) = omega arith
tries_told (Tries.rewrites x y at e q) = omega arith
tries_told (Tries.refuses x y e at d q) = omega arith

enters_told : {l m : Model} {k : ℕ} {r : Result (Unit {0}) Fault} → Enters l k r m → m.rewrites ≡ l.rewrites
enters_told (Enters.enters n e q) = refl
enters_told (Enters.refuses n e c q) = refl

leaves_told : {l m : Model} {r : Result (Unit {0}) Fault} → Leaves l r m → m.rewrites ≡ l.rewrites
leaves_told (Leaves.leaves p i e) = refl
leaves_told (Leaves.refuses n e c q) = refl

module _ {g : Given} where
  makes_told : {l m : Model} {c : Call} {r : Answer} {ts : List Try} → Makes g l c r m ts → m.rewrites ≡ l.rewrites + told r
  makes_told (Makes.enters d) = omega (arith, enters_told d)
  makes_told (Makes.leaves d) = omega (arith, leaves_told d)
  makes_told (Makes.tries d) = tries_told d
  makes_told (Makes.sweeps (Sweeps.sweeps d e)) = e
  makes_told (Makes.sweeps (Sweeps.refused d e)) = e

  all_are_told : {l m : Model} {cs : List Call} {rs : List Answer} {ts : List Try} → MakesAll g l cs rs m ts → m.rewrites ≡ l.rewrites + all_told rs
  all_are_told MakesAll.none = omega arith
  all_are_told (MakesAll.then d e) = omega (arith, makes_told d, all_are_told e)

-- ---- the laws

pub payoff_left : APayoffIsLeft
payoff_left g t l m cs rs ts o d = (all_onward d o.sound).sound

pub rewrites_counted : EachRewriteIsCounted
rewrites_counted g t l m cs rs ts o d =
    let h = all_onward d o.sound in
    let y = one_expression m.whole h.sound.payoff in (
      omega (arith, h.counts, o.none_made),
      omega (arith, all_are_told d, o.none_made),
      λ x s. omega (arith, h.shrinks x y.0 (subst (λ z. StoredAs z x) (sym o.whole) s) y.1, o.none_made),
    )

pub nobody_tells : (w : World) → NobodyCanTell w
nobody_tells w p g t l m cs rs ts o d e x y i j =
    let k = (all_onward d o.sound).keeps w p e x y (subst (λ z. StoredAs z x) (sym o.whole) i) j in
    λ s r u. (k.forth s r u, k.back s r u)
