-- What each step of a session keeps, and so each list of calls.
use Rattle.std.proofs.Common.{◌≡◌, ℕ, ◌+◌, ◌≤◌, Bool, cond, ◌==◌, List, [], ◌∷◌, ◌++◌, Result, refl, ap, subst, arith}
use Rattle.std.proofs.lemmas.Bool.{eq-eqb, ne_eqb}
use Rattle.base.specs.declared.fault.Fault.{Fault}
use Rattle.tree.specs.Tree.{label}
use Rattle.meaning.specs.Expression.{Expression}
use Rattle.meaning.specs.Trees.{tree_of}
use Rattle.meaning.specs.Payoffs.{StoredAs}
use Rattle.meaning.specs.World.{World}
use Rattle.meaning.specs.Premises.{Premises}
use Rattle.meaning.specs.Replacing.{Keeps}
use Rattle.meaning.proofs.Reading.{one_expression}
use Rattle.host.specs.Answers.{Answers}
use Rattle.rules.specs.Size.{size}
use Rattle.model.specs.declared.answer.Outcome.{Outcome}
use Rattle.model.specs.declared.answer.Swept.{Swept}
use Rattle.model.specs.declared.answer.SweepRefused.{SweepRefused}
use Rattle.model.specs.Model.{Given, Model, Sound, moved}
use Rattle.model.specs.Tries.{Rule, Try, Tries}
use Rattle.model.specs.Moves.{Enters, Leaves}
use Rattle.model.specs.Sweeps.{TriesEach, Visits, VisitsBelow, Rounds, Sweeps}
use Rattle.model.specs.Calls.{Call, Answer, Makes, MakesAll, changes}
use Rattle.model.specs.Laws.{EachTrue}
use Rattle.model.proofs.Lawful.{stored_alike}
use Rattle.model.proofs.Steady.{rewrite_sound, number_changes, rewrite_shrinks, rewrite_keeps}

-- From a sound session to a later one, with what was tried meanwhile.
pub record Onward (l m : Model) (ts : List Try) : Type 1 where
  pub sound : Sound m
  pub counts : m.rewrites ≡ l.rewrites + changes ts
  pub shrinks : (x y : Expression) → StoredAs l.whole x → StoredAs m.whole y → m.rewrites + size y ≤ l.rewrites + size x
  pub keeps : (w : World) → Premises w → EachTrue w ts → (x y : Expression) → StoredAs l.whole x → StoredAs m.whole y → Keeps w x y

keeps_itself : (w : World) (x y : Expression) → x ≡ y → Keeps w x y
keeps_itself w x y e = subst (λ z. Keeps w x z) e (record { forth = λ s r t d. d; back = λ s r t d. d; stays_calm = λ s v d. d })

keeps_then : (w : World) (x y z : Expression) → Keeps w x y → Keeps w y z → Keeps w x z
keeps_then w x y z a b = record {
  forth = λ s r t d. b.forth s r t (a.forth s r t d);
  back = λ s r t d. a.back s r t (b.back s r t d);
  stays_calm = λ s v d. b.stays_calm s v (a.stays_calm s v d);
}

-- ---- nothing is rewritten, and the cursor moves

pub sound_moved : {m : Model} (p : List ℕ) → Sound m → Sound (moved m p)
sound_moved p s = record { payoff = s.payoff; distinct = s.distinct; numbered = s.numbered }

pub unmoved : {m : Model} {ts : List Try} → Sound m → changes ts ≡ 0 → Onward m m ts
unmoved {m} {ts} s e = record {
  sound = s;
  counts = omega (arith, e);
  shrinks = λ x y a b. omega (arith, ap size (stored_alike m.whole x y s.payoff a b));
  keeps = λ w p h x y a b. keeps_itself w x y (stored_alike m.whole x y s.payoff a b);
}

pub onward_moved : {l m : Model} {ts : List Try} (p : List ℕ) → Onward l m ts → Onward l (moved m p) ts
onward_moved p h = record { sound = sound_moved p h.sound; counts = h.counts; shrinks = h.shrinks; keeps = h.keeps }

pub moved_onward : {l m : Model} {ts : List Try} (p : List ℕ) → Onward (moved l p) m ts → Onward l m ts
moved_onward p h = record { sound = h.sound; counts = h.counts; shrinks = h.shrinks; keeps = h.keeps }

-- ---- one step behind the other

changes_both : (ts us : List Try) → changes (ts ++ us) ≡ changes ts + changes us
changes_both [] us = omega arith
changes_both (t ∷ ts) us = omega (arith, changes_both ts us)

each_both : (w : World) (ts us : List Try) → EachTrue w (ts ++ us) → EachTrue w ts × EachTrue w us
each_both w [] us h = (tt, h)
each_both w (t ∷ ts) us h = let k = each_both w ts us h.1 in ((h.0, k.0), k.1)

pub onward_then : {l m n : Model} {ts us : List Try} → Onward l m ts → Onward m n us → Onward l n (ts ++ us)
onward_then {l} {m} {n} {ts} {us} a b =
    let z = one_expression m.whole a.sound.payoff in
    record {
      sound = b.sound;
      counts = omega (arith, a.counts, b.counts, changes_both ts us);
      shrinks = λ x y s t. omega (arith, a.shrinks x z.0 s z.1, b.shrinks z.0 y z.1 t);
      keeps = λ w p h x y s t.
          let k = each_both w ts us h in
          keeps_then w x z.0 y (a.keeps w p k.0 x z.0 s z.1) (b.keeps w p k.1 z.0 y z.1 t);
    }

-- ---- a rule is tried

changes_none : (n : ℕ) → cond (n == n) 0 1 + 0 ≡ 0
changes_none n = ap (λ b. cond b 0 1 + 0) (eq-eqb n n refl)

changes_one : (n k : ℕ) → (n ≡ k → ⊥) → cond (n == k) 0 1 + 0 ≡ 1
changes_one n k h = ap (λ b. cond b 0 1 + 0) (ne_eqb n k h)

pub tries_onward : {g : Given} {a : Answers} {k : Rule} {l m : Model} {r : Result Outcome Fault} {ts : List Try} → Sound l → Tries g a k l r m ts → Onward l m ts
tries_onward s (Tries.at_no_expression t at n) = unmoved s refl
tries_onward s (Tries.keeps x at e) = unmoved s (changes_none (label (tree_of x)))
tries_onward s (Tries.refuses x y e at d q) = unmoved s (changes_none (label (tree_of x)))
tries_onward {g} {a} {k} {l} s (Tries.rewrites x y at e q) =
    let one = changes_one (label (tree_of x)) (label (tree_of y)) (number_changes g a k l x y s at e) in
    record {
      sound = rewrite_sound g a k l x y s at e;
      counts = omega (arith, one);
      shrinks = λ u v i j. omega (arith, rewrite_shrinks g a k l x y s at e u v i j);
      keeps = λ w p h u v i j. rewrite_keeps g a k l x y s at e w p h.0 u v i j;
    }

-- ---- a sweep

module _ {g : Given} {a : Answers} where
  pub each_onward : {rs : List Rule} {l m : Model} {r : Result (Unit {0}) Fault} {ts : List Try} → TriesEach g a rs l r m ts → Sound l → Onward l m ts
  each_onward TriesEach.none s = unmoved s refl
  each_onward (TriesEach.tried d e) s = let h = tries_onward s d in onward_then h (each_onward e h.sound)
  each_onward (TriesEach.stopped d) s = tries_onward s d

  mutual
    pub visits_onward : {d : ℕ} {l m : Model} {r : Result Bool Fault} {ts : List Try} → Visits g a d l r m ts → Sound l → Onward l m ts
    visits_onward (Visits.visited at b e) s = let h = below_onward b s in onward_then h (each_onward e h.sound)
    visits_onward (Visits.stopped at b e) s = let h = below_onward b s in onward_then h (each_onward e h.sound)
    visits_onward (Visits.stopped_below at b) s = below_onward b s

    pub below_onward : {d i k : ℕ} {l m : Model} {r : Result Bool Fault} {ts : List Try} → VisitsBelow g a d i k l r m ts → Sound l → Onward l m ts
    below_onward VisitsBelow.none s = unmoved s refl
    below_onward VisitsBelow.too_deep s = unmoved s refl
    below_onward (VisitsBelow.child v b) s = let h = visits_onward v (sound_moved _ s) in onward_then (moved_onward _ h) (moved_onward _ (below_onward b (sound_moved _ h.sound)))
    below_onward (VisitsBelow.later_stopped v b) s = let h = visits_onward v (sound_moved _ s) in onward_then (moved_onward _ h) (moved_onward _ (below_onward b (sound_moved _ h.sound)))
    below_onward (VisitsBelow.child_stopped v) s = moved_onward _ (visits_onward v (sound_moved _ s))

  pub rounds_onward : {l m : Model} {r : Result (ℕ × Bool) Fault} {ts : List Try} → Rounds g a l r m ts → Sound l → Onward l m ts
  rounds_onward (Rounds.last v e) s = moved_onward [] (visits_onward v (sound_moved [] s))
  rounds_onward (Rounds.more v n d) s = let h = visits_onward v (sound_moved [] s) in onward_then (moved_onward [] h) (rounds_onward d h.sound)
  rounds_onward (Rounds.later_stopped v n d) s = let h = visits_onward v (sound_moved [] s) in onward_then (moved_onward [] h) (rounds_onward d h.sound)
  rounds_onward (Rounds.stopped v) s = moved_onward [] (visits_onward v (sound_moved [] s))

  pub sweeps_onward : {l m : Model} {r : Result Swept SweepRefused} {ts : List Try} → Sweeps g a l r m ts → Sound l → Onward l m ts
  sweeps_onward (Sweeps.sweeps d e) s = onward_moved [] (rounds_onward d s)
  sweeps_onward (Sweeps.refused d e) s = onward_moved [] (rounds_onward d s)

-- ---- a call, and a list of calls

pub enters_onward : {l m : Model} {k : ℕ} {r : Result (Unit {0}) Fault} → Enters l k r m → Sound l → Onward l m []
enters_onward (Enters.enters n e q) s = onward_moved _ (unmoved s refl)
enters_onward (Enters.refuses n e c q) s = unmoved s refl

pub leaves_onward : {l m : Model} {r : Result (Unit {0}) Fault} → Leaves l r m → Sound l → Onward l m []
leaves_onward (Leaves.leaves p i e) s = onward_moved p (unmoved s refl)
leaves_onward (Leaves.refuses n e c q) s = unmoved s refl

module _ {g : Given} where
  pub makes_onward : {l m : Model} {c : Call} {r : Answer} {ts : List Try} → Makes g l c r m ts → Sound l → Onward l m ts
  makes_onward (Makes.enters d) s = enters_onward d s
  makes_onward (Makes.leaves d) s = leaves_onward d s
  makes_onward (Makes.tries d) s = tries_onward s d
  makes_onward (Makes.sweeps d) s = sweeps_onward d s

  pub all_onward : {l m : Model} {cs : List Call} {rs : List Answer} {ts : List Try} → MakesAll g l cs rs m ts → Sound l → Onward l m ts
  all_onward MakesAll.none s = unmoved s refl
  all_onward (MakesAll.then d e) s = let h = makes_onward d s in onward_then h (all_onward e h.sound)
