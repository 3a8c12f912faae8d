-- A session goes on with hosts that were true of the opened tree: they stay true, and so all that they are asked.
use Rattle.std.proofs.Common.{◌≡◌, ℕ, ◌≤◌, Bool, List, [], ◌∷◌, ◌++◌, Some, Result, inr, sym, refl, ap, ◌∙◌, arith}
use Rattle.base.specs.declared.fault.Fault.{Fault}
use Rattle.tree.specs.Tree.{Tree, label, at_place}
use Rattle.tree.specs.Lawful.{LawfulTree}
use Rattle.meaning.specs.Expression.{Expression}
use Rattle.meaning.specs.Trees.{tree_of}
use Rattle.meaning.specs.Parts.{Part, part_tree}
use Rattle.meaning.specs.Payoffs.{StoredAs}
use Rattle.meaning.specs.World.{World}
use Rattle.meaning.specs.Premises.{Premises}
use Rattle.meaning.specs.Replacing.{Keeps}
use Rattle.meaning.proofs.Reading.{one_expression}
use Rattle.host.specs.Answers.{Answers}
use Rattle.host.specs.Truth.{TrueOf}
use Rattle.rules.specs.Places.{Role}
use Rattle.rules.specs.Deciding.{Deciding, decided, asked}
use Rattle.rules.specs.Laws.{AllTrue, Fits}
use Rattle.rules.proofs.Parts.{EachPart}
use Rattle.rules.proofs.AskedParts.{AsksOf, chain_asks, method_asks, property_asks}
use Rattle.rules.proofs.OldParts.{parts_made}
use Rattle.model.specs.declared.answer.Outcome.{Outcome}
use Rattle.model.specs.declared.answer.Swept.{Swept}
use Rattle.model.specs.declared.answer.SweepRefused.{SweepRefused}
use Rattle.model.specs.Places.{role_from}
use Rattle.model.specs.Model.{Given, Model, At, Sound, Opened, moved}
use Rattle.model.specs.Tries.{Rule, Try, Tries, decision}
use Rattle.model.specs.Moves.{Enters, Leaves}
use Rattle.model.specs.Sweeps.{TriesEach, Visits, VisitsBelow, Rounds, Sweeps}
use Rattle.model.specs.Calls.{Call, Answer, Makes, MakesAll}
use Rattle.model.specs.Laws.{EachTrue}
use Rattle.model.specs.Hosts.{TrueFrom, HostTrueFrom, HostsTrueFrom, HostsStayTrue, NobodyCanTellWithTrueHosts}
use Rattle.model.proofs.Lawful.{lawful_place}
use Rattle.model.proofs.Swapping.{swap_at}
use Rattle.model.proofs.Making.{makes_alike}
use Rattle.model.proofs.Steady.{rewrite_sound, rewrite_swaps}
use Rattle.model.proofs.Onward.{sound_moved}
use Rattle.model.proofs.Calls.{nobody_tells}
use Rattle.model.proofs.Placed.{placed}
use Rattle.model.proofs.Kept.{parts_within, parts_kept}
use Rattle.model.proofs.Lasting.{answers_last, true_of_new, true_at_first}

-- ---- what a rule asks

asked_true : (w : World) (a : Answers) (d : Deciding) → AsksOf (TrueOf w a) d → AllTrue w a (asked a d)
unfolding asked
asked_true w a Deciding.keep h = tt
asked_true w a (Deciding.becomes y) h = tt
asked_true w a (Deciding.ask_effects p k) h = (h.0.0, asked_true w a (k (a.effects p)) (h.1 (a.effects p)))
asked_true w a (Deciding.ask_type p k) h = (h.0.1, asked_true w a (k (a.value_type p)) (h.1 (a.value_type p)))
asked_true w a (Deciding.ask_global p k) h = (h.0.2, asked_true w a (k (a.global p)) (h.1 (a.global p)))

rule_asks : (P : Part → Type 0) (k : Rule) (g : Given) (a : Answers) (m : Model) (x : Expression) → EachPart P x → AsksOf P (decision g a k m x)
rule_asks P Rule.chain g a m x h = chain_asks P _ _ _ x h
rule_asks P Rule.method g a m x h = method_asks P _ _ _ x h
rule_asks P Rule.property g a m x h = property_asks P _ _ x h

rule_makes : (P : Part → Type 0) (k : Rule) (g : Given) (a : Answers) (m : Model) (x y : Expression) → ((p : Part) → m.held.nodes ≤ label (part_tree p) → P p)
    → decided a (decision g a k m x) ≡ Some y → EachPart P x → EachPart P y
rule_makes P Rule.chain g a m x y new e h = (parts_made P m.held.nodes new a _ _ x y h).0 e
rule_makes P Rule.method g a m x y new e h = (parts_made P m.held.nodes new a _ _ x y h).1 e
rule_makes P Rule.property g a m x y new e h = (parts_made P m.held.nodes new a g.supported _ x y h).2 e

-- ---- where the cursor is

fits_itself : (r : Role) (x : Expression) → Fits r x x
fits_itself Role.ordinary x = tt
fits_itself Role.concat_object x = tt
fits_itself Role.referred x = inr refl

-- The parts of the expression there are parts of the whole.
parts_here : (P : Part → Type 0) (m : Model) (x u : Expression) → Sound m → At m x → StoredAs m.whole u → EachPart P u → EachPart P x
parts_here P m x u s at v h =
    let lawful : LawfulTree (tree_of x) = lawful_place m.whole m.place (tree_of x) at.1 s.payoff.0 in
    let d = swap_at x x at.0 lawful at.0 u m.place Role.ordinary v.0 (ap (λ z. at_place z m.place) v.1 ∙ at.1) (fits_itself (role_from Role.ordinary (tree_of u) m.place) x) in
    parts_within P x x d.3 h

module _ (w : World) (premises : Premises w) (t : Tree) (loaded : ℕ) where
  -- The session is sound, and such hosts are true of each part of its payoff.
  record Goes (m : Model) : Type 0 where
    pub sound : Sound m
    pub new : loaded ≤ m.held.nodes
    pub each : (a : Answers) → TrueFrom w t loaded a → (x : Expression) → StoredAs m.whole x → EachPart (TrueOf w a) x

  goes_moved : {m : Model} (p : List ℕ) → Goes m → Goes (moved m p)
  goes_moved p h = record { sound = sound_moved p h.sound; new = h.new; each = h.each }

  -- And from it to a later one, with what was tried meanwhile.
  record GoesOn (m : Model) (ts : List Try) : Type 0 where
    pub goes : Goes m
    pub told : EachTrue w ts

  each_true : (ts us : List Try) → EachTrue w ts → EachTrue w us → EachTrue w (ts ++ us)
  each_true [] us h k = k
  each_true (t ∷ ts) us h k = (h.0, each_true ts us h.1 k)

  then_on : {m n : Model} (ts us : List Try) → GoesOn m ts → GoesOn n us → GoesOn n (ts ++ us)
  then_on ts us h k = record { goes = k.goes; told = each_true ts us h.told k.told }

  on_moved : {m : Model} {ts : List Try} (p : List ℕ) → GoesOn m ts → GoesOn (moved m p) ts
  on_moved p h = record { goes = goes_moved p h.goes; told = h.told }

  -- ---- a rule is tried

  module _ {a : Answers} (host : TrueFrom w t loaded a) where
    parts_there : (m : Model) (x : Expression) → Goes m → At m x → EachPart (TrueOf w a) x
    parts_there m x h at = let u = one_expression m.whole h.sound.payoff in parts_here (TrueOf w a) m x u.0 h.sound at u.1 (h.each a host u.0 u.1)

    all_asked : (g : Given) (k : Rule) (m : Model) (x : Expression) → Goes m → At m x → AllTrue w a (asked a (decision g a k m x))
    all_asked g k m x h at = asked_true w a (decision g a k m x) (rule_asks (TrueOf w a) k g a m x (parts_there m x h at))

    tries_on : {g : Given} {k : Rule} {l m : Model} {r : Result Outcome Fault} {ts : List Try} → Tries g a k l r m ts → Goes l → GoesOn m ts
    tries_on (Tries.at_no_expression s at n) h = record { goes = h; told = tt }
    tries_on {g} {k} {l} (Tries.keeps x at e) h = record { goes = h; told = (all_asked g k l x h at, tt) }
    tries_on {g} {k} {l} (Tries.refuses x y e at d q) h = record { goes = h; told = (all_asked g k l x h at, tt) }
    tries_on {g} {k} {l} (Tries.rewrites x y at e q) h =
        let true_there = all_asked g k l x h at in
        let keeps : Keeps w x y = makes_alike a g.supported l.held.nodes _ x y w premises k e true_there in
        let u = one_expression l.whole h.sound.payoff in
        record {
          goes = record {
            sound = rewrite_sound g a k l x y h.sound at e;
            new = omega (arith, h.new);
            each = λ b other v s.
                let before = h.each b other u.0 u.1 in
                let there = parts_here (TrueOf w b) l x u.0 h.sound at u.1 before in
                let made = rule_makes (TrueOf w b) k g a l x y (λ p le. true_of_new w t loaded other p (omega (arith, h.new))) e there in
                parts_kept w (TrueOf w b) (answers_last w t loaded other) x y keeps made (rewrite_swaps g a k l x y h.sound at e u.0 v u.1 s) before;
          };
          told = (true_there, tt);
        }

    -- ---- a sweep

    each_on : {g : Given} {rs : List Rule} {l m : Model} {r : Result (Unit {0}) Fault} {ts : List Try} → TriesEach g a rs l r m ts → Goes l → GoesOn m ts
    each_on TriesEach.none h = record { goes = h; told = tt }
    each_on (TriesEach.tried {ts = ts} {us = us} d e) h = let k = tries_on d h in then_on ts us k (each_on e k.goes)
    each_on (TriesEach.stopped d) h = tries_on d h

    mutual
      visits_on : {g : Given} {d : ℕ} {l m : Model} {r : Result Bool Fault} {ts : List Try} → Visits g a d l r m ts → Goes l → GoesOn m ts
      visits_on (Visits.visited {ts = ts} {us = us} at b e) h = let k = below_on b h in then_on ts us k (each_on e k.goes)
      visits_on (Visits.stopped {ts = ts} {us = us} at b e) h = let k = below_on b h in then_on ts us k (each_on e k.goes)
      visits_on (Visits.stopped_below at b) h = below_on b h

      below_on : {g : Given} {d i k : ℕ} {l m : Model} {r : Result Bool Fault} {ts : List Try} → VisitsBelow g a d i k l r m ts → Goes l → GoesOn m ts
      below_on VisitsBelow.none h = record { goes = h; told = tt }
      below_on VisitsBelow.too_deep h = record { goes = h; told = tt }
      below_on (VisitsBelow.child {ts = ts} {us = us} v b) h = let k = visits_on v (goes_moved _ h) in then_on ts us k (below_on b (goes_moved _ k.goes))
      below_on (VisitsBelow.later_stopped {ts = ts} {us = us} v b) h = let k = visits_on v (goes_moved _ h) in then_on ts us k (below_on b (goes_moved _ k.goes))
      below_on (VisitsBelow.child_stopped v) h = visits_on v (goes_moved _ h)

    rounds_on : {g : Given} {l m : Model} {r : Result (ℕ × Bool) Fault} {ts : List Try} → Rounds g a l r m ts → Goes l → GoesOn m ts
    rounds_on (Rounds.last v e) h = visits_on v (goes_moved [] h)
    rounds_on (Rounds.more {ts = ts} {us = us} v n d) h = let k = visits_on v (goes_moved [] h) in then_on ts us k (rounds_on d k.goes)
    rounds_on (Rounds.later_stopped {ts = ts} {us = us} v n d) h = let k = visits_on v (goes_moved [] h) in then_on ts us k (rounds_on d k.goes)
    rounds_on (Rounds.stopped v) h = visits_on v (goes_moved [] h)

    sweeps_on : {g : Given} {l m : Model} {r : Result Swept SweepRefused} {ts : List Try} → Sweeps g a l r m ts → Goes l → GoesOn m ts
    sweeps_on (Sweeps.sweeps d e) h = on_moved [] (rounds_on d h)
    sweeps_on (Sweeps.refused d e) h = on_moved [] (rounds_on d h)

  -- ---- a call, and a list of calls

  enters_on : {l m : Model} {k : ℕ} {r : Result (Unit {0}) Fault} → Enters l k r m → Goes l → Goes m
  enters_on (Enters.enters n e q) h = goes_moved _ h
  enters_on (Enters.refuses n e c q) h = h

  leaves_on : {l m : Model} {r : Result (Unit {0}) Fault} → Leaves l r m → Goes l → Goes m
  leaves_on (Leaves.leaves p i e) h = goes_moved p h
  leaves_on (Leaves.refuses n e c q) h = h

  module _ {g : Given} where
    makes_on : {l m : Model} {c : Call} {r : Answer} {ts : List Try} → Makes g l c r m ts → HostTrueFrom w t loaded c → Goes l → GoesOn m ts
    makes_on (Makes.enters d) c h = record { goes = enters_on d h; told = tt }
    makes_on (Makes.leaves d) c h = record { goes = leaves_on d h; told = tt }
    makes_on (Makes.tries d) c h = tries_on c d h
    makes_on (Makes.sweeps d) c h = sweeps_on c d h

    all_on : {l m : Model} {cs : List Call} {rs : List Answer} {ts : List Try} → MakesAll g l cs rs m ts → HostsTrueFrom w t loaded cs → Goes l → GoesOn m ts
    all_on MakesAll.none c h = record { goes = h; told = tt }
    all_on (MakesAll.then {ts = ts} {us = us} d e) c h = let k = makes_on d c.0 h in then_on ts us k (all_on e c.1 k.goes)

-- ---- the laws

opened_goes : (w : World) (premises : Premises w) (t : Tree) (l : Model) → Opened t l → Goes w premises t l.held.nodes l
opened_goes w premises t l o = record {
  sound = o.sound;
  new = omega arith;
  each = λ a host x s. placed (TrueOf w a) x s.0 (λ q p i e. true_at_first w t l.held.nodes host p (i, q, ap (λ z. at_place z q) (sym (s.1 ∙ o.whole)) ∙ e));
}

pub hosts_stay : (w : World) → HostsStayTrue w
hosts_stay w premises g t l m cs rs ts o c d = (all_on w premises t l.held.nodes d c (opened_goes w premises t l o)).told

pub nobody_tells_with_them : (w : World) → NobodyCanTellWithTrueHosts w
nobody_tells_with_them w premises g t l m cs rs ts o c d = nobody_tells w premises g t l m cs rs ts o d (hosts_stay w premises g t l m cs rs ts o c d)
