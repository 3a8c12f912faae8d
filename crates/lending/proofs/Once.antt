-- A session in which one sweep is made.
use Rattle.std.proofs.Common.{◌≡◌, List, [], ◌∷◌, length, Ok, Err, Result, refl, sym, ap, subst, ◌∙◌, arith, append-nil}
use Rattle.std.proofs.Math.Logic.{∥∥₁_map₂}
use Rattle.tree.specs.Tree.{Tree}
use Rattle.store.specs.Stores.{held_of, rooms_of}
use Rattle.file.specs.declared.loaded.Loaded.{Loaded}
use Rattle.file.specs.Calls.{loaded_stores, loaded_root}
use Rattle.file.specs.Payoff.{DenotesPayoff}
use Rattle.host.specs.Answers.{Answers}
use Rattle.deciding.specs.declared.place.Support.{Support}
use Rattle.deciding.specs.Plans.{settings_of}
use Rattle.model.specs.declared.answer.Swept.{Swept}
use Rattle.model.specs.declared.answer.SweepRefused.{SweepRefused}
use Rattle.model.specs.Model.{Given, Model}
use Rattle.model.specs.Tries.{Try}
use Rattle.model.specs.Sweeps.{Sweeps}
use Rattle.model.specs.Calls.{Call, Answer, Makes, MakesAll, all_told}
use Rattle.model.proofs.Calls.{payoff_left, rewrites_counted, nobody_tells}
use Rattle.session.specs.declared.session.Session.{Session}
use Rattle.session.specs.declared.session.ends.Ended.{Ended}
use Rattle.session.specs.Following.{given_of, OpensOn, EndsWith}
use Rattle.session.specs.Sweeping.{SweepsAll}
use Rattle.session.specs.Trying.{Written, Writes}
use Rattle.lending.specs.NumberedWorld.{world_of}
use Rattle.lending.specs.Lending.{Left, SweepsLoaded, given_in, rewrites_of}

told_of : (r : Result Swept SweepRefused) → all_told (Answer.sweeps r ∷ []) ≡ rewrites_of r
told_of (Ok s) = omega arith
told_of (Err e) = omega arith

module _ (a : Answers) (d : Loaded) (support : Support) (first last : Session) (e : Ended) (r : Result Swept SweepRefused)
    (opens : OpensOn d support first) (sweeps : SweepsAll a first last r) (wrote : ∥ Writes first last ∥₁) (given : given_of last ≡ given_of first)
    (ends : EndsWith last e) where
  abbrev g : Given
  g = given_in (rooms_of (loaded_stores d)) support

  given_is : given_of first ≡ g
  given_is = ap (λ k. record { supported = settings_of k; rooms = rooms_of first.stores }) opens.supports ∙ ap (λ k. record { supported = settings_of support; rooms = rooms_of k }) opens.holds

  rooms_kept : rooms_of e.stores ≡ rooms_of (loaded_stores d)
  rooms_kept = ap rooms_of ends.given_back ∙ ap (λ k. k.rooms) given ∙ ap rooms_of opens.holds

  abbrev calls : List Call
  calls = Call.sweep a ∷ []

  abbrev answers : List Answer
  answers = Answer.sweeps r ∷ []

  makes : (l m : Model) (ts : List Try) → Sweeps (given_of first) a l r m ts → MakesAll g l calls answers m ts
  makes l m ts s = subst (λ k. MakesAll k l calls answers m ts) given_is (subst (λ us. MakesAll (given_of first) l calls answers m us) (append-nil ts) (MakesAll.then (Makes.sweeps s) MakesAll.none))

  left : (t : Tree) → DenotesPayoff (held_of (loaded_stores d)) (loaded_root d) t
      → Left a g t (held_of e.stores) (record { root = e.root; counts = e.counts; swept = r })
  left t denotes =
      let o = opens.opened t denotes in
      let x = sweeps o.0 o.2 in
      let end = ends.of_model x.0 x.2 in
      let all = makes o.0 x.0 x.1.0 x.1.1 in
      let counts = rewrites_counted g t o.0 x.0 calls answers x.1.0 o.1 all in
      let told = counts.1 ∙ told_of r in
      record {
        left = x.0.whole;
        rooted = end.0;
        denoted = end.2;
        payoff = (payoff_left g t o.0 x.0 calls answers x.1.0 o.1 all).payoff;
        counted = ends.counted ∙ ap (λ k. record { nodes = length (held_of k).nodes; entries = length (held_of k).entries; text = length (held_of k).text }) (sym ends.given_back);
        tries = x.1.0;
        swept = (o.0, x.0, o.1, subst (λ k. Sweeps k a o.0 r x.0 x.1.0) given_is x.1.1, refl, x.2.held ∙ sym ends.counted);
        nobody_can_tell = λ n p h. nobody_tells (world_of n) p g t o.0 x.0 calls answers x.1.0 o.1 all h;
        all_counted = sym told ∙ counts.0;
        bounded = λ y s. omega (arith, told, counts.2 y s);
      }

  written : ∥ Written (rewrites_of r) (held_of (loaded_stores d)) (held_of e.stores) ∥₁
  written = ∥∥₁_map₂ wrote d.payoff (λ w p.
      let o = opens.opened p.0 p.1 in
      let x = sweeps o.0 o.2 in
      let counts = rewrites_counted g p.0 o.0 x.0 calls answers x.1.0 o.1 (makes o.0 x.0 x.1.0 x.1.1) in
      let many : w.count ≡ rewrites_of r = omega (arith, w.counted, o.2.counted, x.2.counted, o.1.none_made, counts.1, told_of r) in
      subst (λ n. Written n (held_of (loaded_stores d)) (held_of e.stores)) many
      (subst (λ k. Written w.count (held_of (loaded_stores d)) (held_of k)) (sym ends.given_back)
      (subst (λ k. Written w.count (held_of k) (held_of last.stores)) opens.holds w.written)))

  pub swept_once : SweepsLoaded a d support e r
  swept_once = record { rooms_same = rooms_kept; written = written; left = left }
