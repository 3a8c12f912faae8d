-- What a sweep has done so far, while rounds go on.
use Rattle.std.proofs.Common.{◌≡◌, ℕ, ◌+◌, ◌-◌, ◌<◌, ◌≤◌, Bool, List, [], ◌++◌, length, Ok, Err, Result, refl, sym, ap, subst, ◌∙◌, arith}
use Rattle.std.proofs.lemmas.List.{append_assoc}
use Rattle.base.specs.declared.fault.Fault.{Fault}
use Rattle.host.specs.Answers.{Answers}
use Rattle.model.specs.declared.answer.Swept.{Swept}
use Rattle.model.specs.declared.answer.SweepRefused.{SweepRefused}
use Rattle.model.specs.Model.{Given, Model}
use Rattle.model.specs.Moves.{deepest}
use Rattle.model.specs.Tries.{Try}
use Rattle.model.specs.Sweeps.{Visits, VisitsAll, Rounds, Sweeps}
use Rattle.model.proofs.Onward.{sound_moved, visits_onward, rounds_onward}
use Rattle.session.specs.declared.session.Session.{Session}
use Rattle.session.specs.Following.{Is, given_of}
use Rattle.session.specs.Sweeping.{Visited, RoundsMade, SweepsAll, AtRoot}
use Rattle.session.specs.Trying.{Writes}
use Rattle.session.proofs.Writing.{wrote_none}
use Rattle.session.proofs.Tried.{lower_from, few_rewrites}

-- Rounds and some before them.
abbrev pub later : ℕ → Result (ℕ × Bool) Fault → Result (ℕ × Bool) Fault
later n (Ok r) = Ok (n + r.0, r.1)
later n (Err e) = Err e

later_none : (r : Result (ℕ × Bool) Fault) → later 0 r ≡ r
later_none (Ok r) = ap (λ k. Ok (k, r.1)) (omega arith)
later_none (Err e) = refl

module _ (a : Answers) where
  pub record SoFar (g : Given) (m : Model) (now : Session) (rounds : ℕ) : Type 0 where
    pub n : Model
    pub tries : List Try
    pub is : Is now n
    pub onward : (r : Result (ℕ × Bool) Fault) (k : Model) (us : List Try) → Rounds g a n r k us → Rounds g a m (later rounds r) k (tries ++ us)

  pub record Going (start now : Session) (rounds : ℕ) : Type 0 where
    pub given : given_of now ≡ given_of start
    pub wrote : ∥ Writes start now ∥₁
    pub counted : rounds + start.rewrites ≤ now.rewrites
    pub so_far : (m : Model) → Is start m → SoFar (given_of start) m now rounds

  pub none_made : (s : Session) → Going s s 0
  none_made s = record {
    given = refl;
    wrote = wrote_none s;
    counted = omega arith;
    so_far = λ m is. record { n = m; tries = []; is = is; onward = λ r k us d. subst (λ q. Rounds (given_of s) a m q k us) (sym (later_none r)) d };
  }

  module _ (start now mid : Session) (rounds : ℕ) (going : Going start now rounds) (rooted : AtRoot now mid) (same : given_of mid ≡ given_of now) where
    pub few_rounds : rounds < 0x10000
    few_rounds = lower_from start.sound rounds 0x10000 (λ p. let f = going.so_far p.0 p.1 in omega (arith, few_rewrites now f.n f.is, going.counted))

    pub few_now : now.rewrites < 0x10000
    few_now = lower_from start.sound now.rewrites 0x10000 (λ p. let f = going.so_far p.0 p.1 in omega (arith, few_rewrites now f.n f.is))

    module _ (end : Session) (r : Result Bool Fault) (visits : Visited a mid end r) where
      from_root : (m : Model) (is : Is start m) → (k : Model) × ((ts : List Try) × VisitsAll (given_of start) a (going.so_far m is).n r k ts) × Is end k
      from_root m is =
          let f = going.so_far m is in
          let x = rooted f.n f.is in
          let v = visits x.0 x.2 in (
            v.0,
            (
              v.1.0,
              subst (λ n. Visits (given_of start) a (deepest - length n.place) n r v.0 v.1.0) x.1
                  (subst (λ g. Visits g a (deepest - length x.0.place) x.0 r v.0 v.1.0) (same ∙ going.given) v.1.1),
            ),
            v.2,
          )

      pub not_fewer : now.rewrites < end.rewrites + 1
      not_fewer = lower_from start.sound now.rewrites (end.rewrites + 1) (λ p.
          let f = going.so_far p.0 p.1 in
          let v = from_root p.0 p.1 in
          omega (arith, (visits_onward v.1.1 (sound_moved [] f.is.sound)).counts, f.is.counted, v.2.counted))

    module _ (end : Session) where
      pub round_stopped : (e : Fault) → Visited a mid end (Err e) → RoundsMade a start end (Err e)
      round_stopped e visits m is =
          let f = going.so_far m is in
          let v = from_root end (Err e) visits m is in
          (v.0, (f.tries ++ v.1.0, f.onward (Err e) v.0 v.1.0 (Rounds.stopped v.1.1)), v.2)

      module _ (left : Bool) (visits : Visited a mid end (Ok left)) where
        pub last_round : end.rewrites ≡ now.rewrites → RoundsMade a start end (Ok (rounds + 1, left))
        last_round none m is =
            let f = going.so_far m is in
            let v = from_root end (Ok left) visits m is in
            (v.0, (f.tries ++ v.1.0, f.onward (Ok (1, left)) v.0 v.1.0 (Rounds.last v.1.1 (v.2.counted ∙ none ∙ sym f.is.counted))), v.2)

        one_more : {g : Given} {l m k : Model} {ts us : List Try} (r : Result (ℕ × Bool) Fault) → VisitsAll g a l (Ok left) m ts → (m.rewrites ≡ l.rewrites → ⊥) → Rounds g a m r k us → Rounds g a l (later 1 r) k (ts ++ us)
        one_more {g} {l} {m} {k} {ts} {us} (Ok r) v n d = subst (λ c. Rounds g a l (Ok (c, r.1)) k (ts ++ us)) (omega arith) (Rounds.more v n d)
        one_more (Err e) v n d = Rounds.later_stopped v n d

        later_both : (r : Result (ℕ × Bool) Fault) → later rounds (later 1 r) ≡ later (rounds + 1) r
        later_both (Ok r) = ap (λ k. Ok (k, r.1)) (omega arith)
        later_both (Err e) = refl

        pub round_more : (end.rewrites ≡ now.rewrites → ⊥) → given_of end ≡ given_of start → ∥ Writes start end ∥₁ → Going start end (rounds + 1)
        round_more some given wrote = record {
          given = given;
          wrote = wrote;
          counted = omega (arith, going.counted, not_fewer end (Ok left) visits, some);
          so_far = λ m is.
              let f = going.so_far m is in
              let v = from_root end (Ok left) visits m is in
              record {
                n = v.0;
                tries = f.tries ++ v.1.0;
                is = v.2;
                onward = λ r k us d.
                    subst (λ q. Rounds (given_of start) a m q k ((f.tries ++ v.1.0) ++ us)) (later_both r)
                    (subst (λ ts. Rounds (given_of start) a m (later rounds (later 1 r)) k ts) (sym (append_assoc f.tries v.1.0 us))
                    (f.onward (later 1 r) k (v.1.0 ++ us) (one_more r v.1.1 (λ e. some (sym v.2.counted ∙ e ∙ f.is.counted)) d)));
              };
        }

  -- ---- the whole sweep

  module _ (start made end : Session) (r : Result (ℕ × Bool) Fault) (rounds : RoundsMade a start made r) (rooted : AtRoot made end) where
    rewrites_kept : (m : Model) (is : Is start m) → m.rewrites ≤ (rounds m is).0.rewrites
    rewrites_kept m is = let x = rounds m is in omega (arith, (rounds_onward x.1.1 is.sound).counts)

    pub none_lost : start.rewrites < made.rewrites + 1
    none_lost = lower_from start.sound start.rewrites (made.rewrites + 1) (λ p. let x = rounds p.0 p.1 in omega (arith, rewrites_kept p.0 p.1, p.1.counted, x.2.counted))

  pub all_swept : (start made end : Session) (s : Swept) → RoundsMade a start made (Ok (s.rounds, s.left)) → AtRoot made end → s.rewrites + start.rewrites ≡ made.rewrites → SweepsAll a start end (Ok s)
  all_swept start made end s rounds rooted counted m is =
      let x = rounds m is in
      let y = rooted x.0 x.2 in
      (y.0, (x.1.0, subst (λ n. Sweeps (given_of start) a m (Ok s) n x.1.0) (sym y.1) (Sweeps.sweeps x.1.1 (omega (arith, is.counted, x.2.counted, counted)))), y.2)

  pub sweep_refused : (start made end : Session) (e : SweepRefused) → RoundsMade a start made (Err e.fault) → AtRoot made end → e.rewrites + start.rewrites ≡ made.rewrites → SweepsAll a start end (Err e)
  sweep_refused start made end e rounds rooted counted m is =
      let x = rounds m is in
      let y = rooted x.0 x.2 in
      (y.0, (x.1.0, subst (λ n. Sweeps (given_of start) a m (Err e) n x.1.0) (sym y.1) (Sweeps.refused x.1.1 (omega (arith, is.counted, x.2.counted, counted)))), y.2)
