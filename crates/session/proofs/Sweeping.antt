-- What is visited so far, while a sweep goes on.
use Rattle.std.proofs.Common.{◌≡◌, ℕ, zero, suc, ltb, ◌+◌, ◌-◌, ◌<◌, ◌≤◌, ◌||◌, Bool, true, false, List, [], ◌∷◌, ◌++◌, length, is_some, Some, None, Option, Ok, Err, Result, inl, inr, refl, sym, ap, subst, ◌∙◌, arith}
use Rattle.std.specs.Option.{option_map}
use Rattle.base.specs.declared.fault.Fault.{Fault}
use Rattle.tree.specs.Tree.{Tree, Trees, tree, none, more, labels, below, at_place, among}
use Rattle.tree.proofs.Places.{place_last}
use Rattle.std.proofs.lemmas.List.{length-append, append_assoc}
use Rattle.std.proofs.lemmas.Bool.{lt-ltb}
use Rattle.session.proofs.Tried.{never, equal_from}
use Rattle.host.specs.Answers.{Answers}
use Rattle.store.specs.Stores.{rooms_of}
use Rattle.deciding.specs.Plans.{settings_of}
use Rattle.model.specs.declared.answer.Outcome.{Outcome}
use Rattle.model.specs.Model.{Given, Model, moved}
use Rattle.model.specs.Moves.{Enters, Leaves, deepest}
use Rattle.model.specs.Tries.{Rule, Try}
use Rattle.model.specs.Sweeps.{TriesEach, Visits, VisitsBelow, each_rule}
use Rattle.model.proofs.Visiting.{child_count, count_at, visits_back, child_visited}
use Rattle.session.specs.declared.session.Session.{Session}
use Rattle.session.specs.Following.{Is, given_of, Follows, SamePayoff}
use Rattle.session.specs.Trying.{Appended, TriesRule, Writes}
use Rattle.session.proofs.Writing.{wrote_none}
use Rattle.session.specs.Sweeping.{Visited, VisitedBelow, TriedEach, CountsChildren}
use Rattle.session.proofs.Here.{top_here}
use Rattle.session.proofs.Cursor.{place_is}

-- ---- what stays

pub appended_given : (old new : Session) (r : Result Outcome Fault) → Appended old new r → given_of new ≡ given_of old
appended_given old new (Ok Outcome.Kept) e = ap given_of e
appended_given old new (Ok Outcome.Rewritten) e = e.same_given
appended_given old new (Err f) e = ap given_of e

pub same_given : (old new : Session) → SamePayoff old new → given_of new ≡ given_of old
same_given old new s =
    ap (λ k. record { supported = settings_of k; rooms = rooms_of new.stores }) s.same_support
    ∙ ap (λ k. record { supported = settings_of old.support; rooms = rooms_of k }) s.same_stores

-- ---- places

among_there : (ts : Trees) (i : ℕ) → i < length (labels ts) → is_some (among ts i []) ≡ true
among_there none i lt = absurd (omega arith)
among_there (more (tree l o us) ts) zero lt = refl
among_there (more t ts) (suc i) lt = among_there ts i (omega arith)

child_there : (t : Tree) (p : List ℕ) (i count : ℕ) → count_at t p ≡ Some count → i < count → is_some (at_place t (p ++ i ∷ [])) ≡ true
child_there t p i count e lt = go (at_place t p) refl e
  where
    go : (o : Option Tree) → at_place t p ≡ o → option_map child_count o ≡ Some count → is_some (at_place t (p ++ i ∷ [])) ≡ true
    go None f e' = absurd (let z : ◌≡◌ {A = ℕ} 0 1 = cc in omega arith)
    go (Some (tree l o ts)) f e' =
        let c : length (labels ts) ≡ count = cc in
        ap is_some (place_last t p i l o ts f) ∙ among_there ts i (omega arith)

entered_not : (n : Model) (i : ℕ) (e : Fault) (k : Model) → is_some (at_place n.whole (n.place ++ i ∷ [])) ≡ true → length n.place < 256 → Enters n i (Err e) k → ⊥
entered_not n i e k there deep (Enters.refuses node f at (inl q)) = q.1 there
entered_not n i e k there deep (Enters.refuses node f at (inr (has, inl q))) = q.1 deep
entered_not n i e k there deep (Enters.refuses node f at (inr (has, inr (lt, q)))) = q

entered_is : (n : Model) (i : ℕ) (u : Unit {0}) (k : Model) → Enters n i (Ok u) k → k ≡ moved n (n.place ++ i ∷ [])
entered_is n i u k (Enters.enters node at q) = refl

-- The last step of a place.
last_same : (p q : List ℕ) (i j : ℕ) → p ++ i ∷ [] ≡ q ++ j ∷ [] → p ≡ q
last_same [] [] i j e = refl
last_same [] (y ∷ ys) i j e = absurd (omega (arith, ap length e, length-append ys (j ∷ [])))
last_same (x ∷ xs) [] i j e = absurd (omega (arith, ap length e, length-append xs (i ∷ [])))
last_same (x ∷ xs) (y ∷ ys) i j e =
    let f : x ≡ y = cc in
    let r : xs ++ i ∷ [] ≡ ys ++ j ∷ [] = cc in
    let s : xs ≡ ys = last_same xs ys i j r in
    cc

leaves_not : (n : Model) (p : List ℕ) (i : ℕ) (e : Fault) (k : Model) → n.place ≡ p ++ i ∷ [] → Leaves n (Err e) k → ⊥
leaves_not n p i e k f (Leaves.refuses node g at (inl q)) = q.1 (λ none. omega (arith, ap length (sym f ∙ none), length-append p (i ∷ [])))
leaves_not n p i e k f (Leaves.refuses node g at (inr (some, q))) = q

leaves_is : (n : Model) (p : List ℕ) (i : ℕ) (u : Unit {0}) (k : Model) → n.place ≡ p ++ i ∷ [] → Leaves n (Ok u) k → k ≡ moved n p
leaves_is n p i u k f (Leaves.leaves q j e) = ap (moved n) (last_same q p j i (sym e ∙ f))

-- ---- rules one after the other

module _ (a : Answers) where
  abbrev pub EachOf : List Rule → (old new : Session) → Result (Unit {0}) Fault → Type 0
  EachOf rs old new r = Follows (λ m n. (ts : List Try) × TriesEach (given_of old) a rs m r n ts) old new

  pub none_tried : (s : Session) → EachOf [] s s (Ok tt)
  none_tried s m is = (m, ([], TriesEach.none), is)

  pub one_stopped : (s t : Session) (k : Rule) (rs : List Rule) (e : Fault) → TriesRule a k s t (Err e) → EachOf (k ∷ rs) s t (Err e)
  one_stopped s t k rs e f m is = let x = f m is in (x.0, (x.1.0, TriesEach.stopped {rs = rs} x.1.1), x.2)

  pub one_tried : (s t u : Session) (k : Rule) (rs : List Rule) (o : Outcome) (r : Result (Unit {0}) Fault) → TriesRule a k s t (Ok o) → Appended s t (Ok o) → EachOf rs t u r → EachOf (k ∷ rs) s u r
  one_tried s t u k rs o r f kept later m is =
      let x = f m is in
      let y = later x.0 x.2 in
      (y.0, (x.1.0 ++ y.1.0, TriesEach.tried x.1.1 (subst (λ q. TriesEach q a rs x.0 r y.0 y.1.0) (appended_given s t (Ok o) kept) y.1.1)), y.2)

  -- ---- a place is visited

  pub below_stopped : (s t : Session) (e : Fault) → VisitedBelow a s t (Err e) → Visited a s t (Err e)
  below_stopped s t e f m is = let x = f m is in (x.0, (x.1.1, Visits.stopped_below x.1.2 x.1.3), x.2)

  pub rules_stopped : (s t u : Session) (left : Bool) (e : Fault) → VisitedBelow a s t (Ok left) → given_of t ≡ given_of s → TriedEach a t u (Err e) → Visited a s u (Err e)
  rules_stopped s t u left e f same tried m is =
      let x = f m is in
      let y = tried x.0 x.2 in
      (y.0, (x.1.1 ++ y.1.0, Visits.stopped x.1.2 x.1.3 (subst (λ g. TriesEach g a (each_rule g a) x.0 (Err e) y.0 y.1.0) same y.1.1)), y.2)

  pub place_visited : (s t u : Session) (left : Bool) → VisitedBelow a s t (Ok left) → given_of t ≡ given_of s → TriedEach a t u (Ok tt) → Visited a s u (Ok left)
  place_visited s t u left f same tried m is =
      let x = f m is in
      let y = tried x.0 x.2 in
      (y.0, (x.1.1 ++ y.1.0, Visits.visited x.1.2 x.1.3 (subst (λ g. TriesEach g a (each_rule g a) x.0 (Ok tt) y.0 y.1.0) same y.1.1)), y.2)

  -- The cursor is as far down as it can be.
  below_deepest : {g : Given} {m : Model} (d k : ℕ) → d ≡ 0 → VisitsBelow g a d 0 k m (Ok (ltb 0 k)) m []
  below_deepest d zero e = VisitsBelow.none
  below_deepest {g} {m} d (suc k) e = subst (λ b. VisitsBelow g a d 0 (suc k) m (Ok b) m []) (sym (lt-ltb 0 (suc k) (omega arith))) (subst (λ n. VisitsBelow g a n 0 (suc k) m (Ok true) m []) (sym e) VisitsBelow.too_deep)

  pub deepest_visited : (s : Session) (count : ℕ) → s.depth ≡ 256 → s.depth ≤ length s.path → CountsChildren s count → VisitedBelow a s s (Ok (ltb 0 count))
  deepest_visited s count full long counts m is =
      let t = top_here _ _ _ _ _ m is in
      let c : count ≡ length (labels (below t.0)) = counts m is t.0 t.1 in (
        m,
        (
          t.0,
          [],
          t.1,
          subst (λ k. VisitsBelow (given_of s) a (deepest - length m.place) 0 (length (labels (below t.0))) m (Ok (ltb 0 k)) m []) (sym c)
              (below_deepest (deepest - length m.place) (length (labels (below t.0))) (omega (arith, place_is _ _ _ s.path s.depth _ m is long, full))),
        ),
        is,
      )

  -- ---- children are visited one after the other

  -- What is known when the first children are visited: at the same place the list of visits goes on.
  abbrev pub or_left : Bool → Result Bool Fault → Result Bool Fault
  or_left b (Ok c) = Ok (b || c)
  or_left b (Err e) = Err e

  or_both : (b c : Bool) (r : Result Bool Fault) → or_left b (or_left c r) ≡ or_left (b || c) r
  or_both true c (Ok d) = refl
  or_both false c (Ok d) = refl
  or_both b c (Err e) = refl

  pub record SoFar (g : Given) (m : Model) (now : Session) (count child : ℕ) (left : Bool) : Type 0 where
    pub n : Model
    pub tries : List Try
    pub is : Is now n
    pub same_place : n.place ≡ m.place
    pub counted : count_at n.whole m.place ≡ Some count
    pub onward : (r : Result Bool Fault) (k : Model) (us : List Try) → VisitsBelow g a (deepest - length m.place) child (count - child) n r k us
        → VisitsBelow g a (deepest - length m.place) 0 count m (or_left left r) k (tries ++ us)

  pub record Going (start now : Session) (count child : ℕ) (left : Bool) : Type 0 where
    pub given : given_of now ≡ given_of start
    pub wrote : ∥ Writes start now ∥₁
    pub shallow : start.depth < 256
    pub long : start.depth ≤ length start.path
    pub counts : CountsChildren start count
    pub so_far : (m : Model) → Is start m → SoFar (given_of start) m now count child left

  or_none : (r : Result Bool Fault) → or_left false r ≡ r
  or_none (Ok c) = refl
  or_none (Err e) = refl

  pub none_visited : (s : Session) (count : ℕ) → s.depth < 256 → s.depth ≤ length s.path → CountsChildren s count → Going s s count 0 false
  none_visited s count lt long counts = record {
    given = refl;
    wrote = wrote_none s;
    shallow = lt;
    long = long;
    counts = counts;
    so_far = λ m is.
        let t = top_here _ _ _ _ _ m is in
        record {
          n = m;
          tries = [];
          is = is;
          same_place = refl;
          counted = ap (option_map child_count) t.1 ∙ ap (λ k. Some k) (sym (counts m is t.0 t.1));
          onward = λ r k us v.
              subst (λ q. VisitsBelow (given_of s) a (deepest - length m.place) 0 count m q k us) (sym (or_none r))
              (subst (λ c. VisitsBelow (given_of s) a (deepest - length m.place) 0 c m r k us) (omega arith) v);
        };
  }

  -- A child, and then the others.
  then_below : {g : Given} {d i k : ℕ} {deeper : Bool} {l m n : Model} {ts us : List Try} (r : Result Bool Fault)
      → Visits g a d (moved l (l.place ++ i ∷ [])) (Ok deeper) m ts → VisitsBelow g a (suc d) (suc i) k (moved m l.place) r n us
      → VisitsBelow g a (suc d) i (suc k) l (or_left deeper r) n (ts ++ us)
  then_below (Ok c) v w = VisitsBelow.child v w
  then_below (Err e) v w = VisitsBelow.later_stopped v w

  or_last : (b : Bool) → or_left b (Ok false) ≡ Ok b
  or_last true = refl
  or_last false = refl

  -- ---- one child

  module _ (start now : Session) (count child : ℕ) (left : Bool) (going : Going start now count child left) (low : child < count) where
    module _ (m : Model) (is : Is start m) where
      abbrev far : SoFar (given_of start) m now count child left
      far = going.so_far m is

      deep : length far.n.place < 256
      deep = omega (arith, going.shallow, ap length far.same_place, place_is _ _ _ start.path start.depth _ m is going.long)

      there : is_some (at_place far.n.whole (far.n.place ++ child ∷ [])) ≡ true
      there = child_there far.n.whole far.n.place child count (ap (count_at far.n.whole) far.same_place ∙ far.counted) low

    -- The child can be entered.
    pub never_refused : (mid : Session) (e : Fault) → Follows (λ m n. Enters m child (Err e) n) now mid → ⊥
    never_refused mid e enters = never start.sound (λ p. let x = enters (far p.0 p.1).n (far p.0 p.1).is in entered_not (far p.0 p.1).n child e x.0 (there p.0 p.1) (deep p.0 p.1) x.1)

    module _ (mid : Session) (u : Unit {0}) (enters : Follows (λ m n. Enters m child (Ok u) n) now mid) (same : given_of mid ≡ given_of now) where
      -- The visit of the child, from where it was entered.
      from_child : (end : Session) (r : Result Bool Fault) → Visited a mid end r → (m : Model) (is : Is start m)
          → (k : Model) × ((ts : List Try) × Visits (given_of start) a (deepest - (length m.place + 1)) (moved (far m is).n ((far m is).n.place ++ child ∷ [])) r k ts) × Is end k
      from_child end r visits m is =
          let x = enters (far m is).n (far m is).is in
          let f = entered_is (far m is).n child u x.0 x.1 in
          let v = visits x.0 x.2 in
          let deeper : deepest - length x.0.place ≡ deepest - (length m.place + 1) =
          ap (λ l. deepest - l) (ap (λ n. length n.place) f ∙ length-append (far m is).n.place (child ∷ []) ∙ ap (λ l. l + 1) (ap length (far m is).same_place)) in (
            v.0,
            (
              v.1.0,
              subst (λ n. Visits (given_of start) a (deepest - (length m.place + 1)) n r v.0 v.1.0) f
                  (subst (λ d. Visits (given_of start) a d x.0 r v.0 v.1.0) deeper
                  (subst (λ g. Visits g a (deepest - length x.0.place) x.0 r v.0 v.1.0) (same ∙ going.given) v.1.1)),
            ),
            v.2,
          )

      -- The cursor is one step further down.
      pub one_deeper : mid.depth ≤ length mid.path → mid.depth ≡ start.depth + 1
      one_deeper long = equal_from start.sound mid.depth (start.depth + 1) (λ p.
          let x = enters (far p.0 p.1).n (far p.0 p.1).is in
          let f = entered_is (far p.0 p.1).n child u x.0 x.1 in
          omega (
            arith,
            place_is _ _ _ mid.path mid.depth _ x.0 x.2 long,
            ap (λ n. length n.place) f,
            length-append (far p.0 p.1).n.place (child ∷ []),
            ap length (far p.0 p.1).same_place,
            place_is _ _ _ start.path start.depth _ p.0 p.1 going.long,
          ))

      -- It is refused.
      pub child_refused : (end : Session) (e : Fault) → Visited a mid end (Err e) → VisitedBelow a start end (Err e)
      child_refused end e visits m is =
          let v = from_child end (Err e) visits m is in
          let f = far m is in
          let t = top_here _ _ _ _ _ m is in
          let c : count ≡ length (labels (below t.0)) = going.counts m is t.0 t.1 in
          let stop : VisitsBelow (given_of start) a (deepest - length m.place) child (count - child) f.n (Err e) v.0 v.1.0 =
          subst (λ d. VisitsBelow (given_of start) a d child (count - child) f.n (Err e) v.0 v.1.0) (omega (arith, deep m is, ap length f.same_place))
          (subst (λ k. VisitsBelow (given_of start) a (suc (deepest - (length m.place + 1))) child k f.n (Err e) v.0 v.1.0) (omega arith)
          (VisitsBelow.child_stopped {k = count - (child + 1)} v.1.1)) in (
            v.0,
            (t.0, f.tries ++ v.1.0, t.1, subst (λ k. VisitsBelow (given_of start) a (deepest - length m.place) 0 k m (Err e) v.0 (f.tries ++ v.1.0)) c (f.onward (Err e) v.0 v.1.0 stop)),
            v.2,
          )

      -- It is visited, and the cursor is at its place.
      module _ (end : Session) (deeper : Bool) (visits : Visited a mid end (Ok deeper)) where
        back_place : (m : Model) (is : Is start m) → (from_child end (Ok deeper) visits m is).0.place ≡ (far m is).n.place ++ child ∷ []
        back_place m is = (visits_back (from_child end (Ok deeper) visits m is).1.1).same_place

        pub left_not : (next : Session) (e : Fault) → Follows (λ m n. Leaves m (Err e) n) end next → ⊥
        left_not next e leaves = never start.sound (λ p.
            let v = from_child end (Ok deeper) visits p.0 p.1 in
            let x = leaves v.0 v.2 in
            leaves_not v.0 (far p.0 p.1).n.place child e x.0 (back_place p.0 p.1) x.1)

        -- The visits go on behind it.
        pub child_done : (next : Session) (u' : Unit {0}) → Follows (λ m n. Leaves m (Ok u') n) end next → given_of next ≡ given_of start → ∥ Writes start next ∥₁ → Going start next count (child + 1) (left || deeper)
        child_done next u' leaves given wrote = record {
          given = given;
          wrote = wrote;
          shallow = going.shallow;
          long = going.long;
          counts = going.counts;
          so_far = λ m is.
              let v = from_child end (Ok deeper) visits m is in
              let f = far m is in
              let x = leaves v.0 v.2 in
              let up : x.0 ≡ moved v.0 f.n.place = leaves_is v.0 f.n.place child u' x.0 (back_place m is) x.1 in
              record {
                n = x.0;
                tries = f.tries ++ v.1.0;
                is = x.2;
                same_place = ap (λ n. n.place) up ∙ f.same_place;
                counted =
                    ap (λ n. count_at n.whole m.place) up
                    ∙ ap (count_at v.0.whole) (sym f.same_place)
                    ∙ child_visited f.n child v.1.1
                    ∙ ap (count_at f.n.whole) f.same_place
                    ∙ f.counted;
                onward = λ r k us w.
                    let w' : VisitsBelow (given_of start) a (suc (deepest - (length m.place + 1))) (suc child) (count - (child + 1)) (moved v.0 f.n.place) r k us =
                    subst (λ n. VisitsBelow (given_of start) a (suc (deepest - (length m.place + 1))) (suc child) (count - (child + 1)) n r k us) up
                    (subst (λ d. VisitsBelow (given_of start) a d (suc child) (count - (child + 1)) x.0 r k us) (omega (arith, deep m is, ap length f.same_place))
                    (subst (λ i. VisitsBelow (given_of start) a (deepest - length m.place) i (count - (child + 1)) x.0 r k us) (omega arith) w)) in
                    let both = then_below r v.1.1 w' in
                    let here : VisitsBelow (given_of start) a (deepest - length m.place) child (count - child) f.n (or_left deeper r) k (v.1.0 ++ us) =
                    subst (λ d. VisitsBelow (given_of start) a d child (count - child) f.n (or_left deeper r) k (v.1.0 ++ us)) (omega (arith, deep m is, ap length f.same_place))
                    (subst (λ c. VisitsBelow (given_of start) a (suc (deepest - (length m.place + 1))) child c f.n (or_left deeper r) k (v.1.0 ++ us)) (omega arith) both) in
                    subst (λ q. VisitsBelow (given_of start) a (deepest - length m.place) 0 count m q k ((f.tries ++ v.1.0) ++ us)) (or_both left deeper r)
                    (subst (λ ts. VisitsBelow (given_of start) a (deepest - length m.place) 0 count m (or_left left (or_left deeper r)) k ts) (sym (append_assoc f.tries v.1.0 us))
                    (f.onward (or_left deeper r) k (v.1.0 ++ us) here));
              };
        }

  -- All children are visited.
  pub all_visited : (start now : Session) (count child : ℕ) (left : Bool) → Going start now count child left → count ≤ child → VisitedBelow a start now (Ok left)
  all_visited start now count child left going done m is =
      let f = going.so_far m is in
      let t = top_here _ _ _ _ _ m is in
      let c : count ≡ length (labels (below t.0)) = going.counts m is t.0 t.1 in
      let end : VisitsBelow (given_of start) a (deepest - length m.place) child (count - child) f.n (Ok false) f.n [] =
      subst (λ k. VisitsBelow (given_of start) a (deepest - length m.place) child k f.n (Ok false) f.n []) (omega arith) VisitsBelow.none in (
        f.n,
        (
          t.0,
          f.tries ++ [],
          t.1,
          subst (λ k. VisitsBelow (given_of start) a (deepest - length m.place) 0 k m (Ok left) f.n (f.tries ++ [])) c
              (subst (λ q. VisitsBelow (given_of start) a (deepest - length m.place) 0 count m q f.n (f.tries ++ [])) (or_last left) (f.onward (Ok false) f.n [] end)),
        ),
        f.is,
      )
