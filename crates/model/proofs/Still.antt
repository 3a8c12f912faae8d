-- A round that rewrites nothing leaves the session as it was, and has tried each rule wherever the cursor can go.
use Rattle.std.proofs.Common.{◌≡◌, ◌⊎◌, ℕ, zero, suc, ◌+◌, ◌<◌, ◌≤◌, Bool, true, false, ◌||◌, List, [], ◌∷◌, ◌++◌, length, Some, None, Ok, Result, is_some, sym, refl, ap, ◌∙◌, subst, inl, inr, arith}
use Rattle.std.proofs.lemmas.Bool.{cases_eq}
use Rattle.std.proofs.lemmas.List.{append-nil, append_assoc}
use Rattle.base.specs.declared.fault.Fault.{Fault}
use Rattle.tree.specs.Tree.{Tree, Trees, tree, none, more, labels, own_of, at_place, among}
use Rattle.tree.specs.Lawful.{sort_of}
use Rattle.meaning.specs.Expression.{Expression}
use Rattle.meaning.specs.Trees.{tree_of}
use Rattle.host.specs.Answers.{Answers}
use Rattle.rules.specs.Deciding.{decided}
use Rattle.rules.proofs.Absurd.{none_some, false_true}
use Rattle.rules.proofs.Payoffs.{sort_is}
use Rattle.model.specs.declared.answer.Outcome.{Outcome}
use Rattle.model.specs.Model.{Given, Model, Sound, At, moved}
use Rattle.model.specs.Tries.{Rule, Try, Tries, decision}
use Rattle.model.specs.Moves.{deepest}
use Rattle.model.specs.Sweeps.{TriesEach, each_rule, Visits, VisitsBelow, Rounds, Sweeps}
use Rattle.model.specs.Swept.{AllKeep, ASweepLeavesNothing, ASweepSaysWhatItLeft, ASweepEndsAtTheRoot}
use Rattle.model.proofs.Lawful.{lawful_place, stored_alike}
use Rattle.model.proofs.Onward.{sound_moved, visits_onward}
use Rattle.model.proofs.Visiting.{child_count}

-- ---- places below a place

mutual
  place_both : (t : Tree) (p q : List ℕ) (s : Tree) → at_place t p ≡ Some s → at_place t (p ++ q) ≡ at_place s q
  place_both (tree l o ts) [] q s e = let f : tree l o ts ≡ s = cc in ap (λ z. at_place z q) f
  place_both (tree l o ts) (i ∷ p) q s e = among_both ts i p q s e

  among_both : (ts : Trees) (i : ℕ) (p q : List ℕ) (s : Tree) → among ts i p ≡ Some s → among ts i (p ++ q) ≡ at_place s q
  among_both none i p q s e = none_some e
  among_both (more t ts) zero p q s e = place_both t p q s e
  among_both (more t ts) (suc i) p q s e = among_both ts i p q s e

among_counted : (ts : Trees) (i : ℕ) (p : List ℕ) → is_some (among ts i p) ≡ true → i < length (labels ts)
among_counted none i p e = false_true e
among_counted (more t ts) zero p e = omega arith
among_counted (more t ts) (suc i) p e = omega (arith, among_counted ts i p e)

counted : (t : Tree) (i : ℕ) (p : List ℕ) → is_some (at_place t (i ∷ p)) ≡ true → i < child_count t
counted (tree l o ts) i p e = among_counted ts i p e

among_there : (ts : Trees) (i : ℕ) → i < length (labels ts) → is_some (among ts i []) ≡ true
among_there none i lt = absurd (omega arith)
among_there (more (tree l o us) ts) zero lt = refl
among_there (more t ts) (suc i) lt = among_there ts i (omega arith)

there : (t : Tree) (i : ℕ) → i < child_count t → is_some (at_place t (i ∷ [])) ≡ true
there (tree l o ts) i lt = among_there ts i lt

-- What stands below a child's place is counted among its parent's children.
counted_below : (m : Model) (t : Tree) (i : ℕ) (p : List ℕ) → at_place m.whole m.place ≡ Some t → is_some (at_place m.whole (m.place ++ i ∷ p)) ≡ true → i < child_count t
counted_below m t i p at e = counted t i p (ap is_some (sym (place_both m.whole m.place (i ∷ p) t at)) ∙ e)

either_true : (b c : Bool) → b || c ≡ true → (b ≡ true) ⊎ (c ≡ true)
either_true true c e = inl refl
either_true false c e = inr e

second_true : (b c : Bool) → c ≡ true → b || c ≡ true
second_true true c e = refl
second_true false c e = e

-- So many steps below a place there is a node.
abbrev Below : Tree → List ℕ → ℕ → Type 0
Below t q n = (p : List ℕ) × (length p ≡ n) × (is_some (at_place t (q ++ p)) ≡ true)

-- What is stored at a place is one expression.
alike_at : (m : Model) (x y : Expression) → Sound m → At m x → At m y → x ≡ y
alike_at m x y s i j =
    let same : tree_of x ≡ tree_of y = (let e : Some (tree_of x) ≡ Some (tree_of y) = sym i.1 ∙ j.1 in cc) in
    stored_alike (tree_of x) x y (lawful_place m.whole m.place (tree_of x) i.1 s.payoff.0, sort_is x) (i.0, refl) (j.0, sym same)

-- A rule, and each of some rules, keeps what is at the cursor.
module _ (g : Given) (a : Answers) where
  abbrev pub KeepsAt : Rule → Model → Type 0
  KeepsAt k m = (x : Expression) → At m x → decided a (decision g a k m x) ≡ None

  abbrev EachKeeps : List Rule → Model → Type 0
  EachKeeps [] m = Unit {0}
  EachKeeps (k ∷ ks) m = KeepsAt k m × EachKeeps ks m

  by_rule : (m : Model) → EachKeeps (each_rule g a) m → (k : Rule) → KeepsAt k m
  by_rule m h Rule.chain = h.0
  by_rule m h Rule.method = h.1.0
  by_rule m h Rule.property = h.1.1.0

module _ {g : Given} {a : Answers} where
  -- ---- rewrites grow

  tries_grow : {k : Rule} {l m : Model} {r : Result Outcome Fault} {ts : List Try} → Tries g a k l r m ts → l.rewrites ≤ m.rewrites
  tries_grow (Tries.at_no_expression t at n) = omega arith
  tries_grow (Tries.keeps x at e) = omega arith
  tries_grow (Tries.refuses x y e at d q) = omega arith
  tries_grow (Tries.rewrites x y at e q) = omega arith

  each_grow : {rs : List Rule} {l m : Model} {r : Result (Unit {0}) Fault} {ts : List Try} → TriesEach g a rs l r m ts → l.rewrites ≤ m.rewrites
  each_grow TriesEach.none = omega arith
  each_grow (TriesEach.tried d e) = omega (arith, tries_grow d, each_grow e)
  each_grow (TriesEach.stopped d) = tries_grow d

  mutual
    visits_grow : {d : ℕ} {l m : Model} {r : Result Bool Fault} {ts : List Try} → Visits g a d l r m ts → l.rewrites ≤ m.rewrites
    visits_grow (Visits.visited at b e) = omega (arith, below_grow b, each_grow e)
    visits_grow (Visits.stopped at b e) = omega (arith, below_grow b, each_grow e)
    visits_grow (Visits.stopped_below at b) = below_grow b

    below_grow : {d i k : ℕ} {l m : Model} {r : Result Bool Fault} {ts : List Try} → VisitsBelow g a d i k l r m ts → l.rewrites ≤ m.rewrites
    below_grow VisitsBelow.none = omega arith
    below_grow VisitsBelow.too_deep = omega arith
    below_grow (VisitsBelow.child v b) = omega (arith, visits_grow v, below_grow b)
    below_grow (VisitsBelow.later_stopped v b) = omega (arith, visits_grow v, below_grow b)
    below_grow (VisitsBelow.child_stopped v) = visits_grow v

  -- ---- where they do not, nothing changes

  tries_still : {k : Rule} {l m : Model} {r : Result Outcome Fault} {ts : List Try} → Tries g a k l r m ts → m.rewrites ≤ l.rewrites → m ≡ l
  tries_still (Tries.at_no_expression t at n) le = refl
  tries_still (Tries.keeps x at e) le = refl
  tries_still (Tries.refuses x y e at d q) le = refl
  tries_still (Tries.rewrites x y at e q) le = absurd (omega arith)

  each_still : {rs : List Rule} {l m : Model} {u : Unit {0}} {ts : List Try} → TriesEach g a rs l (Ok u) m ts → m.rewrites ≤ l.rewrites → m ≡ l
  each_still TriesEach.none le = refl
  each_still (TriesEach.tried d e) le =
      let f = tries_grow d in
      let h = each_grow e in
      each_still e (omega arith) ∙ tries_still d (omega arith)

  mutual
    visits_still : {d : ℕ} {l m : Model} {left : Bool} {ts : List Try} → Visits g a d l (Ok left) m ts → m.rewrites ≤ l.rewrites → m ≡ l
    visits_still (Visits.visited at b e) le =
        let f = below_grow b in
        let h = each_grow e in
        each_still e (omega arith) ∙ below_still b (omega arith)

    below_still : {d i k : ℕ} {l m : Model} {left : Bool} {ts : List Try} → VisitsBelow g a d i k l (Ok left) m ts → m.rewrites ≤ l.rewrites → m ≡ l
    below_still VisitsBelow.none le = refl
    below_still VisitsBelow.too_deep le = refl
    below_still {l = l} (VisitsBelow.child v b) le =
        let f = visits_grow v in
        let h = below_grow b in
        below_still b (omega arith) ∙ ap (λ z. moved z l.place) (visits_still v (omega arith))

  -- The cursor comes back to the parent, and nothing else has changed.
  back_up : {d : ℕ} (l : Model) (i : ℕ) {m : Model} {left : Bool} {ts : List Try} → Visits g a d (moved l (l.place ++ i ∷ [])) (Ok left) m ts → m.rewrites ≤ l.rewrites → moved m l.place ≡ l
  back_up l i v le = ap (λ z. moved z l.place) (visits_still v le)

  -- ---- what was tried

  tries_kept : {k : Rule} {l m : Model} {o : Outcome} {ts : List Try} → Tries g a k l (Ok o) m ts → Sound l → m.rewrites ≤ l.rewrites → KeepsAt g a k l
  tries_kept {l = l} (Tries.at_no_expression t at n) s le x here =
      let same : tree_of x ≡ t = (let e : Some (tree_of x) ≡ Some t = sym here.1 ∙ at in cc) in
      absurd (n (ap (λ z. sort_of (own_of z)) (sym same) ∙ sort_is x))
  tries_kept {k} {l} (Tries.keeps y at e) s le x here = subst (λ z. decided a (decision g a k l z) ≡ None) (alike_at l y x s at here) e
  tries_kept (Tries.rewrites y z at e q) s le x here = absurd (omega arith)

  each_kept : {ks : List Rule} {l m : Model} {u : Unit {0}} {ts : List Try} → TriesEach g a ks l (Ok u) m ts → Sound l → m.rewrites ≤ l.rewrites → EachKeeps g a ks l
  each_kept TriesEach.none s le = tt
  each_kept {l = l} (TriesEach.tried {rs = ks} d e) s le =
      let f = tries_grow d in
      let h = each_grow e in
      let same = tries_still d (omega arith) in
      (tries_kept d s (omega arith), subst (EachKeeps g a ks) same (each_kept e (subst Sound (sym same) s) (omega arith)))

  mutual
    visits_kept : {d : ℕ} {l m : Model} {left : Bool} {ts : List Try} → Visits g a d l (Ok left) m ts → Sound l → m.rewrites ≤ l.rewrites → (p : List ℕ) → length p ≤ d → AllKeep g a l (l.place ++ p)
    visits_kept {l = l} (Visits.visited at b e) s le [] short k x here =
        let f = below_grow b in
        let h = each_grow e in
        let same = below_still b (omega arith) in
        subst (AllKeep g a l) (sym (append-nil l.place)) (by_rule g a l (subst (EachKeeps g a (each_rule g a)) same (each_kept e (subst Sound (sym same) s) (omega arith)))) k x here
    visits_kept {l = l} (Visits.visited {t = t} at b e) s le (i ∷ p) short k x here =
        let f = below_grow b in
        let h = each_grow e in
        let lt = counted_below l t i p at (ap is_some here.1) in
        below_kept b s (omega arith) i p short (omega arith) (omega arith) k x here

    below_kept : {d j n : ℕ} {l m : Model} {left : Bool} {ts : List Try} → VisitsBelow g a d j n l (Ok left) m ts → Sound l → m.rewrites ≤ l.rewrites → (i : ℕ) (p : List ℕ) → suc (length p) ≤ d → j ≤ i → i < j + n
        → AllKeep g a l (l.place ++ i ∷ p)
    below_kept VisitsBelow.none s le i p short from to k x here = absurd (omega arith)
    below_kept VisitsBelow.too_deep s le i p short from to k x here = absurd (omega arith)
    below_kept {j = j} {l = l} (VisitsBelow.child v b) s le i p short from to k x here =
        let f = visits_grow v in
        let h = below_grow b in
        let same = back_up l j v (omega arith) in
        elim (cases_eq i j) [
          | inl e ↦
              let path : (l.place ++ j ∷ []) ++ p ≡ l.place ++ i ∷ p = append_assoc l.place (j ∷ []) p ∙ ap (λ z. l.place ++ z ∷ p) (sym e) in
              subst (AllKeep g a l) path (visits_kept v (sound_moved _ s) (omega arith) p (omega arith)) k x here
          | inr n ↦ subst (λ z. AllKeep g a z (z.place ++ i ∷ p)) same (below_kept b (subst Sound (sym same) s) (omega arith) i p short (omega arith) (omega arith)) k x here
        ]

  -- ---- what was left

  mutual
    visits_left : {d : ℕ} {l m : Model} {left : Bool} {ts : List Try} → Visits g a d l (Ok left) m ts → m.rewrites ≤ l.rewrites → left ≡ true → Below l.whole l.place (suc d)
    visits_left (Visits.visited {t = t} at b e) le told =
        let f = below_grow b in
        let h = each_grow e in
        below_left t b at (omega arith) (omega arith) told

    below_left : {d j n : ℕ} {l m : Model} {left : Bool} {ts : List Try} (t : Tree) → VisitsBelow g a d j n l (Ok left) m ts → at_place l.whole l.place ≡ Some t → j + n ≤ child_count t → m.rewrites ≤ l.rewrites → left ≡ true
        → Below l.whole l.place (suc d)
    below_left t VisitsBelow.none at room le told = false_true told
    below_left {j = j} {l = l} t VisitsBelow.too_deep at room le told = (j ∷ [], refl, ap is_some (place_both l.whole l.place (j ∷ []) t at) ∙ there t j (omega arith))
    below_left {j = j} {l = l} t (VisitsBelow.child {d = d} {left = here} {more = later} v b) at room le told =
        let f = visits_grow v in
        let h = below_grow b in
        let same = back_up l j v (omega arith) in
        elim (either_true here later told) [
          | inl y ↦
              let q = visits_left v (omega arith) y in
              (j ∷ q.0, ap suc q.1, ap (λ z. is_some (at_place l.whole z)) (sym (append_assoc l.place (j ∷ []) q.0)) ∙ q.2)
          | inr y ↦
              subst (λ z. Below z.whole z.place (suc (suc d))) same
              (below_left t b (subst (λ z. at_place z.whole z.place ≡ Some t) (sym same) at) (omega arith) (omega arith) y)
        ]

  mutual
    visits_all : {d : ℕ} {l m : Model} {left : Bool} {ts : List Try} → Visits g a d l (Ok left) m ts → m.rewrites ≤ l.rewrites → (p : List ℕ) → length p ≡ suc d → is_some (at_place l.whole (l.place ++ p)) ≡ true → left ≡ true
    visits_all (Visits.visited at b e) le [] long some = absurd (omega arith)
    visits_all {l = l} (Visits.visited {t = t} at b e) le (i ∷ p) long some =
        let f = below_grow b in
        let h = each_grow e in
        let lt = counted_below l t i p at some in
        below_all b (omega arith) i p (omega arith) (omega arith) (omega arith) some

    below_all : {d j n : ℕ} {l m : Model} {left : Bool} {ts : List Try} → VisitsBelow g a d j n l (Ok left) m ts → m.rewrites ≤ l.rewrites → (i : ℕ) (p : List ℕ) → length p ≡ d → j ≤ i → i < j + n
        → is_some (at_place l.whole (l.place ++ i ∷ p)) ≡ true → left ≡ true
    below_all VisitsBelow.none le i p long from to some = absurd (omega arith)
    below_all VisitsBelow.too_deep le i p long from to some = refl
    below_all {j = j} {l = l} (VisitsBelow.child {left = here} {more = later} v b) le i p long from to some =
        let f = visits_grow v in
        let h = below_grow b in
        let same = back_up l j v (omega arith) in
        elim (cases_eq i j) [
          | inl e ↦
              let path : (l.place ++ j ∷ []) ++ p ≡ l.place ++ i ∷ p = append_assoc l.place (j ∷ []) p ∙ ap (λ z. l.place ++ z ∷ p) (sym e) in
              ap (λ z. z || later) (visits_all v (omega arith) p (omega arith) (ap (λ z. is_some (at_place l.whole z)) path ∙ some))
          | inr n ↦
              second_true here later
              (below_all b (omega arith) i p long (omega arith) (omega arith) (subst (λ z. is_some (at_place z.whole (z.place ++ i ∷ p)) ≡ true) (sym same) some))
        ]

  -- ---- the rounds

  rounds_kept : {n : ℕ} {left : Bool} {l m : Model} {ts : List Try} → Rounds g a l (Ok (n, left)) m ts → Sound l → (p : List ℕ) → length p ≤ deepest → AllKeep g a m p
  rounds_kept (Rounds.last v e) s p short = subst (λ z. AllKeep g a z p) (sym (visits_still v (omega arith))) (visits_kept v (sound_moved [] s) (omega arith) p short)
  rounds_kept (Rounds.more v n d) s p short = rounds_kept d (visits_onward v (sound_moved [] s)).sound p short

  rounds_left : {n : ℕ} {left : Bool} {l m : Model} {ts : List Try} → Rounds g a l (Ok (n, left)) m ts → left ≡ true → Below m.whole [] (suc deepest)
  rounds_left (Rounds.last v e) told = subst (λ z. Below z.whole [] (suc deepest)) (sym (visits_still v (omega arith))) (visits_left v (omega arith) told)
  rounds_left (Rounds.more v n d) told = rounds_left d told

  rounds_all : {n : ℕ} {left : Bool} {l m : Model} {ts : List Try} → Rounds g a l (Ok (n, left)) m ts → (p : List ℕ) → length p ≡ suc deepest → is_some (at_place m.whole p) ≡ true → left ≡ true
  rounds_all (Rounds.last v e) p long some = visits_all v (omega arith) p long (subst (λ z. is_some (at_place z.whole p) ≡ true) (visits_still v (omega arith)) some)
  rounds_all (Rounds.more v n d) p long some = rounds_all d p long some

-- ---- the laws

pub nothing_left : ASweepLeavesNothing
nothing_left g a l m s ts sound (Sweeps.sweeps d e) = rounds_kept d sound

pub left_told : ASweepSaysWhatItLeft
left_told g a l m s ts (Sweeps.sweeps d e) = (rounds_left d, λ h. rounds_all d h.0 h.1 h.2)

pub ends_at_root : ASweepEndsAtTheRoot
ends_at_root g a l m r ts (Sweeps.sweeps d e) = refl
ends_at_root g a l m r ts (Sweeps.refused d e) = refl
