-- A visit that is not refused comes back to its place, and leaves what is above it with as many children as before.
use Rattle.std.proofs.Common.{◌≡◌, ℕ, zero, suc, ◌<◌, ◌≤◌, Bool, List, [], ◌∷◌, ◌++◌, length, take, Some, Option, Ok, Result, sym, refl, ap, ◌∙◌, subst, arith}
use Rattle.std.specs.Option.{option_map}
use Rattle.std.proofs.lemmas.List.{length-append, take-append-le, take_at}
use Rattle.base.specs.declared.fault.Fault.{Fault}
use Rattle.tree.specs.Tree.{Tree, Trees, tree, none, more, labels, below, at_place, among, replace, replace_among}
use Rattle.host.specs.Answers.{Answers}
use Rattle.model.specs.declared.answer.Outcome.{Outcome}
use Rattle.model.specs.Model.{Given, Model, moved}
use Rattle.model.specs.Tries.{Rule, Try, Tries}
use Rattle.model.specs.Sweeps.{TriesEach, Visits, VisitsBelow}

-- How many children a node has; that of a place.
abbrev pub child_count : Tree → ℕ
child_count t = length (labels (below t))

abbrev pub count_at : Tree → List ℕ → Option ℕ
count_at t p = option_map child_count (at_place t p)

same_count : (ts : Trees) (i : ℕ) (p : List ℕ) (u : Tree) → length (labels (replace_among ts i p u)) ≡ length (labels ts)
same_count none i p u = refl
same_count (more t ts) zero p u = refl
same_count (more t ts) (suc i) p u = ap suc (same_count ts i p u)

mutual
  count_above : (t : Tree) (p : List ℕ) (u : Tree) (d : ℕ) → d < length p → count_at (replace t p u) (take d p) ≡ count_at t (take d p)
  count_above (tree l o ts) [] u d lt = absurd (omega arith)
  count_above (tree l o ts) (i ∷ p) u zero lt = ap (λ n. Some n) (same_count ts i p u)
  count_above (tree l o ts) (i ∷ p) u (suc d) lt = count_above_among ts i p u d (omega arith)

  count_above_among : (ts : Trees) (i : ℕ) (p : List ℕ) (u : Tree) (d : ℕ) → d < length p → option_map child_count (among (replace_among ts i p u) i (take d p)) ≡ option_map child_count (among ts i (take d p))
  count_above_among none i p u d lt = refl
  count_above_among (more t ts) zero p u d lt = count_above t p u d lt
  count_above_among (more t ts) (suc i) p u d lt = count_above_among ts i p u d lt

-- Above the place p each node has as many children as before, and the cursor is there again.
pub record Back (p : List ℕ) (l m : Model) : Type 0 where
  pub same_counts : (d : ℕ) → d < length p → count_at m.whole (take d p) ≡ count_at l.whole (take d p)
  pub same_place : m.place ≡ p

back_then : {p : List ℕ} {l m n : Model} → Back p l m → Back p m n → Back p l n
back_then a b = record { same_counts = λ d lt. b.same_counts d lt ∙ a.same_counts d lt; same_place = b.same_place }

back_after : {p : List ℕ} {l m n : Model} → Back p l m → Back m.place m n → Back p l n
back_after {p} {l} {m} {n} a b = back_then a (subst (λ q. Back q m n) a.same_place b)

stays : (m : Model) → Back m.place m m
stays m = record { same_counts = λ d lt. refl; same_place = refl }

-- From the place of a child, back to its parent.
up : (l m : Model) (i : ℕ) → Back (l.place ++ i ∷ []) (moved l (l.place ++ i ∷ [])) m → (d : ℕ) → d ≤ length l.place → count_at m.whole (take d l.place) ≡ count_at l.whole (take d l.place)
up l m i b d le =
    let short : take d (l.place ++ i ∷ []) ≡ take d l.place = take-append-le d l.place (i ∷ []) le in
    ap (count_at m.whole) (sym short) ∙ b.same_counts d (omega (arith, length-append l.place (i ∷ []))) ∙ ap (count_at l.whole) short

module _ {g : Given} {a : Answers} where
  tries_back : {k : Rule} {l m : Model} {r : Result Outcome Fault} {ts : List Try} → Tries g a k l r m ts → Back l.place l m
  tries_back {l = l} (Tries.at_no_expression t at n) = stays l
  tries_back {l = l} (Tries.keeps x at e) = stays l
  tries_back {l = l} (Tries.refuses x y e at d q) = stays l
  tries_back {l = l} (Tries.rewrites x y at e q) = record { same_counts = λ d lt. count_above l.whole l.place _ d lt; same_place = refl }

  each_back : {rs : List Rule} {l m : Model} {u : Unit {0}} {ts : List Try} → TriesEach g a rs l (Ok u) m ts → Back l.place l m
  each_back {l = l} TriesEach.none = stays l
  each_back (TriesEach.tried d e) = back_after (tries_back d) (each_back e)

  mutual
    pub visits_back : {d : ℕ} {l m : Model} {left : Bool} {ts : List Try} → Visits g a d l (Ok left) m ts → Back l.place l m
    visits_back (Visits.visited at b e) = back_after (below_back b) (each_back e)

    below_back : {d i k : ℕ} {l m : Model} {left : Bool} {ts : List Try} → VisitsBelow g a d i k l (Ok left) m ts → Back l.place l m
    below_back {l = l} VisitsBelow.none = stays l
    below_back {l = l} VisitsBelow.too_deep = stays l
    below_back {i = i} {l = l} (VisitsBelow.child v b) =
        let h = visits_back v in
        let k = below_back b in
        record { same_counts = λ d lt. k.same_counts d lt ∙ up l _ i h d (omega arith); same_place = k.same_place }

-- The node at a child's parent has as many children when the child was visited.
pub child_visited : {g : Given} {a : Answers} {d : ℕ} (l : Model) {m : Model} {left : Bool} {ts : List Try} (i : ℕ) → Visits g a d (moved l (l.place ++ i ∷ [])) (Ok left) m ts → count_at m.whole l.place ≡ count_at l.whole l.place
child_visited {g} {a} {d} l {m} i v =
    let b = visits_back v in
    let all : take (length l.place) (l.place ++ i ∷ []) ≡ l.place = take_at l.place (i ∷ []) (length l.place) refl in
    ap (count_at m.whole) (sym all) ∙ b.same_counts (length l.place) (omega (arith, length-append l.place (i ∷ []))) ∙ ap (count_at l.whole) all
