-- Following a node's links, child by child.
use Rattle.std.proofs.Common.{◌≡◌, ℕ, zero, suc, ◌+◌, ◌<◌, ◌≤◌, Bool, true, false, ◌&&◌, List, [], ◌∷◌, length, take, Some, None, MatchBool, Option, sym, ap, ◌∙◌, subst, inl, inr, arith, take_all, length-append, length-take}
use Rattle.std.specs.List.{slice_get}
use Rattle.std.proofs.lemmas.Bool.{cases_eq}
use Rattle.tree.specs.declared.node.Node.{Node}
use Rattle.tree.specs.Tree.{same}
use Rattle.tree.specs.Heap.{links, list_of, cut, children}
use Rattle.tree.specs.Roles.{role_of_node}
use Rattle.tree.specs.Laws.{count}
use Rattle.std.proofs.lemmas.Option.{slice_get_within}
use Rattle.file.specs.Layout.{Layout}
use Rattle.file.specs.Steps.{Reached, AllReached}
use Rattle.file.proofs.Tallied.{tallied_as, count_more}
use Rattle.file.specs.Tables.{Tallies}

pub nth_none : {X : Type 0} (xs : List X) (k : ℕ) → slice_get xs k ≡ None → length xs ≤ k
nth_none [] k e = omega arith
nth_none (x ∷ xs) zero e = absurd (let z : ◌≡◌ {A = ℕ} 0 1 = cc in omega arith)
nth_none (x ∷ xs) (suc k) e = omega (arith, nth_none xs k e)

-- A node has no more children than it names.
pub children_most : (es : List ℕ) (n : Node) → length (children es n) ≤ length (links n) + (list_of n).len
children_most es n =
    let len : length (cut es (list_of n).start (list_of n).len) ≤ (list_of n).len = simp length-take (omega arith) in
    omega (arith, length-append (links n) (cut es (list_of n).start (list_of n).len), len)

-- The first k children are reached.
abbrev pub ReachedBelow : Layout → ℕ → Node → ℕ → Type 0
ReachedBelow l x n k = (j c : ℕ) → j < k → slice_get (children l.entries n) j ≡ Some c → Reached l x (role_of_node n j) c

-- The first k children are counted, and `all` says whether they are reached.
abbrev pub Followed : Layout → ℕ → Node → (old new : List ℕ) (k : ℕ) → Bool → Type 0
Followed l x n old new k all =
    ((f : ℕ → ℕ) → Tallies old f → Tallies new (λ y. f y + count y (take k (children l.entries n))))
    × MatchBool all (ReachedBelow l x n k) (AllReached l x n → ⊥)

module _ (l : Layout) (x : ℕ) (n : Node) (old : List ℕ) where
  module _ (mid new : List ℕ) (k c : ℕ) (at : slice_get (children l.entries n) k ≡ Some c) (more : (f : ℕ → ℕ) → Tallies mid f → Tallies new (λ y. f y + same y c)) where
    counted : ((f : ℕ → ℕ) → Tallies old f → Tallies mid (λ y. f y + count y (take k (children l.entries n))))
        → (f : ℕ → ℕ) → Tallies old f → Tallies new (λ y. f y + count y (take (k + 1) (children l.entries n)))
    counted before f t =
        tallied_as new (λ y. f y + count y (take k (children l.entries n)) + same y c) (λ y. f y + count y (take (k + 1) (children l.entries n)))
        (λ y. omega (arith, count_more (children l.entries n) k c y at)) (more (λ y. f y + count y (take k (children l.entries n))) (before f t))

    reached_more : ReachedBelow l x n k → Reached l x (role_of_node n k) c → ReachedBelow l x n (k + 1)
    reached_more low here j d lt is =
        elim (cases_eq j k) [
          | inl e ↦
              let f : ◌≡◌ {A = Option ℕ} (Some d) (Some c) = sym is ∙ ap (slice_get (children l.entries n)) e ∙ at in
              let g : d ≡ c = cc in
              subst (λ i. Reached l x (role_of_node n i) d) (sym e) (subst (Reached l x (role_of_node n k)) (sym g) here)
          | inr ne ↦ low j d (omega arith) is
        ]

    when_more : (a b : Bool) → MatchBool a (ReachedBelow l x n k) (AllReached l x n → ⊥) → MatchBool b (Reached l x (role_of_node n k) c) (Reached l x (role_of_node n k) c → ⊥)
        → MatchBool (a && b) (ReachedBelow l x n (k + 1)) (AllReached l x n → ⊥)
    when_more true true w here = reached_more w here
    when_more true false w not = λ all. not (all k c at)
    when_more false b w here = w

    pub follow_more : (a b : Bool) → Followed l x n old mid k a → MatchBool b (Reached l x (role_of_node n k) c) (Reached l x (role_of_node n k) c → ⊥) → Followed l x n old new (k + 1) (a && b)
    follow_more a b w here = (counted w.0, when_more a b w.1 here)

  -- There is no child k.
  module _ (mid : List ℕ) (k : ℕ) (past : length (children l.entries n) ≤ k) where
    pub follow_past : (a : Bool) → Followed l x n old mid k a → Followed l x n old mid (k + 1) a
    follow_past a w = (
      λ f t. tallied_as mid (λ y. f y + count y (take k (children l.entries n))) (λ y. f y + count y (take (k + 1) (children l.entries n)))
          (λ y. ap (λ ks. f y + count y ks) (take_all k (children l.entries n) past ∙ sym (take_all (k + 1) (children l.entries n) (omega arith)))) (w.0 f t),
      when_past a w.1,
    )
      where
        when_past : (b : Bool) → MatchBool b (ReachedBelow l x n k) (AllReached l x n → ⊥) → MatchBool b (ReachedBelow l x n (k + 1)) (AllReached l x n → ⊥)
        when_past true v = λ j c lt at. v j c (omega (arith, slice_get_within (children l.entries n) j c at)) at
        when_past false v = v

  when_all : (k : ℕ) → length (children l.entries n) ≤ k → (b : Bool) → MatchBool b (ReachedBelow l x n k) (AllReached l x n → ⊥) → MatchBool b (AllReached l x n) (AllReached l x n → ⊥)
  when_all k le true w = λ j c at. w j c (omega (arith, slice_get_within (children l.entries n) j c at)) at
  when_all k le false w = w

  pub follow_all : (new : List ℕ) (k : ℕ) (b : Bool) → length (children l.entries n) ≤ k → Followed l x n old new k b
      → MatchBool b (AllReached l x n) (AllReached l x n → ⊥) × ((f : ℕ → ℕ) → Tallies old f → Tallies new (λ y. f y + count y (children l.entries n)))
  follow_all new k b le w = (
    when_all k le b w.1,
    λ f t. tallied_as new (λ y. f y + count y (take k (children l.entries n))) (λ y. f y + count y (children l.entries n)) (λ y. ap (λ ks. f y + count y ks) (take_all k (children l.entries n) le)) (w.0 f t),
  )
