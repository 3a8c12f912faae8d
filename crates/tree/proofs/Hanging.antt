-- A tree is still denoted when a link to it is made, in place of the link to a subtree that it has not within.
use Rattle.std.proofs.Common.{◌≡◌, ℕ, zero, suc, ◌+◌, ◌≤◌, List, [], Some, ap, inl, inr, arith}
use Rattle.std.proofs.lemmas.Bool.{cases_eq}
use Rattle.tree.specs.Tree.{Own, Tree, Trees, tree, none, more, label, labels, same, uses, uses_all, Distinct, Look, children_of, Denotes, at_place, among}
use Rattle.tree.specs.Heap.{Held, look, relinked, grown}
use Rattle.tree.specs.Laws.{count}
use Rattle.tree.proofs.Counting.{same_self, same_other, one}
use Rattle.tree.proofs.Denoting.{frame, weigh_is}
use Rattle.tree.proofs.Growing.{grows}
use Rattle.tree.proofs.Places.{uses_place, uses_among, denotes_place}
use Rattle.tree.proofs.Relinking.{look_kept}

-- A child of a tree's node is one of the tree's nodes.
child_used : (h : Look) (x k : ℕ) (t : Tree) → Denotes h t → 1 ≤ uses x t → 1 ≤ count k (children_of (h x)) → 1 ≤ uses k t
child_used h x k t d u c = omega (arith, weigh_is h k t d, one (λ y. count k (children_of (h y))) x t u)

same_label : (k : ℕ) (t : Tree) → same k (label t) ≤ uses k t
same_label k (tree l o ts) = omega arith

labels_used : (k : ℕ) (ts : Trees) → count k (labels ts) ≤ uses_all k ts
labels_used k none = omega arith
labels_used k (more t ts) = omega (arith, same_label k t, labels_used k ts)

-- The links to a node's children, beside what one of these has within.
beside : (k : ℕ) (ts : Trees) (i : ℕ) (s : Tree) → among ts i [] ≡ Some s → count k (labels ts) + uses k s ≤ uses_all k ts + same k (label s)
beside k none i s e = absurd (let z : ◌≡◌ {A = ℕ} 0 1 = cc in omega arith)
beside k (more (tree l o us) ts) zero s e = let f : tree l o us ≡ s = cc in omega (arith, labels_used k ts, ap (uses k) f, ap (λ t. same k (label t)) f)
beside k (more t ts) (suc i) s e = omega (arith, same_label k t, beside k ts i s e)

module _ (h extra : Held) (t : Tree) (p : List ℕ) (q : ℕ) (o : Own) (ts : Trees) (i : ℕ) (s u : Tree)
    (d : Denotes (look h) t) (di : Distinct t) (e : at_place t p ≡ Some (tree q o ts)) (at_i : among ts i [] ≡ Some s)
    (du : Denotes (look (grown h extra)) u) (old : (x : ℕ) → 1 ≤ uses x t → uses x u ≤ uses x s) (without : uses (label s) u ≡ 0) where
  -- the parent is no node of the new tree, and no other child of it is
  not_parent : (x : ℕ) → 1 ≤ uses x u → x ≡ q → ⊥
  not_parent x one f =
      let par : uses q (tree q o ts) ≤ uses q t = uses_place q t p (tree q o ts) e in
      omega (arith, ap (λ y. uses y u) f, par, di q, same_self q, uses_among q ts i [] s at_i, old q (omega (arith, par, same_self q)))

  not_sibling : (k : ℕ) → 1 ≤ uses k u → 1 ≤ count k (labels ts) → ⊥
  not_sibling k one c =
      let par : uses k (tree q o ts) ≤ uses k t = uses_place k t p (tree q o ts) e in
      elim (cases_eq k (label s)) [
        | inl f ↦ omega (arith, ap (λ y. uses y u) f, without)
        | inr n ↦ omega (arith, same_other k (label s) n, beside k ts i s at_i, par, di k, labels_used k ts, old k (omega (arith, par, labels_used k ts)))
      ]

  pub hung : Denotes (look (relinked (grown h extra) q i (label u))) u
  hung =
      frame (look (grown h extra)) (look (relinked (grown h extra) q i (label u))) u du
      (λ x one_x.
      look_kept (grown h extra) q i (label u) x o (labels ts) (denotes_place (look (grown h extra)) t p (tree q o ts) e (grows h extra t d)).0
      (not_parent x one_x) (λ k a b. not_sibling k (child_used (look (grown h extra)) x k u du one_x a) b))
