-- What it takes that a number denotes a tree, and what follows.
use Rattle.std.proofs.Common.{◌≡◌, ℕ, ◌+◌, ◌≤◌, true, List, is_some, Some, None, Option, sym, refl, ap, ◌∙◌, inl, inr, arith}
use Rattle.std.proofs.lemmas.Bool.{cases_eq, cases_lt}
use Rattle.tree.specs.Tree.{Own, Tree, Trees, tree, none, more, label, labels, same, uses, uses_all, Distinct, Look, children_of, Denotes, DenoteAll}
use Rattle.tree.specs.Laws.{OneTree, count}
use Rattle.tree.proofs.Counting.{same_self, same_other, weigh, weigh_all, two}

pub some_same : (o o' : Own) (ks ks' : List ℕ) → ◌≡◌ {A = Option (Own × List ℕ)} (Some (o, ks)) (Some (o', ks')) → (o ≡ o') × (ks ≡ ks')
some_same o o' ks ks' e = let f : ◌≡◌ {A = Own × List ℕ} (o, ks) (o', ks') = cc in (ap (λ z. z.0) f, ap (λ z. z.1) f)

pub filled : (h : Look) (x : ℕ) → is_some (h x) ≡ true → (o : Own) × (ks : List ℕ) × (h x ≡ Some (o, ks))
filled h x s = go (h x) refl s
  where
    go : (r : Option (Own × List ℕ)) → h x ≡ r → is_some r ≡ true → (o : Own) × (ks : List ℕ) × (h x ≡ Some (o, ks))
    go None e f = absurd (let z : ◌≡◌ {A = ℕ} 0 1 = cc in omega arith)
    go (Some r) e f = (r.0, r.1, e)

-- A number denotes one tree at most.
mutual
  pub same_tree : OneTree
  same_tree h (tree l o ts) (tree l' o' ts') a b e =
      let r = some_same o o' (labels ts) (labels ts') (sym a.0 ∙ ap h e ∙ b.0) in
      let f : ts ≡ ts' = same_trees h ts ts' a.1 b.1 r.1 in
      let g : o ≡ o' = r.0 in
      cc

  same_trees : (h : Look) (ts ss : Trees) → DenoteAll h ts → DenoteAll h ss → labels ts ≡ labels ss → ts ≡ ss
  same_trees h none none a b e = refl
  same_trees h none (more s ss) a b e = absurd (let z : ◌≡◌ {A = ℕ} 0 1 = cc in omega arith)
  same_trees h (more t ts) none a b e = absurd (let z : ◌≡◌ {A = ℕ} 0 1 = cc in omega arith)
  same_trees h (more t ts) (more s ss) a b e =
      let f : label t ≡ label s = cc in
      let g : labels ts ≡ labels ss = cc in
      let t≡s = same_tree h t s a.0 b.0 f in
      let ts≡ss = same_trees h ts ss a.1 b.1 g in
      cc

-- A tree is still denoted where the same is stored at its numbers.
mutual
  pub frame : (h k : Look) (t : Tree) → Denotes h t → ((x : ℕ) → 1 ≤ uses x t → k x ≡ h x) → Denotes k t
  frame h k (tree l o ts) d e = (e l (omega (arith, same_self l)) ∙ d.0, frames h k ts d.1 (λ x u. e x (omega arith)))

  pub frames : (h k : Look) (ts : Trees) → DenoteAll h ts → ((x : ℕ) → 1 ≤ uses_all x ts → k x ≡ h x) → DenoteAll k ts
  frames h k none d e = tt
  frames h k (more t ts) d e = (frame h k t d.0 (λ x u. e x (omega arith)), frames h k ts d.1 (λ x u. e x (omega arith)))

-- Something is stored at each of its numbers.
mutual
  pub used : (h : Look) (x : ℕ) (t : Tree) → Denotes h t → 1 ≤ uses x t → is_some (h x) ≡ true
  used h x (tree l o ts) d u = elim (cases_eq x l) [ inl e ↦ ap (λ y. is_some (h y)) e ∙ ap is_some d.0 | inr n ↦ useds h x ts d.1 (omega (arith, same_other x l n)) ]

  useds : (h : Look) (x : ℕ) (ts : Trees) → DenoteAll h ts → 1 ≤ uses_all x ts → is_some (h x) ≡ true
  useds h x none d u = absurd (omega arith)
  useds h x (more t ts) d u = elim (cases_lt 0 (uses x t)) [ inl a ↦ used h x t d.0 a | inr b ↦ useds h x ts d.1 (omega arith) ]

-- A number is used as the topmost, and as often as the nodes link to it.
mutual
  pub weigh_is : (h : Look) (k : ℕ) (t : Tree) → Denotes h t → same k (label t) + weigh (λ x. count k (children_of (h x))) t ≡ uses k t
  weigh_is h k (tree l o ts) d = omega (arith, ap (λ r. count k (children_of r)) d.0, weighs_is h k ts d.1)

  weighs_is : (h : Look) (k : ℕ) (ts : Trees) → DenoteAll h ts → count k (labels ts) + weigh_all (λ x. count k (children_of (h x))) ts ≡ uses_all k ts
  weighs_is h k none d = refl
  weighs_is h k (more t ts) d = omega (arith, weigh_is h k t d.0, weighs_is h k ts d.1)

-- Two nodes of a tree of distinct numbers have no child in common.
pub one_parent : (h : Look) (t : Tree) → Denotes h t → Distinct t → (k x y : ℕ) → (x ≡ y → ⊥) → 1 ≤ uses x t → 1 ≤ uses y t → 1 ≤ count k (children_of (h x)) → 1 ≤ count k (children_of (h y)) → ⊥
one_parent h t d di k x y ne u v a b = omega (arith, two (λ z. count k (children_of (h z))) x y t ne u v, weigh_is h k t d, di k)
