-- Lower links, one to each number but the last, make one tree of all the numbers.
use Rattle.std.proofs.Common.{◌≡◌, ℕ, zero, suc, ◌+◌, ◌*◌, ◌<◌, ◌≤◌, List, [], ◌∷◌, Some, sym, refl, ap, ◌∙◌, subst, inl, inr, one-mul, mul-zero, arith}
use Rattle.std.proofs.lemmas.Bool.{cases_eq, cases_lt}
use Rattle.tree.specs.Tree.{Tree, Trees, tree, none, more, label, labels, same, uses, uses_all, Look, children_of, Denotes, DenoteAll}
use Rattle.tree.specs.Laws.{count, LinkedOnce, LowerLinksMakeOneTree}
use Rattle.tree.proofs.Counting.{same_self, same_other, total_same, total_zero, weigh_total}
use Rattle.tree.proofs.Denoting.{filled, weigh_is}

-- ---- the tree

gathered : (h : Look) (f : ℕ) → ((x : ℕ) → x < f → (t : Tree) × (label t ≡ x) × Denotes h t) → (ks : List ℕ) → ((k : ℕ) → 1 ≤ count k ks → k < f) → (ts : Trees) × (labels ts ≡ ks) × DenoteAll h ts
gathered h f build [] low = (none, refl, tt)
gathered h f build (k ∷ ks) low =
    let t = build k (low k (omega (arith, same_self k))) in
    let ts = gathered h f build ks (λ j one. low j (omega arith)) in
    (more t.0 ts.0, ap (λ l. l ∷ labels ts.0) t.1 ∙ ap (λ ls. k ∷ ls) ts.1, (t.2, ts.2))

module _ (h : Look) (n : ℕ) (li : LinkedOnce h n) where
  built : (f : ℕ) → f ≤ suc n → (x : ℕ) → x < f → (t : Tree) × (label t ≡ x) × Denotes h t
  built zero le x lt = absurd (omega arith)
  built (suc f) le x lt =
      let r = filled h x (li.there x (omega arith)) in
      let ts = gathered h f (built f (omega arith)) r.1 (λ k one. omega (arith, li.lower x k (omega arith) (subst (λ z. 1 ≤ count k (children_of z)) (sym r.2) one))) in
      (tree x r.0 ts.0, refl, (r.2 ∙ ap (λ ks. Some (r.0, ks)) (sym ts.1), ts.2))

  -- None of its numbers is above the topmost.
  mutual
    pub bounded : (t : Tree) → Denotes h t → label t ≤ n → (x : ℕ) → 1 ≤ uses x t → x ≤ label t
    bounded (tree l o ts) d le x u =
        elim (cases_eq x l) [
          | inl e ↦ omega arith
          | inr ne ↦ omega (arith, bounded_all ts d.1 l le (λ k one. li.lower l k le (subst (λ z. 1 ≤ count k (children_of z)) (sym d.0) one)) x (omega (arith, same_other x l ne)))
        ]

    bounded_all : (ts : Trees) → DenoteAll h ts → (l : ℕ) → l ≤ n → ((k : ℕ) → 1 ≤ count k (labels ts) → k < l) → (x : ℕ) → 1 ≤ uses_all x ts → x < l
    bounded_all none d l le low x u = absurd (omega arith)
    bounded_all (more t ts) d l le low x u =
        let top : label t < l = low (label t) (omega (arith, same_self (label t))) in
        elim (cases_lt 0 (uses x t)) [
          | inl a ↦ omega (arith, bounded t d.0 (omega arith) x a)
          | inr b ↦ bounded_all ts d.1 l le (λ k one. low k (omega arith)) x (omega arith)
        ]

-- ---- how often each number is used

module _ (h : Look) (n : ℕ) (li : LinkedOnce h n) (t : Tree) (top : label t ≡ n) (d : Denotes h t) where
  within : (x : ℕ) → 1 ≤ uses x t → x < suc n
  within x u = omega (arith, bounded h n li t d (omega arith) x u)

  -- A number is not linked from its own or a lower one.
  unlinked : (k x : ℕ) → x ≤ n → x ≤ k → count k (children_of (h x)) ≡ 0
  unlinked k x lt le = elim (cases_eq (count k (children_of (h x))) 0) [ inl z ↦ z | inr ne ↦ absurd (omega (arith, li.lower x k lt (omega arith))) ]

  -- Where all numbers above k are used once, so is k: its uses are the links to it.
  step : (k : ℕ) → k ≤ n → ((x : ℕ) → k < x → x ≤ n → uses x t ≡ 1) → uses k t ≡ 1
  step k le up =
      let links : ℕ → ℕ = λ x. count k (children_of (h x)) in
      let each : (x : ℕ) → x < suc n → uses x t * links x ≡ links x =
      λ x lt. elim (cases_lt k x) [
        | inl above ↦ ap (λ a. a * links x) (up x above (omega arith)) ∙ one-mul (links x)
        | inr under ↦ let z = unlinked k x (omega arith) under in ap (λ b. uses x t * b) z ∙ mul-zero (uses x t) ∙ sym z
      ] in
      let sum = weigh_total (suc n) links t within ∙ total_same (suc n) (λ x. uses x t * links x) links each in
      elim (cases_eq k n) [
        | inl e ↦
            let z = total_zero (suc n) links (λ x lt. unlinked k x (omega arith) (omega arith)) in
            omega (arith, weigh_is h k t d, sum, z, same_self k, ap (same k) (e ∙ sym top))
        | inr ne ↦ omega (arith, weigh_is h k t d, sum, li.once k (omega arith), same_other k n ne, ap (same k) top)
      ]

  once_from : (j k : ℕ) → n ≤ k + j → k ≤ n → uses k t ≡ 1
  once_from zero k far le = step k le (λ x lt hi. absurd (omega arith))
  once_from (suc j) k far le = step k le (λ x lt hi. once_from j x (omega arith) hi)

  none_above : (x : ℕ) → n < x → uses x t ≡ 0
  none_above x lt = elim (cases_eq (uses x t) 0) [ inl z ↦ z | inr ne ↦ absurd (omega (arith, within x (omega arith))) ]

pub one_tree_of_all : LowerLinksMakeOneTree
one_tree_of_all h n li =
    let b = built h n li (suc n) (omega arith) n (omega arith) in
    (b.0, b.1, b.2, λ k le. once_from h n li b.0 b.1 b.2 n k (omega arith) le, none_above h n li b.0 b.1 b.2)
