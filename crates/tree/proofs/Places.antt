-- Places in a tree, and the tree with another one in a place.
use Rattle.std.proofs.Common.{◌≡◌, ℕ, zero, suc, ◌+◌, ◌<◌, ◌≤◌, List, [], ◌∷◌, ◌++◌, length, take, set, Some, None, Option, sym, refl, ap, ◌∙◌, subst, inl, inr, arith}
use Rattle.std.specs.List.{slice_get}
use Rattle.std.specs.Option.{option_map}
use Rattle.std.proofs.lemmas.Bool.{cases_lt}
use Rattle.tree.specs.Tree.{Own, Tree, Trees, tree, none, more, label, labels, same, uses, uses_all, Distinct, Look, children_of, Denotes, DenoteAll, at_place, among, replace, replace_among}
use Rattle.tree.proofs.Counting.{same_self}
use Rattle.tree.proofs.Denoting.{frame, frames}

-- ---- how often a number is used

mutual
  pub uses_place : (x : ℕ) (t : Tree) (p : List ℕ) (s : Tree) → at_place t p ≡ Some s → uses x s ≤ uses x t
  uses_place x (tree l o ts) [] s e = let f : tree l o ts ≡ s = cc in omega (arith, ap (uses x) f)
  uses_place x (tree l o ts) (i ∷ p) s e = omega (arith, uses_among x ts i p s e)

  pub uses_among : (x : ℕ) (ts : Trees) (i : ℕ) (p : List ℕ) (s : Tree) → among ts i p ≡ Some s → uses x s ≤ uses_all x ts
  uses_among x none i p s e = absurd (let z : ◌≡◌ {A = ℕ} 0 1 = cc in omega arith)
  uses_among x (more t ts) zero p s e = omega (arith, uses_place x t p s e)
  uses_among x (more t ts) (suc i) p s e = omega (arith, uses_among x ts i p s e)

mutual
  pub uses_replace : (x : ℕ) (t : Tree) (p : List ℕ) (s u : Tree) → at_place t p ≡ Some s → uses x (replace t p u) + uses x s ≡ uses x t + uses x u
  uses_replace x (tree l o ts) [] s u e = let f : tree l o ts ≡ s = cc in omega (arith, ap (uses x) f)
  uses_replace x (tree l o ts) (i ∷ p) s u e = omega (arith, uses_replace_among x ts i p s u e)

  pub uses_replace_among : (x : ℕ) (ts : Trees) (i : ℕ) (p : List ℕ) (s u : Tree) → among ts i p ≡ Some s → uses_all x (replace_among ts i p u) + uses x s ≡ uses_all x ts + uses x u
  uses_replace_among x none i p s u e = absurd (let z : ◌≡◌ {A = ℕ} 0 1 = cc in omega arith)
  uses_replace_among x (more t ts) zero p s u e = omega (arith, uses_replace x t p s u e)
  uses_replace_among x (more t ts) (suc i) p s u e = omega (arith, uses_replace_among x ts i p s u e)

-- The numbers stay distinct where the new tree's are new or were the old one's.
pub replace_distinct : (t : Tree) (p : List ℕ) (s u : Tree) → at_place t p ≡ Some s → Distinct t → Distinct u → ((x : ℕ) → 1 ≤ uses x t → uses x u ≤ uses x s) → Distinct (replace t p u)
replace_distinct t p s u e dt du old x =
    elim (cases_lt 0 (uses x t)) [
      | inl one ↦ omega (arith, uses_replace x t p s u e, dt x, old x one)
      | inr out ↦ omega (arith, uses_replace x t p s u e, du x)
    ]

-- ---- a place below another

mutual
  pub place_last : (t : Tree) (p : List ℕ) (i : ℕ) (l : ℕ) (o : Own) (ts : Trees) → at_place t p ≡ Some (tree l o ts) → at_place t (p ++ i ∷ []) ≡ among ts i []
  place_last (tree l' o' ts') [] i l o ts e = let f : ts' ≡ ts = cc in ap (λ us. among us i []) f
  place_last (tree l' o' ts') (j ∷ p) i l o ts e = among_last ts' j p i l o ts e

  among_last : (us : Trees) (j : ℕ) (p : List ℕ) (i : ℕ) (l : ℕ) (o : Own) (ts : Trees) → among us j p ≡ Some (tree l o ts) → among us j (p ++ i ∷ []) ≡ among ts i []
  among_last none j p i l o ts e = absurd (let z : ◌≡◌ {A = ℕ} 0 1 = cc in omega arith)
  among_last (more t us) zero p i l o ts e = place_last t p i l o ts e
  among_last (more t us) (suc j) p i l o ts e = among_last us j p i l o ts e

mutual
  pub replace_last : (t : Tree) (p : List ℕ) (i : ℕ) (l : ℕ) (o : Own) (ts : Trees) (u : Tree) → at_place t p ≡ Some (tree l o ts) → replace t (p ++ i ∷ []) u ≡ replace t p (tree l o (replace_among ts i [] u))
  replace_last (tree l' o' ts') [] i l o ts u e = let f : tree l' o' ts' ≡ tree l o ts = cc in ap (λ v. replace v (i ∷ []) u) f
  replace_last (tree l' o' ts') (j ∷ p) i l o ts u e = ap (λ us. tree l' o' us) (replace_among_last ts' j p i l o ts u e)

  replace_among_last : (us : Trees) (j : ℕ) (p : List ℕ) (i : ℕ) (l : ℕ) (o : Own) (ts : Trees) (u : Tree) → among us j p ≡ Some (tree l o ts) → replace_among us j (p ++ i ∷ []) u ≡ replace_among us j p (tree l o (replace_among ts i [] u))
  replace_among_last none j p i l o ts u e = refl
  replace_among_last (more t us) zero p i l o ts u e = ap (λ v. more v us) (replace_last t p i l o ts u e)
  replace_among_last (more t us) (suc j) p i l o ts u e = ap (λ vs. more t vs) (replace_among_last us j p i l o ts u e)

-- ---- what stands where after a replacement

-- The nodes above a place keep their numbers.
mutual
  pub above : (t : Tree) (p : List ℕ) (u : Tree) (d : ℕ) → d < length p → option_map label (at_place (replace t p u) (take d p)) ≡ option_map label (at_place t (take d p))
  above (tree l o ts) [] u d lt = absurd (omega arith)
  above (tree l o ts) (i ∷ p) u zero lt = refl
  above (tree l o ts) (i ∷ p) u (suc d) lt = above_among ts i p u d (omega arith)

  above_among : (ts : Trees) (i : ℕ) (p : List ℕ) (u : Tree) (d : ℕ) → d < length p → option_map label (among (replace_among ts i p u) i (take d p)) ≡ option_map label (among ts i (take d p))
  above_among none i p u d lt = refl
  above_among (more t ts) zero p u d lt = above t p u d lt
  above_among (more t ts) (suc i) p u d lt = above_among ts i p u d lt

pub place_top : (u : Tree) → at_place u [] ≡ Some u
place_top (tree l o ts) = refl

-- The new tree stands in the place.
mutual
  pub place_replace : (t : Tree) (p : List ℕ) (s u : Tree) → at_place t p ≡ Some s → at_place (replace t p u) p ≡ Some u
  place_replace (tree l o ts) [] s u e = place_top u
  place_replace (tree l o ts) (i ∷ p) s u e = among_replace ts i p s u e

  among_replace : (ts : Trees) (i : ℕ) (p : List ℕ) (s u : Tree) → among ts i p ≡ Some s → among (replace_among ts i p u) i p ≡ Some u
  among_replace none i p s u e = absurd (let z : ◌≡◌ {A = ℕ} 0 1 = cc in omega arith)
  among_replace (more t ts) zero p s u e = place_replace t p s u e
  among_replace (more t ts) (suc i) p s u e = among_replace ts i p s u e

mutual
  pub label_replace : (t : Tree) (p : List ℕ) (s u : Tree) → at_place t p ≡ Some s → label u ≡ label s → label (replace t p u) ≡ label t
  label_replace (tree l o ts) [] s u e n = let f : tree l o ts ≡ s = cc in n ∙ ap label (sym f)
  label_replace (tree l o ts) (i ∷ p) s u e n = refl

  labels_replace : (ts : Trees) (i : ℕ) (p : List ℕ) (s u : Tree) → among ts i p ≡ Some s → label u ≡ label s → labels (replace_among ts i p u) ≡ labels ts
  labels_replace none i p s u e n = refl
  labels_replace (more t ts) zero p s u e n = ap (λ l. l ∷ labels ts) (label_replace t p s u e n)
  labels_replace (more t ts) (suc i) p s u e n = ap (λ ls. label t ∷ ls) (labels_replace ts i p s u e n)

pub labels_set : (ts : Trees) (i : ℕ) (u : Tree) → labels (replace_among ts i [] u) ≡ set (labels ts) i (label u)
labels_set none i u = refl
labels_set (more (tree l o us) ts) zero u = refl
labels_set (more t ts) (suc i) u = ap (λ ls. label t ∷ ls) (labels_set ts i u)

-- ---- what is denoted

mutual
  pub denotes_place : (h : Look) (t : Tree) (p : List ℕ) (s : Tree) → at_place t p ≡ Some s → Denotes h t → Denotes h s
  denotes_place h (tree l o ts) [] s e d = let f : tree l o ts ≡ s = cc in subst (Denotes h) f d
  denotes_place h (tree l o ts) (i ∷ p) s e d = denotes_among h ts i p s e d.1

  pub denotes_among : (h : Look) (ts : Trees) (i : ℕ) (p : List ℕ) (s : Tree) → among ts i p ≡ Some s → DenoteAll h ts → Denotes h s
  denotes_among h none i p s e d = absurd (let z : ◌≡◌ {A = ℕ} 0 1 = cc in omega arith)
  denotes_among h (more t ts) zero p s e d = denotes_place h t p s e d.0
  denotes_among h (more t ts) (suc i) p s e d = denotes_among h ts i p s e d.1

pub nth_labels : (ts : Trees) (k : ℕ) → slice_get (labels ts) k ≡ option_map label (among ts k [])
nth_labels none k = refl
nth_labels (more (tree l o us) ts) zero = refl
nth_labels (more t ts) (suc k) = nth_labels ts k

pub labelled : (o : Option Tree) (n : ℕ) → option_map label o ≡ Some n → (w : Own) × (ts : Trees) × (o ≡ Some (tree n w ts))
labelled None n e = absurd (let z : ◌≡◌ {A = ℕ} 0 1 = cc in omega arith)
labelled (Some (tree l w ts)) n e = let f : l ≡ n = cc in (w, ts, ap (λ x. Some (tree x w ts)) f)

-- The children of the node at a place are those at the places below it.
pub child_is : (h : Look) (t : Tree) (p : List ℕ) (n k : ℕ) → Denotes h t → option_map label (at_place t p) ≡ Some n → slice_get (children_of (h n)) k ≡ option_map label (at_place t (p ++ k ∷ []))
child_is h t p n k d e =
    let f = labelled (at_place t p) n e in
    ap (λ r. slice_get (children_of r) k) (denotes_place h t p (tree n f.0 f.1) f.2 d).0 ∙ nth_labels f.1 k ∙ ap (option_map label) (sym (place_last t p k n f.0 f.1 f.2))

-- The tree with u in the place of s, both of one number, is denoted where u is and all outside s is stored as it was.
mutual
  pub swapped : (h k : Look) (t : Tree) (p : List ℕ) (s u : Tree) → at_place t p ≡ Some s → label u ≡ label s → Denotes h t → ((x : ℕ) → uses x s < uses x t → k x ≡ h x) → Denotes k u → Denotes k (replace t p u)
  swapped h k (tree l o ts) [] s u e n d out new = new
  swapped h k (tree l o ts) (i ∷ p) s u e n d out new = (
    out l (omega (arith, same_self l, uses_among l ts i p s e)) ∙ d.0 ∙ ap (λ ls. Some (o, ls)) (sym (labels_replace ts i p s u e n)),
    swapped_among h k ts i p s u e n d.1 (λ x lt. out x (omega arith)) new,
  )

  swapped_among : (h k : Look) (ts : Trees) (i : ℕ) (p : List ℕ) (s u : Tree) → among ts i p ≡ Some s → label u ≡ label s → DenoteAll h ts → ((x : ℕ) → uses x s < uses_all x ts → k x ≡ h x) → Denotes k u → DenoteAll k (replace_among ts i p u)
  swapped_among h k none i p s u e n d out new = tt
  swapped_among h k (more t ts) zero p s u e n d out new =
      (swapped h k t p s u e n d.0 (λ x lt. out x (omega arith)) new, frames h k ts d.1 (λ x one. out x (omega (arith, uses_place x t p s e))))
  swapped_among h k (more t ts) (suc i) p s u e n d out new =
      (frame h k t d.0 (λ x one. out x (omega (arith, uses_among x ts i p s e))), swapped_among h k ts i p s u e n d.1 (λ x lt. out x (omega arith)) new)

child_swapped : (h k : Look) (ts : Trees) (i : ℕ) (u : Tree) → DenoteAll h ts → ((x : ℕ) → 1 ≤ uses_all x ts → k x ≡ h x) → Denotes k u → DenoteAll k (replace_among ts i [] u)
child_swapped h k none i u d e new = tt
child_swapped h k (more (tree l o us) ts) zero u d e new = (new, frames h k ts d.1 (λ x one. e x (omega arith)))
child_swapped h k (more t ts) (suc i) u d e new = (frame h k t d.0 (λ x one. e x (omega arith)), child_swapped h k ts i u d.1 (λ x one. e x (omega arith)) new)

-- One link changed: the tree with u at that link is denoted.
pub relink : (h k : Look) (t : Tree) (p : List ℕ) (q : ℕ) (o : Own) (ts : Trees) (i : ℕ) (u : Tree) → at_place t p ≡ Some (tree q o ts) → Denotes h t → Distinct t
    → k q ≡ Some (o, set (labels ts) i (label u)) → ((x : ℕ) → (x ≡ q → ⊥) → 1 ≤ uses x t → k x ≡ h x) → Denotes k u → Denotes k (replace t (p ++ i ∷ []) u)
relink h k t p q o ts i u e d di at kept new =
    let par : Tree = tree q o ts in
    let whole : Denotes h par = denotes_place h t p par e d in
    let apart : (x : ℕ) → 1 ≤ uses_all x ts → x ≡ q → ⊥ =
    λ x one eq. omega (arith, di x, uses_place x t p par e, same_self x, ap (same x) eq) in
    let outside : (x : ℕ) → uses x par < uses x t → x ≡ q → ⊥ =
    λ x lt eq. omega (arith, di x, same_self x, ap (same x) eq) in
    let fresh : Denotes k (tree q o (replace_among ts i [] u)) = (
      at ∙ ap (λ ls. Some (o, ls)) (sym (labels_set ts i u)),
      child_swapped h k ts i u whole.1 (λ x one. kept x (apart x one) (omega (arith, uses_place x t p par e))) new,
    ) in
    subst (Denotes k) (sym (replace_last t p i q o ts u e))
    (swapped h k t p par (tree q o (replace_among ts i [] u)) e refl d (λ x lt. kept x (outside x lt) (omega arith)) fresh)
