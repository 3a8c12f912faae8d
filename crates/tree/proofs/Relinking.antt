-- One changed link changes one place of the denoted tree.
use Rattle.std.proofs.Common.{◌≡◌, ℕ, ◌+◌, ◌-◌, ◌<◌, ◌≤◌, true, cond, ltb, ◌⊎◌, List, [], ◌∷◌, ◌++◌, length, get_or, set, Some, None, Option, sym, refl, ap, ◌∙◌, subst, inl, inr, arith}
use Rattle.std.specs.List.{slice_get}
use Rattle.std.specs.Option.{option_map}
use Rattle.std.proofs.lemmas.Bool.{cases_Bool, cases_lt, lt-ltb, le-ltb, cond-true, cond-false}
use Rattle.tree.specs.declared.node.Node.{Node}
use Rattle.tree.specs.Tree.{Own, Tree, Trees, tree, label, labels, uses, uses_all, Distinct, children_of, Denotes, at_place, replace}
use Rattle.tree.specs.Heap.{Held, links, list_of, own, children, inside, read, look, with_link, linked, linked_at, relinked, grown}
use Rattle.tree.specs.Laws.{count, OneLinkOnePlace}
use Rattle.tree.proofs.Counting.{same_self}
use Rattle.tree.proofs.Cuts.{nth_low, nth_set_same, nth_set_other, cut_kept}
use Rattle.tree.proofs.Denoting.{used, one_parent}
use Rattle.tree.proofs.Growing.{stored, look_more, grows}
use Rattle.tree.proofs.Places.{uses_place, uses_among, replace_distinct, place_last, denotes_place, nth_labels, relink}
use Rattle.tree.proofs.Records.{alike_with, read_inside, read_outside, length_children, entry_child, inside_with, children_with, inside_set, children_set}

-- ---- the two kinds of links

module _ (h : Held) (q : ℕ) (n : Node) (i m : ℕ) where
  abbrev rest : ℕ
  rest = i - length (links n)

  abbrev slot : ℕ
  slot = (list_of n).start + rest

  abbrev by_word : Held
  by_word = record { nodes = set h.nodes q (with_link n i m); entries = h.entries; text = h.text }

  abbrev by_entry : Held
  by_entry = record { nodes = h.nodes; entries = set h.entries slot m; text = h.text }

  linked_word : i < length (links n) → linked h q n i m ≡ by_word
  linked_word lt = cond-true (ltb i (length (links n))) by_word (cond (ltb rest (list_of n).len) by_entry h) (lt-ltb i (length (links n)) lt)

  linked_other : length (links n) ≤ i → linked h q n i m ≡ cond (ltb rest (list_of n).len) by_entry h
  linked_other le = cond-false (ltb i (length (links n))) by_word (cond (ltb rest (list_of n).len) by_entry h) (le-ltb i (length (links n)) le)

  linked_entry : length (links n) ≤ i → rest < (list_of n).len → linked h q n i m ≡ by_entry
  linked_entry le lt = linked_other le ∙ cond-true (ltb rest (list_of n).len) by_entry h (lt-ltb rest (list_of n).len lt)

  linked_not : length (links n) ≤ i → (list_of n).len ≤ rest → linked h q n i m ≡ h
  linked_not le far = linked_other le ∙ cond-false (ltb rest (list_of n).len) by_entry h (le-ltb rest (list_of n).len far)

  -- The node whose link it is has the new child.
  changed : slice_get h.nodes q ≡ Some n → inside h.entries h.text n ≡ true → i < length (children h.entries n)
      → look (linked h q n i m) q ≡ Some (own h.text n, set (children h.entries n) i m)
  changed e ins low =
      elim (cases_lt i (length (links n))) [
        | inl lt ↦
            ap (λ k. look k q) (linked_word lt)
            ∙ ap (read h.entries h.text) (nth_set_same h.nodes q (with_link n i m) (nth_low h.nodes q n e))
            ∙ read_inside h.entries h.text (with_link n i m) (inside_with h.entries h.text n i m ∙ ins)
            ∙ ap (λ o. Some (o, children h.entries (with_link n i m))) ((alike_with n i m).2 h.text)
            ∙ ap (λ ks. Some (own h.text n, ks)) (children_with h.entries n i m lt)
        | inr le ↦
            let lt : rest < (list_of n).len = omega (arith, length_children h.entries h.text n ins) in
            ap (λ k. look k q) (linked_entry le lt)
            ∙ ap (read (set h.entries slot m) h.text) e
            ∙ read_inside (set h.entries slot m) h.text n (inside_set h.entries h.text n slot m ∙ ins)
            ∙ ap (λ ks. Some (own h.text n, ks)) (children_set h.entries n i m le lt)
      ]

-- A changed entry that is no child of a node leaves the node as it was.
read_kept : (es bytes : List ℕ) (at m : ℕ) (r : Option Node) → (1 ≤ count (get_or es at 0) (children_of (read es bytes r)) → ⊥) → read (set es at m) bytes r ≡ read es bytes r
read_kept es bytes at m None apart = refl
read_kept es bytes at m (Some n) apart =
    elim (cases_Bool (inside es bytes n)) [
      | inr f ↦ read_outside (set es at m) bytes n (inside_set es bytes n at m ∙ f) ∙ sym (read_outside es bytes n f)
      | inl t ↦
          let past : (at < (list_of n).start) ⊎ ((list_of n).start + (list_of n).len ≤ at) → read (set es at m) bytes (Some n) ≡ read es bytes (Some n) =
          λ side. read_inside (set es at m) bytes n (inside_set es bytes n at m ∙ t)
          ∙ ap (λ ks. Some (own bytes n, links n ++ ks)) (cut_kept es (list_of n).start (list_of n).len at m side)
          ∙ sym (read_inside es bytes n t) in
          elim (cases_lt at (list_of n).start) [
            | inl lt ↦ past (inl lt)
            | inr ge ↦ elim (cases_lt at ((list_of n).start + (list_of n).len)) [
              | inr far ↦ past (inr far)
              | inl lt ↦
                  let f : (list_of n).start + (at - (list_of n).start) ≡ at = omega arith in
                  let one = entry_child es bytes n (at - (list_of n).start) t (omega arith) in
                  absurd (apart (subst (λ r. 1 ≤ count (get_or es at 0) (children_of r)) (sym (read_inside es bytes n t)) (subst (λ k. 1 ≤ count (get_or es k 0) (children es n)) f one)))
            ]
          ]
    ]

-- Another node, which has no child in common with the one whose link it is, is as it was.
kept : (h : Held) (q : ℕ) (n : Node) (i m x : ℕ) → inside h.entries h.text n ≡ true → (x ≡ q → ⊥)
    → ((k : ℕ) → 1 ≤ count k (children_of (look h x)) → 1 ≤ count k (children h.entries n) → ⊥) → look (linked h q n i m) x ≡ look h x
kept h q n i m x ins ne apart =
    elim (cases_lt i (length (links n))) [
      | inl lt ↦ ap (λ k. look k x) (linked_word h q n i m lt) ∙ ap (read h.entries h.text) (nth_set_other h.nodes q x (with_link n i m) ne)
      | inr le ↦ elim (cases_lt (i - length (links n)) (list_of n).len) [
        | inl lt ↦
            ap (λ k. look k x) (linked_entry h q n i m le lt)
            ∙ read_kept h.entries h.text (slot h q n i m) m (slice_get h.nodes x)
            (λ one. apart (get_or h.entries (slot h q n i m) 0) one (entry_child h.entries h.text n (i - length (links n)) ins lt))
        | inr far ↦ ap (λ k. look k x) (linked_not h q n i m le far)
      ]
    ]

-- ---- a number's link

pub look_changed : (h : Held) (q i m : ℕ) (o : Own) (ks : List ℕ) → look h q ≡ Some (o, ks) → i < length ks → look (relinked h q i m) q ≡ Some (o, set ks i m)
look_changed h q i m o ks e lt =
    let r = stored h q o ks e in
    ap (λ s. look (linked_at h q s i m) q) r.1
    ∙ changed h q r.0 i m r.1 r.2 (omega (arith, ap length r.4))
    ∙ ap (λ o'. Some (o', set (children h.entries r.0) i m)) r.3
    ∙ ap (λ ks'. Some (o, set ks' i m)) r.4

pub look_kept : (h : Held) (q i m x : ℕ) (o : Own) (ks : List ℕ) → look h q ≡ Some (o, ks) → (x ≡ q → ⊥)
    → ((k : ℕ) → 1 ≤ count k (children_of (look h x)) → 1 ≤ count k ks → ⊥) → look (relinked h q i m) x ≡ look h x
look_kept h q i m x o ks e ne apart =
    let r = stored h q o ks e in
    ap (λ s. look (linked_at h q s i m) x) r.1
    ∙ kept h q r.0 i m x r.2 ne (λ k a b. apart k a (subst (λ ls. 1 ≤ count k ls) r.4 b))

-- ---- a link of a denoted tree

module _ (h : Held) (t : Tree) (p : List ℕ) (q : ℕ) (o : Own) (ts : Trees) (i m : ℕ) (e : at_place t p ≡ Some (tree q o ts)) (d : Denotes (look h) t) (di : Distinct t) where
  at_q : look h q ≡ Some (o, labels ts)
  at_q = (denotes_place (look h) t p (tree q o ts) e d).0

  -- The tree's other nodes are as they were.
  pub others_kept : (x : ℕ) → (x ≡ q → ⊥) → 1 ≤ uses x t → look (relinked h q i m) x ≡ look h x
  others_kept x ne u =
      look_kept h q i m x o (labels ts) at_q ne
      (λ k a b. one_parent (look h) t d di k x q ne u (omega (arith, same_self q, uses_place q t p (tree q o ts) e)) a (subst (λ r. 1 ≤ count k (children_of r)) (sym at_q) b))

  pub relink_denotes : i < length (labels ts) → (u : Tree) → label u ≡ m → Denotes (look (relinked h q i m)) u → Denotes (look (relinked h q i m)) (replace t (p ++ i ∷ []) u)
  relink_denotes low u lu new =
      relink (look h) (look (relinked h q i m)) t p q o ts i u e d di
      (look_changed h q i m o (labels ts) at_q low ∙ ap (λ l. Some (o, set (labels ts) i l)) (sym lu))
      others_kept new

-- The stores grow, and then the link is changed.
pub one_place : OneLinkOnePlace
one_place h extra t p q o ts i s u d di e at_i new du old =
    let low : i < length (labels ts) = nth_low (labels ts) i (label s) (nth_labels ts i ∙ ap (option_map label) at_i) in
    let below : (x : ℕ) → 1 ≤ uses x s → look (relinked (grown h extra) q i (label u)) x ≡ look h x =
    λ x one.
    let par : uses x (tree q o ts) ≤ uses x t = uses_place x t p (tree q o ts) e in
    let kid : uses x s ≤ uses_all x ts = uses_among x ts i [] s at_i in
    let ne : x ≡ q → ⊥ = λ f. omega (arith, di x, same_self x, ap (λ y. uses x (tree y o ts)) f) in
    others_kept (grown h extra) t p q o ts i (label u) e (grows h extra t d) di x ne (omega arith)
    ∙ look_more h extra x (used (look h) x t d (omega arith)) in (
      relink_denotes (grown h extra) t p q o ts i (label u) e (grows h extra t d) di low u refl new,
      replace_distinct t (p ++ i ∷ []) s u (place_last t p i q o ts e ∙ at_i) di du old,
      below,
    )
