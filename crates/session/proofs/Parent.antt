-- The last step of a path: the cursor's parent, and how it takes the cursor's node.
use Rattle.std.proofs.Common.{◌≡◌, ℕ, zero, suc, ◌-◌, ◌<◌, ◌≤◌, List, [], ◌∷◌, ◌++◌, length, take, get_or, Some, None, Option, refl, sym, ap, ◌∙◌, arith}
use Rattle.std.specs.List.{last_or}
use Rattle.std.specs.Option.{option_map}
use Rattle.std.proofs.lemmas.List.{map-append, length-append, length-map, take_more, take_at, get_or_at}
use Rattle.tree.specs.Tree.{Own, Tree, Trees, tree, none, more, label, own_of, Denotes, at_place, among}
use Rattle.tree.specs.Heap.{Held, look}
use Rattle.tree.proofs.Places.{labelled, denotes_place}
use Rattle.rules.specs.Places.{Role}
use Rattle.model.specs.Places.{takes, role_from, role_among, role_at}
use Rattle.model.specs.Model.{Model}
use Rattle.session.specs.declared.step.Step.{Step}
use Rattle.session.specs.Models.{Models, children, numbers}

-- ---- the last of a list

module _ {X : Type 0} where
  last_behind : (o : Option X) (xs : List X) (x : X) → last_or o (xs ++ x ∷ []) ≡ Some x
  last_behind o [] x = refl
  last_behind o (y ∷ ys) x = last_behind (Some y) ys x

  pub last_taken : (xs : List X) (n : ℕ) (d : X) → 0 < n → n ≤ length xs → last_or None (take n xs) ≡ Some (get_or xs (n - 1) d)
  last_taken xs n d pos le =
      ap (λ k. last_or None (take k xs)) (omega arith)
      ∙ ap (last_or None) (take_more xs (n - 1) d (omega arith))
      ∙ last_behind None (take (n - 1) xs) (get_or xs (n - 1) d)

  last_split : (x : X) (xs : List X) (t : X) → last_or (Some x) xs ≡ Some t → (before : List X) × (x ∷ xs ≡ before ++ t ∷ [])
  last_split x [] t e = let f : x ≡ t = cc in ([], ap (λ y. y ∷ []) f)
  last_split x (y ∷ ys) t e = let r = last_split y ys t e in (x ∷ r.0, ap (λ zs. x ∷ zs) r.1)

  pub last_there : (xs : List X) (t : X) → last_or None xs ≡ Some t → (before : List X) × (xs ≡ before ++ t ∷ [])
  last_there [] t e = absurd (let z : ◌≡◌ {A = ℕ} 0 1 = cc in omega arith)
  last_there (x ∷ xs) t e = last_split x xs t e

  later_some : (o : X) (xs : List X) → last_or (Some o) xs ≡ None → ⊥
  later_some o [] e = absurd (let z : ◌≡◌ {A = ℕ} 0 1 = cc in omega arith)
  later_some o (x ∷ xs) e = later_some x xs e

  pub no_last : (xs : List X) → last_or None xs ≡ None → length xs ≡ 0
  no_last [] e = refl
  no_last (x ∷ xs) e = absurd (later_some x xs e)

-- ---- how a child is taken

role_here : (r : Role) (t : Tree) → role_from r t [] ≡ r
role_here r (tree l o ts) = refl

role_child : (r : Role) (ts : Trees) (i : ℕ) → role_among r ts i [] ≡ r
role_child r none i = refl
role_child r (more t ts) zero = role_here r t
role_child r (more t ts) (suc i) = role_child r ts i

mutual
  pub role_last : (r : Role) (t : Tree) (p : List ℕ) (i : ℕ) (l : ℕ) (o : Own) (us : Trees) → at_place t p ≡ Some (tree l o us) → role_from r t (p ++ i ∷ []) ≡ takes o i
  role_last r (tree k w ts) [] i l o us e = let f : w ≡ o = cc in role_child (takes w i) ts i ∙ ap (λ v. takes v i) f
  role_last r (tree k w ts) (j ∷ p) i l o us e = role_last_among (takes w j) ts j p i l o us e

  role_last_among : (r : Role) (ts : Trees) (j : ℕ) (p : List ℕ) (i : ℕ) (l : ℕ) (o : Own) (us : Trees) → among ts j p ≡ Some (tree l o us) → role_among r ts j (p ++ i ∷ []) ≡ takes o i
  role_last_among r none j p i l o us e = absurd (let z : ◌≡◌ {A = ℕ} 0 1 = cc in omega arith)
  role_last_among r (more t ts) zero p i l o us e = role_last r t p i l o us e
  role_last_among r (more t ts) (suc j) p i l o us e = role_last_among r ts j p i l o us e

-- ---- of a session

module _ (h : Held) (root here : ℕ) (trail : List Step) (count : ℕ) (m : Model) (is : Models h root here trail count m) where
  pub parent_there : (t : Step) → last_or None trail ≡ Some t → (p : List ℕ) × (children trail ≡ p ++ t.child ∷ []) × (option_map label (at_place m.whole p) ≡ Some t.node)
  parent_there t e =
      let b = last_there trail t e in
      let kids : children trail ≡ children b.0 ++ t.child ∷ [] = ap children b.1 ∙ map-append (λ s. s.child) b.0 (t ∷ []) in
      let nums : numbers trail ≡ numbers b.0 ++ t.node ∷ [] = ap numbers b.1 ∙ map-append (λ s. s.node) b.0 (t ∷ []) in
      let n : ℕ = length b.0 in (
        children b.0,
        kids,
        ap (λ p. option_map label (at_place m.whole p)) (sym (take_at (children b.0) (t.child ∷ []) n (length-map b.0 (λ s. s.child))))
            ∙ ap (λ p. option_map label (at_place m.whole (take n p))) (sym kids)
            ∙ is.trailed n (omega (arith, ap length b.1, length-append b.0 (t ∷ [])))
            ∙ ap (λ k. Some k) (ap (λ ns. get_or ns n 0) nums ∙ get_or_at (numbers b.0) t.node [] 0 n (length-map b.0 (λ s. s.node))),
      )

  -- The parent's number denotes a tree, whose own part says how the cursor's node is taken.
  pub taken_by : (t : Step) → last_or None trail ≡ Some t → (s : Tree) × (label s ≡ t.node) × Denotes (look h) s × (role_at m.whole m.place ≡ takes (own_of s) t.child)
  taken_by t e =
      let p = parent_there t e in
      let l = labelled (at_place m.whole p.0) t.node p.2 in (
        tree t.node l.0 l.1,
        refl,
        denotes_place (look h) m.whole p.0 (tree t.node l.0 l.1) l.2 is.denoted,
        ap (role_at m.whole) (is.placed ∙ p.1) ∙ role_last Role.ordinary m.whole p.0 t.child t.node l.0 l.1 l.2,
      )

  no_steps : (ts : List Step) → length ts ≡ 0 → children ts ≡ []
  no_steps [] e = refl
  no_steps (t ∷ ts) e = absurd (omega arith)

  pub taken_as_root : last_or None trail ≡ None → role_at m.whole m.place ≡ Role.ordinary
  taken_as_root e = ap (role_at m.whole) (is.placed ∙ no_steps trail (no_last trail e)) ∙ role_here Role.ordinary m.whole
