-- Another expression at a place of a stored tree is the same replacement in the expression.
use Rattle.std.proofs.Common.{◌≡◌, ℕ, zero, suc, Bool, true, false, cond, List, [], ◌∷◌, Some, inl, inr, sym, refl, ap, ◌∙◌, subst, arith}
use Rattle.std.specs.Prelude.{bytes_eq}
use Rattle.text.specs.Stored.{stored}
use Rattle.tree.specs.declared.node.FirstChild.{FirstChild}
use Rattle.tree.specs.declared.role.Sort.TheVariants.{IsExpression}
use Rattle.tree.specs.Tree.{Own, Tree, Trees, tree, none, more, own_of, at_place, among, replace, replace_among}
use Rattle.tree.specs.Lawful.{LawfulTree, sort_of}
use Rattle.tree.proofs.Places.{place_top}
use Rattle.meaning.specs.Expression.{Expression, Elements, Arguments, Quasi, Pieces, Children}
use Rattle.meaning.specs.Methods.{concat_name}
use Rattle.meaning.specs.Trees.{tree_of, quasi_tree, element_trees, argument_trees, piece_trees, child_trees}
use Rattle.meaning.specs.Payoffs.{Spelled, SpelledElements, SpelledArguments, SpelledPieces, SpelledChildren}
use Rattle.meaning.specs.Replacing.{Swap, SwapElements, SwapArguments, SwapPieces, SwapChildren}
use Rattle.rules.specs.Places.{Role}
use Rattle.rules.specs.Laws.{Fits}
use Rattle.rules.proofs.Absurd.{none_some}
use Rattle.rules.proofs.Payoffs.{sort_is}
use Rattle.model.specs.Places.{takes, takes_first, role_from, role_among}
use Rattle.model.proofs.Lawful.{stored_alike}

-- ---- roles

-- How a role takes its node: for its value, or as a reference.
abbrev pub taken : Role → FirstChild
taken Role.ordinary = FirstChild.Value
taken Role.concat_object = FirstChild.Value
taken Role.referred = FirstChild.Reference

member_taken : (b : Bool) → taken (cond b Role.concat_object Role.ordinary) ≡ FirstChild.Value
member_taken true = refl
member_taken false = refl

opaque_taken : (m : ℕ) (f : FirstChild) → taken (takes_first (Own.opaque m f)) ≡ f
opaque_taken m FirstChild.Value = refl
opaque_taken m FirstChild.Reference = refl

-- Elements, pieces, and children that are taken for their values are ordinary.
elements_take : (i : ℕ) → takes Own.array i ≡ Role.ordinary
elements_take zero = refl
elements_take (suc i) = refl

pieces_take : (i : ℕ) → takes Own.template i ≡ Role.ordinary
pieces_take zero = refl
pieces_take (suc i) = refl

values_take : (m i : ℕ) → takes (Own.opaque m FirstChild.Value) i ≡ Role.ordinary
values_take m zero = refl
values_take m (suc i) = refl

role_top : (r : Role) (t : Tree) → role_from r t [] ≡ r
role_top r (tree l o ts) = refl

replace_top : (t u : Tree) → replace t [] u ≡ u
replace_top (tree l o ts) u = refl

module _ (old new : Expression) where
  swap_here : (r : Role) → Fits r old new → Swap old new (taken r) old new
  swap_here Role.ordinary f = Swap.here
  swap_here Role.concat_object f = Swap.here
  swap_here Role.referred (inl n) = Swap.here_referred n.0 n.1
  swap_here Role.referred (inr e) = Swap.here_itself e

-- ---- what is no expression

module _ (old : Expression) where
  no_expression : {A : Type 0} (t : Tree) → (sort_of (own_of t) ≡ IsExpression → ⊥) → at_place t [] ≡ Some (tree_of old) → A
  no_expression t n e =
      let f : Some t ≡ Some (tree_of old) = sym (place_top t) ∙ e in
      let g : t ≡ tree_of old = cc in
      absurd (n (ap (λ z. sort_of (own_of z)) g ∙ sort_is old))

  at_hole : {A : Type 0} (l : ℕ) (p : List ℕ) → at_place (tree l Own.hole none) p ≡ Some (tree_of old) → A
  at_hole l [] e = no_expression (tree l Own.hole none) (λ f. let z : ◌≡◌ {A = ℕ} 0 1 = cc in omega arith) e
  at_hole l (i ∷ p) e = none_some e

  at_quasi : {A : Type 0} (q : Quasi) (p : List ℕ) → at_place (quasi_tree q) p ≡ Some (tree_of old) → A
  at_quasi (Quasi.quasi l raw u) [] e = no_expression (quasi_tree (Quasi.quasi l raw u)) (λ f. let z : ◌≡◌ {A = ℕ} 0 1 = cc in omega arith) e
  at_quasi (Quasi.quasi l raw u) (i ∷ p) e = none_some e

  at_spread : {A : Type 0} (l : ℕ) (ts : Trees) → at_place (tree l Own.spread ts) [] ≡ Some (tree_of old) → A
  at_spread l ts e = no_expression (tree l Own.spread ts) (λ f. let z : ◌≡◌ {A = ℕ} 0 1 = cc in omega arith) e

-- ---- a lawful tree's expression replaced by another one that fits

module _ (old new : Expression) (spelled : Spelled old) (lawful : LawfulTree (tree_of old)) (new_spelled : Spelled new) where
  abbrev pub Becomes : FirstChild → Expression → Tree → Type 0
  Becomes b x t = (y : Expression) × (t ≡ tree_of y) × Spelled y × Swap old new b x y

  abbrev ElementsBecome : Elements → Trees → Type 0
  ElementsBecome xs ts = (ys : Elements) × (ts ≡ element_trees ys) × SpelledElements ys × SwapElements old new xs ys

  abbrev ArgumentsBecome : Arguments → Trees → Type 0
  ArgumentsBecome xs ts = (ys : Arguments) × (ts ≡ argument_trees ys) × SpelledArguments ys × SwapArguments old new xs ys

  abbrev PiecesBecome : Pieces → Trees → Type 0
  PiecesBecome xs ts = (ys : Pieces) × (ts ≡ piece_trees ys) × SpelledPieces ys × SwapPieces old new xs ys

  abbrev ChildrenBecome : FirstChild → Children → Trees → Type 0
  ChildrenBecome f xs ts = (ys : Children) × (ts ≡ child_trees ys) × SpelledChildren ys × SwapChildren old new f xs ys

  at_top : (x : Expression) (r : Role) → Spelled x → at_place (tree_of x) [] ≡ Some (tree_of old) → Fits (role_from r (tree_of x) []) old new
      → Becomes (taken r) x (replace (tree_of x) [] (tree_of new))
  at_top x r s e f =
      let g : Some (tree_of x) ≡ Some (tree_of old) = sym (place_top (tree_of x)) ∙ e in
      let h : tree_of x ≡ tree_of old = cc in
      let same = stored_alike (tree_of old) old x (lawful, sort_is old) (spelled, refl) (s, h) in
      (new, replace_top (tree_of x) (tree_of new), new_spelled, subst (λ z. Swap old new (taken r) z new) same (swap_here old new r (subst (λ z. Fits z old new) (role_top r (tree_of x)) f)))

  mutual
    pub swap_at : (x : Expression) (p : List ℕ) (r : Role) → Spelled x → at_place (tree_of x) p ≡ Some (tree_of old) → Fits (role_from r (tree_of x) p) old new
        → Becomes (taken r) x (replace (tree_of x) p (tree_of new))
    swap_at x [] r s e f = at_top x r s e f
    swap_at (Expression.string l u) (i ∷ p) r s e f = none_some e
    swap_at (Expression.number l n) (i ∷ p) r s e f = none_some e
    swap_at (Expression.boolean l b) (i ∷ p) r s e f = none_some e
    swap_at (Expression.null l) (i ∷ p) r s e f = none_some e
    swap_at (Expression.name l u) (i ∷ p) r s e f = none_some e
    swap_at (Expression.array l xs) (i ∷ p) r s e f =
        let d = swap_elements xs i p s e (subst (λ z. Fits (role_among z (element_trees xs) i p) old new) (elements_take i) f) in
        (Expression.array l d.0, ap (λ z. tree l Own.array z) d.1, d.2, Swap.in_array d.3)
    swap_at (Expression.static_member l x k) (zero ∷ p) r s e f =
        let d = swap_at x p (takes_first (Own.static_member (stored k))) s.0 e f in (
          Expression.static_member l d.0 k,
          ap (λ z. tree l (Own.static_member (stored k)) (more z none)) d.1,
          (d.2, s.1),
          Swap.in_static (subst (λ z. Swap old new z x d.0) (member_taken (bytes_eq (stored k) (stored concat_name))) d.3),
        )
    swap_at (Expression.static_member l x k) (suc i ∷ p) r s e f = none_some e
    swap_at (Expression.computed_member l x k) (zero ∷ p) r s e f =
        let d = swap_at x p Role.ordinary s.0 e f in
        (Expression.computed_member l d.0 k, ap (λ z. tree l Own.computed_member (more z (more (tree_of k) none))) d.1, (d.2, s.1), Swap.in_object d.3)
    swap_at (Expression.computed_member l x k) (suc zero ∷ p) r s e f =
        let d = swap_at k p Role.ordinary s.1 e f in
        (Expression.computed_member l x d.0, ap (λ z. tree l Own.computed_member (more (tree_of x) (more z none))) d.1, (s.0, d.2), Swap.in_key d.3)
    swap_at (Expression.computed_member l x k) (suc (suc i) ∷ p) r s e f = none_some e
    swap_at (Expression.call l g xs) (zero ∷ p) r s e f =
        let d = swap_at g p Role.referred s.0 e f in
        (Expression.call l d.0 xs, ap (λ z. tree l Own.call (more z (argument_trees xs))) d.1, (d.2, s.1), Swap.in_callee d.3)
    swap_at (Expression.call l g xs) (suc i ∷ p) r s e f =
        let d = swap_arguments xs i p s.1 e f in
        (Expression.call l g d.0, ap (λ z. tree l Own.call (more (tree_of g) z)) d.1, (s.0, d.2), Swap.in_arguments d.3)
    swap_at (Expression.template l ps) (i ∷ p) r s e f =
        let d = swap_pieces ps i p s e (subst (λ z. Fits (role_among z (piece_trees ps) i p) old new) (pieces_take i) f) in
        (Expression.template l d.0, ap (λ z. tree l Own.template z) d.1, d.2, Swap.in_template d.3)
    swap_at (Expression.unary l o x) (zero ∷ p) r s e f =
        let d = swap_at x p Role.ordinary s e f in
        (Expression.unary l o d.0, ap (λ z. tree l (Own.unary o) (more z none)) d.1, d.2, Swap.in_unary d.3)
    swap_at (Expression.unary l o x) (suc i ∷ p) r s e f = none_some e
    swap_at (Expression.binary l o x y) (zero ∷ p) r s e f =
        let d = swap_at x p Role.ordinary s.0 e f in
        (Expression.binary l o d.0 y, ap (λ z. tree l (Own.binary o) (more z (more (tree_of y) none))) d.1, (d.2, s.1), Swap.in_left d.3)
    swap_at (Expression.binary l o x y) (suc zero ∷ p) r s e f =
        let d = swap_at y p Role.ordinary s.1 e f in
        (Expression.binary l o x d.0, ap (λ z. tree l (Own.binary o) (more (tree_of x) (more z none))) d.1, (s.0, d.2), Swap.in_right d.3)
    swap_at (Expression.binary l o x y) (suc (suc i) ∷ p) r s e f = none_some e
    swap_at (Expression.opaque l g m xs) (i ∷ p) r s e f =
        let d = swap_children m g xs i p s e f in
        (Expression.opaque l g m d.0, ap (λ z. tree l (Own.opaque m g) z) d.1, d.2, Swap.in_opaque d.3)

    swap_elements : (xs : Elements) (i : ℕ) (p : List ℕ) → SpelledElements xs → among (element_trees xs) i p ≡ Some (tree_of old) → Fits (role_among Role.ordinary (element_trees xs) i p) old new
        → ElementsBecome xs (replace_among (element_trees xs) i p (tree_of new))
    swap_elements Elements.no_elements i p s e f = none_some e
    swap_elements (Elements.item x xs) zero p s e f =
        let d = swap_at x p Role.ordinary s.0 e f in
        (Elements.item d.0 xs, ap (λ z. more z (element_trees xs)) d.1, (d.2, s.1), SwapElements.in_item d.3)
    swap_elements (Elements.item x xs) (suc i) p s e f =
        let d = swap_elements xs i p s.1 e f in
        (Elements.item x d.0, ap (λ z. more (tree_of x) z) d.1, (s.0, d.2), SwapElements.past_item d.3)
    swap_elements (Elements.hole l xs) zero p s e f = at_hole old l p e
    swap_elements (Elements.hole l xs) (suc i) p s e f =
        let d = swap_elements xs i p s e f in
        (Elements.hole l d.0, ap (λ z. more (tree l Own.hole none) z) d.1, d.2, SwapElements.past_hole d.3)
    swap_elements (Elements.spread l x xs) zero [] s e f = at_spread old l (more (tree_of x) none) e
    swap_elements (Elements.spread l x xs) zero (zero ∷ p) s e f =
        let d = swap_at x p Role.ordinary s.0 e f in
        (Elements.spread l d.0 xs, ap (λ z. more (tree l Own.spread (more z none)) (element_trees xs)) d.1, (d.2, s.1), SwapElements.in_spread d.3)
    swap_elements (Elements.spread l x xs) zero (suc j ∷ p) s e f = none_some e
    swap_elements (Elements.spread l x xs) (suc i) p s e f =
        let d = swap_elements xs i p s.1 e f in
        (Elements.spread l x d.0, ap (λ z. more (tree l Own.spread (more (tree_of x) none)) z) d.1, (s.0, d.2), SwapElements.past_spread d.3)

    swap_arguments : (xs : Arguments) (i : ℕ) (p : List ℕ) → SpelledArguments xs → among (argument_trees xs) i p ≡ Some (tree_of old)
        → Fits (role_among Role.ordinary (argument_trees xs) i p) old new → ArgumentsBecome xs (replace_among (argument_trees xs) i p (tree_of new))
    swap_arguments Arguments.no_arguments i p s e f = none_some e
    swap_arguments (Arguments.argument x xs) zero p s e f =
        let d = swap_at x p Role.ordinary s.0 e f in
        (Arguments.argument d.0 xs, ap (λ z. more z (argument_trees xs)) d.1, (d.2, s.1), SwapArguments.in_argument d.3)
    swap_arguments (Arguments.argument x xs) (suc i) p s e f =
        let d = swap_arguments xs i p s.1 e f in
        (Arguments.argument x d.0, ap (λ z. more (tree_of x) z) d.1, (s.0, d.2), SwapArguments.past_argument d.3)
    swap_arguments (Arguments.spread_argument l x xs) zero [] s e f = at_spread old l (more (tree_of x) none) e
    swap_arguments (Arguments.spread_argument l x xs) zero (zero ∷ p) s e f =
        let d = swap_at x p Role.ordinary s.0 e f in
        (Arguments.spread_argument l d.0 xs, ap (λ z. more (tree l Own.spread (more z none)) (argument_trees xs)) d.1, (d.2, s.1), SwapArguments.in_spread_argument d.3)
    swap_arguments (Arguments.spread_argument l x xs) zero (suc j ∷ p) s e f = none_some e
    swap_arguments (Arguments.spread_argument l x xs) (suc i) p s e f =
        let d = swap_arguments xs i p s.1 e f in
        (Arguments.spread_argument l x d.0, ap (λ z. more (tree l Own.spread (more (tree_of x) none)) z) d.1, (s.0, d.2), SwapArguments.past_spread_argument d.3)

    swap_pieces : (ps : Pieces) (i : ℕ) (p : List ℕ) → SpelledPieces ps → among (piece_trees ps) i p ≡ Some (tree_of old) → Fits (role_among Role.ordinary (piece_trees ps) i p) old new
        → PiecesBecome ps (replace_among (piece_trees ps) i p (tree_of new))
    swap_pieces (Pieces.last q) zero p s e f = at_quasi old q p e
    swap_pieces (Pieces.last q) (suc i) p s e f = none_some e
    swap_pieces (Pieces.piece q x ps) zero p s e f = at_quasi old q p e
    swap_pieces (Pieces.piece q x ps) (suc zero) p s e f =
        let d = swap_at x p Role.ordinary s.1 e f in
        (Pieces.piece q d.0 ps, ap (λ z. more (quasi_tree q) (more z (piece_trees ps))) d.1, (s.0, d.2, s.2), SwapPieces.in_piece d.3)
    swap_pieces (Pieces.piece q x ps) (suc (suc i)) p s e f =
        let d = swap_pieces ps i p s.2 e f in
        (Pieces.piece q x d.0, ap (λ z. more (quasi_tree q) (more (tree_of x) z)) d.1, (s.0, s.1, d.2), SwapPieces.past_piece d.3)

    swap_children : (m : ℕ) (g : FirstChild) (xs : Children) (i : ℕ) (p : List ℕ) → SpelledChildren xs → among (child_trees xs) i p ≡ Some (tree_of old)
        → Fits (role_among (takes (Own.opaque m g) i) (child_trees xs) i p) old new → ChildrenBecome g xs (replace_among (child_trees xs) i p (tree_of new))
    swap_children m g Children.no_children i p s e f = none_some e
    swap_children m g (Children.child x xs) zero p s e f =
        let d = swap_at x p (takes_first (Own.opaque m g)) s.0 e f in
        (Children.child d.0 xs, ap (λ z. more z (child_trees xs)) d.1, (d.2, s.1), SwapChildren.in_child (subst (λ z. Swap old new z x d.0) (opaque_taken m g) d.3))
    swap_children m g (Children.child x xs) (suc i) p s e f =
        let d = swap_children m FirstChild.Value xs i p s.1 e (subst (λ z. Fits (role_among z (child_trees xs) i p) old new) (sym (values_take m i)) f) in
        (Children.child x d.0, ap (λ z. more (tree_of x) z) d.1, (s.0, d.2), SwapChildren.past_child d.3)
