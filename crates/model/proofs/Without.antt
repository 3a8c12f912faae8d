-- What an expression becomes has not the expression itself within: it would be no smaller.
use Rattle.std.proofs.Common.{◌≡◌, ℕ, zero, suc, ◌+◌, ◌<◌, ◌≤◌, List, [], ◌∷◌, length, Some, inl, inr, refl, sym, ap, arith}
use Rattle.std.proofs.lemmas.Bool.{cases_eq, cases_lt}
use Rattle.tree.specs.Tree.{Own, static_member, computed_member, call, Tree, Trees, tree, none, more, label, labels, uses, uses_all, Look, Denotes, at_place, among}
use Rattle.tree.proofs.Counting.{same_other}
use Rattle.tree.proofs.Denoting.{same_tree}
use Rattle.tree.proofs.Places.{denotes_place}
use Rattle.meaning.specs.Expression.{Expression, Elements, Arguments, Pieces, Children, Quasi}
use Rattle.meaning.specs.Trees.{tree_of, element_trees, argument_trees, piece_trees, child_trees}
use Rattle.rules.specs.Size.{size, elements_size, arguments_size, pieces_size, children_size}

-- A number of a tree stands at a place of it.
mutual
  found : (n : ℕ) (t : Tree) → 1 ≤ uses n t → (p : List ℕ) × (s : Tree) × (at_place t p ≡ Some s) × (label s ≡ n)
  found n (tree l o ts) u = elim (cases_eq n l) [
    | inl e ↦ ([], tree l o ts, refl, sym e)
    | inr f ↦ let d = found_among n ts (omega (arith, same_other n l f)) in (d.0 ∷ d.1, d.2, d.3, d.4)
  ]

  found_among : (n : ℕ) (ts : Trees) → 1 ≤ uses_all n ts → (i : ℕ) × (p : List ℕ) × (s : Tree) × (among ts i p ≡ Some s) × (label s ≡ n)
  found_among n none u = absurd (omega arith)
  found_among n (more t ts) u = elim (cases_lt 0 (uses n t)) [
    | inl here ↦ let d = found n t here in (zero, d.0, d.1, d.2, d.3)
    | inr past ↦ let d = found_among n ts (omega arith) in (suc d.0, d.1, d.2, d.3, d.4)
  ]

-- The size of a stored expression: a member counts one, a call one and its arguments.
unfoldable own_size : Own → ℕ → ℕ
own_size (static_member p) n = 1
own_size computed_member n = 1
own_size call n = n
own_size o n = 0

unfoldable mutual
  tree_size : Tree → ℕ
  tree_size (tree l o ts) = own_size o (length (labels ts)) + trees_size ts

  trees_size : Trees → ℕ
  trees_size none = 0
  trees_size (more t ts) = tree_size t + trees_size ts

mutual
  unfolding tree_size

  size_place : (t : Tree) (p : List ℕ) (s : Tree) → at_place t p ≡ Some s → tree_size s ≤ tree_size t
  size_place (tree l o ts) [] s e = let f : tree l o ts ≡ s = cc in omega (arith, ap tree_size f)
  size_place (tree l o ts) (i ∷ p) s e = omega (arith, size_among ts i p s e)

  size_among : (ts : Trees) (i : ℕ) (p : List ℕ) (s : Tree) → among ts i p ≡ Some s → tree_size s ≤ trees_size ts
  size_among none i p s e = absurd (let z : ◌≡◌ {A = ℕ} 0 1 = cc in omega arith)
  size_among (more t ts) zero p s e = omega (arith, size_place t p s e)
  size_among (more t ts) (suc i) p s e = omega (arith, size_among ts i p s e)

mutual
  unfolding tree_size own_size size

  sized : (x : Expression) → tree_size (tree_of x) ≡ size x
  sized (Expression.string l u) = refl
  sized (Expression.number l n) = refl
  sized (Expression.boolean l b) = refl
  sized (Expression.null l) = refl
  sized (Expression.name l u) = refl
  sized (Expression.array l xs) = omega (arith, sized_elements xs)
  sized (Expression.static_member l x p) = omega (arith, sized x)
  sized (Expression.computed_member l x k) = omega (arith, sized x, sized k)
  sized (Expression.call l f xs) = omega (arith, sized f, sized_arguments xs)
  sized (Expression.template l ps) = omega (arith, sized_pieces ps)
  sized (Expression.unary l o x) = omega (arith, sized x)
  sized (Expression.binary l o x y) = omega (arith, sized x, sized y)
  sized (Expression.opaque l f m xs) = omega (arith, sized_children xs)

  sized_elements : (xs : Elements) → trees_size (element_trees xs) ≡ elements_size xs
  sized_elements Elements.no_elements = refl
  sized_elements (Elements.item x xs) = omega (arith, sized x, sized_elements xs)
  sized_elements (Elements.hole l xs) = omega (arith, sized_elements xs)
  sized_elements (Elements.spread l x xs) = omega (arith, sized x, sized_elements xs)

  sized_arguments : (xs : Arguments) → length (labels (argument_trees xs)) + trees_size (argument_trees xs) ≡ arguments_size xs
  sized_arguments Arguments.no_arguments = refl
  sized_arguments (Arguments.argument x xs) = omega (arith, sized x, sized_arguments xs)
  sized_arguments (Arguments.spread_argument l x xs) = omega (arith, sized x, sized_arguments xs)

  sized_pieces : (ps : Pieces) → trees_size (piece_trees ps) ≡ pieces_size ps
  sized_pieces (Pieces.last (Quasi.quasi l r u)) = refl
  sized_pieces (Pieces.piece (Quasi.quasi l r u) x ps) = omega (arith, sized x, sized_pieces ps)

  sized_children : (xs : Children) → trees_size (child_trees xs) ≡ children_size xs
  sized_children Children.no_children = refl
  sized_children (Children.child x xs) = omega (arith, sized x, sized_children xs)

-- What is smaller does not have the other within, where both are stored.
pub without : (h : Look) (x y : Expression) → Denotes h (tree_of x) → Denotes h (tree_of y) → size y < size x → uses (label (tree_of x)) (tree_of y) ≡ 0
without h x y dx dy small = elim (cases_lt 0 (uses (label (tree_of x)) (tree_of y))) [
  | inl u ↦
      let f = found (label (tree_of x)) (tree_of y) u in
      let it : f.1 ≡ tree_of x = same_tree h f.1 (tree_of x) (denotes_place h (tree_of y) f.0 f.1 f.2 dy) dx f.3 in
      absurd (omega (arith, size_place (tree_of y) f.0 f.1 f.2, ap tree_size it, sized x, sized y))
  | inr n ↦ omega arith
]
