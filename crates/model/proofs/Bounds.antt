-- A payoff's size is bounded by the numbers that are held.
use Rattle.std.proofs.Common.{ℕ, zero, suc, ◌+◌, ◌*◌, ◌<◌, ◌≤◌, inl, inr, ap, mul-one, arith}
use Rattle.std.proofs.lemmas.Bool.{cases_lt}
use Rattle.tree.specs.Tree.{uses}
use Rattle.tree.specs.Laws.{total}
use Rattle.tree.proofs.Counting.{weigh, weigh_all, weigh_total}
use Rattle.meaning.specs.Expression.{Expression, Elements, Arguments, Pieces, Children}
use Rattle.meaning.specs.Trees.{tree_of, element_trees, argument_trees, piece_trees, child_trees}
use Rattle.meaning.specs.Payoffs.{StoredAs}
use Rattle.rules.specs.Size.{size, elements_size, arguments_size, pieces_size, children_size}
use Rattle.model.specs.Model.{Model, Sound}

-- Each node weighs one.
abbrev one : ℕ → ℕ
one n = 1

-- A call or a member counts one, and as an argument one more.
mutual
  unfolding size

  sized : (x : Expression) → size x + 1 ≤ 2 * weigh one (tree_of x)
  sized (Expression.string l u) = omega arith
  sized (Expression.number l n) = omega arith
  sized (Expression.boolean l b) = omega arith
  sized (Expression.null l) = omega arith
  sized (Expression.name l u) = omega arith
  sized (Expression.array l xs) = omega (arith, elements_sized xs)
  sized (Expression.static_member l x p) = omega (arith, sized x)
  sized (Expression.computed_member l x k) = omega (arith, sized x, sized k)
  sized (Expression.call l f xs) = omega (arith, sized f, arguments_sized xs)
  sized (Expression.template l ps) = omega (arith, pieces_sized ps)
  sized (Expression.unary l o x) = omega (arith, sized x)
  sized (Expression.binary l o x y) = omega (arith, sized x, sized y)
  sized (Expression.opaque l f m xs) = omega (arith, children_sized xs)

  elements_sized : (xs : Elements) → elements_size xs ≤ 2 * weigh_all one (element_trees xs)
  elements_sized Elements.no_elements = omega arith
  elements_sized (Elements.item x xs) = omega (arith, sized x, elements_sized xs)
  elements_sized (Elements.hole l xs) = omega (arith, elements_sized xs)
  elements_sized (Elements.spread l x xs) = omega (arith, sized x, elements_sized xs)

  arguments_sized : (xs : Arguments) → arguments_size xs ≤ 2 * weigh_all one (argument_trees xs)
  arguments_sized Arguments.no_arguments = omega arith
  arguments_sized (Arguments.argument x xs) = omega (arith, sized x, arguments_sized xs)
  arguments_sized (Arguments.spread_argument l x xs) = omega (arith, sized x, arguments_sized xs)

  pieces_sized : (ps : Pieces) → pieces_size ps ≤ 2 * weigh_all one (piece_trees ps)
  pieces_sized (Pieces.last q) = omega arith
  pieces_sized (Pieces.piece q x ps) = omega (arith, sized x, pieces_sized ps)

  children_sized : (xs : Children) → children_size xs ≤ 2 * weigh_all one (child_trees xs)
  children_sized Children.no_children = omega arith
  children_sized (Children.child x xs) = omega (arith, sized x, children_sized xs)

-- Numbers that are used once at most are no more than there are numbers.
total_distinct : (n : ℕ) (f : ℕ → ℕ) → ((x : ℕ) → f x ≤ 1) → total n (λ x. f x * 1) ≤ n
total_distinct zero f h = omega arith
total_distinct (suc n) f h = omega (arith, h n, mul-one (f n), total_distinct n f h)

pub size_held : (m : Model) → Sound m → (x : Expression) → StoredAs m.whole x → size x < 2 * m.held.nodes
size_held m s x t =
    let low : (n : ℕ) → 1 ≤ uses n m.whole → n < m.held.nodes = λ n u. elim (cases_lt n m.held.nodes) [ inl i ↦ i | inr i ↦ absurd (omega (arith, s.numbered n i)) ] in
    omega (arith, sized x, ap (weigh one) t.1, weigh_total m.held.nodes one m.whole low, total_distinct m.held.nodes (λ n. uses n m.whole) s.distinct)
