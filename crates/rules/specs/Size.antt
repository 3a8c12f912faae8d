-- The measure that falls with every rewrite: how many calls, members and arguments an expression has, itself included.
use Rattle.std.specs.Prelude.{ℕ, ◌+◌}
use Rattle.meaning.specs.Expression.{Expression, Elements, Arguments, Pieces, Children}

unfoldable mutual
  -- A member or a call counts one, and each entry of a call's argument list, a spread too. (No origin: a notion of
  -- ours; ECMA-262, "Property Accessors", "Function Calls" and "Argument Lists".)
  pub size : Expression → ℕ
  size (Expression.string l u) = 0
  size (Expression.number l n) = 0
  size (Expression.boolean l b) = 0
  size (Expression.null l) = 0
  size (Expression.name l u) = 0
  size (Expression.array l xs) = elements_size xs
  size (Expression.static_member l x p) = 1 + size x
  size (Expression.computed_member l x y) = 1 + size x + size y
  size (Expression.call l f xs) = 1 + size f + arguments_size xs
  size (Expression.template l ps) = pieces_size ps
  size (Expression.unary l o x) = size x
  size (Expression.binary l o x y) = size x + size y
  size (Expression.opaque l f m xs) = children_size xs

  pub elements_size : Elements → ℕ
  elements_size Elements.no_elements = 0
  elements_size (Elements.item x xs) = size x + elements_size xs
  elements_size (Elements.hole l xs) = elements_size xs
  elements_size (Elements.spread l x xs) = size x + elements_size xs

  pub arguments_size : Arguments → ℕ
  arguments_size Arguments.no_arguments = 0
  arguments_size (Arguments.argument x xs) = 1 + size x + arguments_size xs
  arguments_size (Arguments.spread_argument l x xs) = 1 + size x + arguments_size xs

  pub pieces_size : Pieces → ℕ
  pieces_size (Pieces.last q) = 0
  pieces_size (Pieces.piece q x ps) = size x + pieces_size ps

  pub children_size : Children → ℕ
  children_size Children.no_children = 0
  children_size (Children.child x xs) = size x + children_size xs
