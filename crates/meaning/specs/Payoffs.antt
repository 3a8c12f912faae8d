-- Which expression a stored payoff is.
use Rattle.std.specs.Prelude.{◌≡◌}
use Rattle.text.specs.Utf16.{Text}
use Rattle.tree.specs.Tree.{Tree}
use Rattle.tree.specs.Lawful.{Payoff}
use Rattle.meaning.specs.Expression.{Expression, Elements, Arguments, Pieces, Children, Quasi}
use Rattle.meaning.specs.Trees.{tree_of}

abbrev pub SpelledQuasi : Quasi → Type 0
SpelledQuasi (Quasi.quasi l raw cooked) = Text cooked

abbrev mutual
  -- Each of the expression's texts is a text, of 16-bit code units. ECMA-262, "The String Type".
  pub Spelled : Expression → Type 0
  Spelled (Expression.string l u) = Text u
  Spelled (Expression.number l n) = Unit {0}
  Spelled (Expression.boolean l b) = Unit {0}
  Spelled (Expression.null l) = Unit {0}
  Spelled (Expression.name l u) = Text u
  Spelled (Expression.array l xs) = SpelledElements xs
  Spelled (Expression.static_member l x p) = Spelled x × Text p
  Spelled (Expression.computed_member l x k) = Spelled x × Spelled k
  Spelled (Expression.call l f xs) = Spelled f × SpelledArguments xs
  Spelled (Expression.template l ps) = SpelledPieces ps
  Spelled (Expression.unary l o x) = Spelled x
  Spelled (Expression.binary l o x y) = Spelled x × Spelled y
  Spelled (Expression.opaque l f m xs) = SpelledChildren xs

  pub SpelledElements : Elements → Type 0
  SpelledElements Elements.no_elements = Unit {0}
  SpelledElements (Elements.item x xs) = Spelled x × SpelledElements xs
  SpelledElements (Elements.hole l xs) = SpelledElements xs
  SpelledElements (Elements.spread l x xs) = Spelled x × SpelledElements xs

  pub SpelledArguments : Arguments → Type 0
  SpelledArguments Arguments.no_arguments = Unit {0}
  SpelledArguments (Arguments.argument x xs) = Spelled x × SpelledArguments xs
  SpelledArguments (Arguments.spread_argument l x xs) = Spelled x × SpelledArguments xs

  pub SpelledPieces : Pieces → Type 0
  SpelledPieces (Pieces.last q) = SpelledQuasi q
  SpelledPieces (Pieces.piece q x ps) = SpelledQuasi q × Spelled x × SpelledPieces ps

  pub SpelledChildren : Children → Type 0
  SpelledChildren Children.no_children = Unit {0}
  SpelledChildren (Children.child x xs) = Spelled x × SpelledChildren xs

-- The tree is how this expression is stored.
abbrev pub StoredAs : Tree → Expression → Type 0
StoredAs t x = Spelled x × (tree_of x ≡ t)

-- A payoff's tree is how one expression is stored, and how no other is.
abbrev pub APayoffIsOneExpression : Type 0
APayoffIsOneExpression =
    (t : Tree) → Payoff t → (x : Expression) × StoredAs t x × ((y : Expression) → StoredAs t y → x ≡ y)
