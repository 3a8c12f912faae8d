-- Lawful expressions: their texts are texts, their numbers finite, and each quasi's raw text cooks to its text.
use Rattle.std.specs.Prelude.{◌≡◌, ℕ, Some}
use Rattle.text.specs.Utf16.{Text}
use Rattle.template.specs.Cooked.{Cooks}
use Rattle.tree.specs.declared.node.FirstChild.{FirstChild}
use Rattle.tree.specs.Lawful.{Finite, Payoff}
use Rattle.meaning.specs.Expression.{Expression, Elements, Arguments, Quasi, Pieces, Children}
use Rattle.meaning.specs.Trees.{tree_of}
use Rattle.host.specs.Answers.{Answers}
use Rattle.rules.specs.Places.{Role, Settings}
use Rattle.rules.specs.Deciding.{decided}
use Rattle.rules.specs.Property.{property_rule}
use Rattle.rules.specs.Method.{method_rule}
use Rattle.rules.specs.Chain.{chain_rule}

-- The raw text cooks to the text. ECMA-262, "Static Semantics: TV".
abbrev pub LawfulQuasi : Quasi → Type 0
LawfulQuasi (Quasi.quasi l raw u) = Cooks raw u × Text u

-- A child that is taken as a reference is there. ECMA-262, "The delete Operator" and "Tagged Templates".
abbrev pub HasFirst : FirstChild → Children → Type 0
HasFirst FirstChild.Value xs = Unit {0}
HasFirst FirstChild.Reference Children.no_children = ⊥
HasFirst FirstChild.Reference (Children.child x xs) = Unit {0}

abbrev mutual
  -- An expression, and each within it, is lawful. ECMA-262, "The String Type" and "The Number Type".
  pub LawfulExpression : Expression → Type 0
  LawfulExpression (Expression.string l u) = Text u
  LawfulExpression (Expression.number l n) = Finite n
  LawfulExpression (Expression.boolean l b) = Unit {0}
  LawfulExpression (Expression.null l) = Unit {0}
  LawfulExpression (Expression.name l u) = Text u
  LawfulExpression (Expression.array l xs) = LawfulElements xs
  LawfulExpression (Expression.static_member l x p) = LawfulExpression x × Text p
  LawfulExpression (Expression.computed_member l x k) = LawfulExpression x × LawfulExpression k
  LawfulExpression (Expression.call l f xs) = LawfulExpression f × LawfulArguments xs
  LawfulExpression (Expression.template l ps) = LawfulPieces ps
  LawfulExpression (Expression.unary l o x) = LawfulExpression x
  LawfulExpression (Expression.binary l o x y) = LawfulExpression x × LawfulExpression y
  LawfulExpression (Expression.opaque l f m xs) = HasFirst f xs × LawfulChildren xs

  pub LawfulElements : Elements → Type 0
  LawfulElements Elements.no_elements = Unit {0}
  LawfulElements (Elements.item x xs) = LawfulExpression x × LawfulElements xs
  LawfulElements (Elements.hole l xs) = LawfulElements xs
  LawfulElements (Elements.spread l x xs) = LawfulExpression x × LawfulElements xs

  pub LawfulArguments : Arguments → Type 0
  LawfulArguments Arguments.no_arguments = Unit {0}
  LawfulArguments (Arguments.argument x xs) = LawfulExpression x × LawfulArguments xs
  LawfulArguments (Arguments.spread_argument l x xs) = LawfulExpression x × LawfulArguments xs

  pub LawfulPieces : Pieces → Type 0
  LawfulPieces (Pieces.last q) = LawfulQuasi q
  LawfulPieces (Pieces.piece q x ps) = LawfulQuasi q × LawfulExpression x × LawfulPieces ps

  pub LawfulChildren : Children → Type 0
  LawfulChildren Children.no_children = Unit {0}
  LawfulChildren (Children.child x xs) = LawfulExpression x × LawfulChildren xs

-- The tree of a lawful expression is that of a payoff.
abbrev pub ALawfulExpressionIsAPayoff : Type 0
ALawfulExpressionIsAPayoff = (x : Expression) → LawfulExpression x → Payoff (tree_of x)

-- What a lawful expression becomes, by the answers of any host, is lawful.
abbrev pub ARewriteKeepsItLawful : Type 0
ARewriteKeepsItLawful =
    (a : Answers) (s : Settings) (next : ℕ) (r : Role) (x y : Expression) → LawfulExpression x
    → (decided a (chain_rule s next r x) ≡ Some y → LawfulExpression y)
    × (decided a (method_rule s next r x) ≡ Some y → LawfulExpression y)
    × (decided a (property_rule next r x) ≡ Some y → LawfulExpression y)
