-- What holds of each part of an expression: of the expression itself, and of each node below it, with what is below
-- that.
use Rattle.meaning.specs.Expression.{Expression, Elements, Arguments, Pieces, Children}
use Rattle.meaning.specs.Parts.{Part}

module _ (P : Part → Type 0) where
  abbrev mutual
    pub EachPart : Expression → Type 0
    EachPart (Expression.string l u) = P (Part.expression (Expression.string l u))
    EachPart (Expression.number l n) = P (Part.expression (Expression.number l n))
    EachPart (Expression.boolean l b) = P (Part.expression (Expression.boolean l b))
    EachPart (Expression.null l) = P (Part.expression (Expression.null l))
    EachPart (Expression.name l u) = P (Part.expression (Expression.name l u))
    EachPart (Expression.array l xs) = P (Part.expression (Expression.array l xs)) × EachElement xs
    EachPart (Expression.static_member l x p) = P (Part.expression (Expression.static_member l x p)) × EachPart x
    EachPart (Expression.computed_member l x k) = P (Part.expression (Expression.computed_member l x k)) × EachPart x × EachPart k
    EachPart (Expression.call l f xs) = P (Part.expression (Expression.call l f xs)) × EachPart f × EachArgument xs
    EachPart (Expression.template l ps) = P (Part.expression (Expression.template l ps)) × EachPiece ps
    EachPart (Expression.unary l o x) = P (Part.expression (Expression.unary l o x)) × EachPart x
    EachPart (Expression.binary l o x y) = P (Part.expression (Expression.binary l o x y)) × EachPart x × EachPart y
    EachPart (Expression.opaque l f m xs) = P (Part.expression (Expression.opaque l f m xs)) × EachChild xs

    pub EachElement : Elements → Type 0
    EachElement Elements.no_elements = Unit {0}
    EachElement (Elements.item x xs) = EachPart x × EachElement xs
    EachElement (Elements.hole l xs) = P (Part.hole l) × EachElement xs
    EachElement (Elements.spread l x xs) = P (Part.spread l x) × EachPart x × EachElement xs

    pub EachArgument : Arguments → Type 0
    EachArgument Arguments.no_arguments = Unit {0}
    EachArgument (Arguments.argument x xs) = EachPart x × EachArgument xs
    EachArgument (Arguments.spread_argument l x xs) = P (Part.spread l x) × EachPart x × EachArgument xs

    pub EachPiece : Pieces → Type 0
    EachPiece (Pieces.last q) = P (Part.quasi q)
    EachPiece (Pieces.piece q x ps) = P (Part.quasi q) × EachPart x × EachPiece ps

    pub EachChild : Children → Type 0
    EachChild Children.no_children = Unit {0}
    EachChild (Children.child x xs) = EachPart x × EachChild xs

  -- The expression is the first of its parts.
  pub top_part : (x : Expression) → EachPart x → P (Part.expression x)
  top_part (Expression.string l u) h = h
  top_part (Expression.number l n) h = h
  top_part (Expression.boolean l b) h = h
  top_part (Expression.null l) h = h
  top_part (Expression.name l u) h = h
  top_part (Expression.array l xs) h = h.0
  top_part (Expression.static_member l x p) h = h.0
  top_part (Expression.computed_member l x k) h = h.0
  top_part (Expression.call l f xs) h = h.0
  top_part (Expression.template l ps) h = h.0
  top_part (Expression.unary l o x) h = h.0
  top_part (Expression.binary l o x y) h = h.0
  top_part (Expression.opaque l f m xs) h = h.0
