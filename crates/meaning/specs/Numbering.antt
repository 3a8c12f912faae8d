-- The numbers of nodes are names, no more.
use Rattle.std.specs.Prelude.{ℕ}
use Rattle.meaning.specs.Expression.{Expression, Elements, Arguments, Pieces, Children, Quasi}
use Rattle.meaning.specs.World.{World}
use Rattle.meaning.specs.Replacing.{Keeps}

module _ (f : ℕ → ℕ) where
  abbrev pub renumbered_quasi : Quasi → Quasi
  renumbered_quasi (Quasi.quasi l raw cooked) = Quasi.quasi (f l) raw cooked

  abbrev mutual
    -- The expression with other numbers. (No section: a notion of ours.)
    pub renumbered : Expression → Expression
    renumbered (Expression.string l u) = Expression.string (f l) u
    renumbered (Expression.number l n) = Expression.number (f l) n
    renumbered (Expression.boolean l b) = Expression.boolean (f l) b
    renumbered (Expression.null l) = Expression.null (f l)
    renumbered (Expression.name l u) = Expression.name (f l) u
    renumbered (Expression.array l xs) = Expression.array (f l) (renumbered_elements xs)
    renumbered (Expression.static_member l x p) = Expression.static_member (f l) (renumbered x) p
    renumbered (Expression.computed_member l x k) = Expression.computed_member (f l) (renumbered x) (renumbered k)
    renumbered (Expression.call l g xs) = Expression.call (f l) (renumbered g) (renumbered_arguments xs)
    renumbered (Expression.template l ps) = Expression.template (f l) (renumbered_pieces ps)
    renumbered (Expression.unary l o x) = Expression.unary (f l) o (renumbered x)
    renumbered (Expression.binary l o x y) = Expression.binary (f l) o (renumbered x) (renumbered y)
    renumbered (Expression.opaque l t m xs) = Expression.opaque (f l) t m (renumbered_children xs)

    pub renumbered_elements : Elements → Elements
    renumbered_elements Elements.no_elements = Elements.no_elements
    renumbered_elements (Elements.item x xs) = Elements.item (renumbered x) (renumbered_elements xs)
    renumbered_elements (Elements.hole l xs) = Elements.hole (f l) (renumbered_elements xs)
    renumbered_elements (Elements.spread l x xs) = Elements.spread (f l) (renumbered x) (renumbered_elements xs)

    pub renumbered_arguments : Arguments → Arguments
    renumbered_arguments Arguments.no_arguments = Arguments.no_arguments
    renumbered_arguments (Arguments.argument x xs) = Arguments.argument (renumbered x) (renumbered_arguments xs)
    renumbered_arguments (Arguments.spread_argument l x xs) = Arguments.spread_argument (f l) (renumbered x) (renumbered_arguments xs)

    pub renumbered_pieces : Pieces → Pieces
    renumbered_pieces (Pieces.last q) = Pieces.last (renumbered_quasi q)
    renumbered_pieces (Pieces.piece q x ps) = Pieces.piece (renumbered_quasi q) (renumbered x) (renumbered_pieces ps)

    pub renumbered_children : Children → Children
    renumbered_children Children.no_children = Children.no_children
    renumbered_children (Children.child x xs) = Children.child (renumbered x) (renumbered_children xs)

-- With whatever numbers, an expression has the same runs, and the same calm ones.
abbrev pub NoRunDependsOnNumbers : World → Type 0
NoRunDependsOnNumbers w = (f : ℕ → ℕ) (x : Expression) → Keeps w x (renumbered f x) × Keeps w (renumbered f x) x
