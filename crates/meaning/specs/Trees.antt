-- How an expression is stored: as a labelled tree, with its texts in their stored form.
use Rattle.text.specs.Stored.{stored}
use Rattle.tree.specs.Tree.{Tree, Trees, tree, none, more, string, number, boolean, null, name, hole, spread, array, static_member, computed_member, call, template, quasi, unary, binary, opaque}
use Rattle.meaning.specs.Expression.{Expression, Elements, Arguments, Pieces, Children, Quasi}

abbrev pub quasi_tree : Quasi → Tree
quasi_tree (Quasi.quasi l raw cooked) = tree l (quasi raw (stored cooked)) none

abbrev mutual
  -- The labelled tree of an expression.
  pub tree_of : Expression → Tree
  tree_of (Expression.string l u) = tree l (string (stored u)) none
  tree_of (Expression.number l n) = tree l (number n) none
  tree_of (Expression.boolean l b) = tree l (boolean b) none
  tree_of (Expression.null l) = tree l null none
  tree_of (Expression.name l u) = tree l (name (stored u)) none
  tree_of (Expression.array l xs) = tree l array (element_trees xs)
  tree_of (Expression.static_member l x p) = tree l (static_member (stored p)) (more (tree_of x) none)
  tree_of (Expression.computed_member l x k) = tree l computed_member (more (tree_of x) (more (tree_of k) none))
  tree_of (Expression.call l f xs) = tree l call (more (tree_of f) (argument_trees xs))
  tree_of (Expression.template l ps) = tree l template (piece_trees ps)
  tree_of (Expression.unary l o x) = tree l (unary o) (more (tree_of x) none)
  tree_of (Expression.binary l o x y) = tree l (binary o) (more (tree_of x) (more (tree_of y) none))
  tree_of (Expression.opaque l f m xs) = tree l (opaque m f) (child_trees xs)

  -- The trees of elements, arguments, pieces and children, one behind the other.
  pub element_trees : Elements → Trees
  element_trees Elements.no_elements = none
  element_trees (Elements.item x xs) = more (tree_of x) (element_trees xs)
  element_trees (Elements.hole l xs) = more (tree l hole none) (element_trees xs)
  element_trees (Elements.spread l x xs) = more (tree l spread (more (tree_of x) none)) (element_trees xs)

  pub argument_trees : Arguments → Trees
  argument_trees Arguments.no_arguments = none
  argument_trees (Arguments.argument x xs) = more (tree_of x) (argument_trees xs)
  argument_trees (Arguments.spread_argument l x xs) = more (tree l spread (more (tree_of x) none)) (argument_trees xs)

  pub piece_trees : Pieces → Trees
  piece_trees (Pieces.last q) = more (quasi_tree q) none
  piece_trees (Pieces.piece q x ps) = more (quasi_tree q) (more (tree_of x) (piece_trees ps))

  pub child_trees : Children → Trees
  child_trees Children.no_children = none
  child_trees (Children.child x xs) = more (tree_of x) (child_trees xs)
