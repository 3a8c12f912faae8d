-- The nodes of a payoff, each with what is below it.
use Rattle.std.specs.Prelude.{ℕ}
use Rattle.tree.specs.Tree.{Own, Tree, tree, none, more}
use Rattle.meaning.specs.Expression.{Expression, Quasi}
use Rattle.meaning.specs.Trees.{tree_of, quasi_tree}

-- A node is an expression; or a hole, a spread or a quasi, which are no expressions.
pub data Part : Type 0 where
  expression : Expression → Part
  hole : ℕ → Part
  spread : ℕ → Expression → Part
  quasi : Quasi → Part

abbrev pub part_tree : Part → Tree
part_tree (Part.expression x) = tree_of x
part_tree (Part.hole l) = tree l Own.hole none
part_tree (Part.spread l x) = tree l Own.spread (more (tree_of x) none)
part_tree (Part.quasi q) = quasi_tree q
