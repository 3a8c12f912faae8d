-- The space that a rewrite takes in the stores, by what it becomes. New nodes are those from `next` on.
use Rattle.std.specs.Prelude.{ℕ, suc, ◌+◌, cond, length, nat_le, bytes_eq}
use Rattle.store.specs.declared.stores.Counts.{Counts}
use Rattle.tree.specs.Tree.{Own, string, number, boolean, null, name, hole, spread, array, static_member, computed_member, call, template, quasi, unary, binary, opaque, Tree, Trees, tree, none, more}
use Rattle.meaning.specs.Expression.{Expression, Elements, Arguments, Pieces}
use Rattle.meaning.specs.Trees.{tree_of}
use Rattle.rules.specs.Interleaves.{argument_count}
use Rattle.rules.specs.Method.{Callee, callee_of}

-- How many bytes a new node's texts take. A string's text is written, and a quasi's cooked text, and its raw text where
-- it differs. The other texts stay where they are. (No origin: a notion of ours, as are the others here.)
unfoldable pub bytes_of : Own → ℕ
bytes_of (string t) = length t
bytes_of (number n) = 0
bytes_of (boolean b) = 0
bytes_of null = 0
bytes_of (name t) = 0
bytes_of hole = 0
bytes_of spread = 0
bytes_of array = 0
bytes_of (static_member p) = 0
bytes_of computed_member = 0
bytes_of call = 0
bytes_of template = 0
bytes_of (quasi raw cooked) = length cooked + cond (bytes_eq raw cooked) 0 (length raw)
bytes_of (unary op) = 0
bytes_of (binary op) = 0
bytes_of (opaque m f) = 0

unfoldable mutual
  -- How many nodes of a tree are new.
  pub new_nodes : ℕ → Tree → ℕ
  new_nodes next (tree l o ts) = cond (nat_le next l) 1 0 + new_nodes_of next ts

  pub new_nodes_of : ℕ → Trees → ℕ
  new_nodes_of next none = 0
  new_nodes_of next (more t ts) = new_nodes next t + new_nodes_of next ts

unfoldable mutual
  -- How many bytes the texts of its new nodes take.
  pub new_bytes : ℕ → Tree → ℕ
  new_bytes next (tree l o ts) = cond (nat_le next l) (bytes_of o) 0 + new_bytes_of next ts

  pub new_bytes_of : ℕ → Trees → ℕ
  new_bytes_of next none = 0
  new_bytes_of next (more t ts) = new_bytes next t + new_bytes_of next ts

-- How many elements an array has, holes and spreads counted.
unfoldable pub element_count : Elements → ℕ
element_count Elements.no_elements = 0
element_count (Elements.item x xs) = suc (element_count xs)
element_count (Elements.hole l xs) = suc (element_count xs)
element_count (Elements.spread l x xs) = suc (element_count xs)

-- How many quasis and expressions a template has: 2e + 1 of e expressions.
unfoldable pub piece_count : Pieces → ℕ
piece_count (Pieces.last q) = 1
piece_count (Pieces.piece q x ps) = 2 + piece_count ps

-- Of a call of a method of an array literal, the elements that a new array has are written. (The arguments of
-- `Array.of`, whose object is a name, become elements where they stand.)
unfoldable pub elements_by : Callee → Elements → ℕ
elements_by (Callee.method (Expression.array j es) k) fs = element_count fs
elements_by c fs = 0

unfoldable pub elements_from : Expression → Elements → ℕ
elements_from (Expression.call l f xs) fs = elements_by (callee_of f) fs
elements_from x fs = 0

-- A new call whose object is a new array: the elements are written, and the arguments are left where they stand. One
-- whose object is an old literal is that of a chain, and all arguments of the chain are written.
unfoldable pub elements_or_arguments : ℕ → Expression → Arguments → ℕ
elements_or_arguments next (Expression.array j es) xs = cond (nat_le next j) (element_count es) (argument_count xs)
elements_or_arguments next o xs = argument_count xs

unfoldable pub entries_of_call : ℕ → Expression → Arguments → ℕ
entries_of_call next (Expression.static_member m o k) xs = elements_or_arguments next o xs
entries_of_call next (Expression.computed_member m o k) xs = elements_or_arguments next o xs
entries_of_call next f xs = argument_count xs

-- How many entries the lists take that are written where x becomes y.
unfoldable pub new_entries : ℕ → (x y : Expression) → ℕ
new_entries next x (Expression.array l es) = cond (nat_le next l) (elements_from x es) 0
new_entries next x (Expression.call l f xs) = cond (nat_le next l) (entries_of_call next f xs) 0
new_entries next x (Expression.template l ps) = cond (nat_le next l) (piece_count ps) 0
new_entries next x y = 0

-- The space that is taken where x becomes y.
abbrev pub space : ℕ → (x y : Expression) → Counts
space next x y = record { nodes = new_nodes next (tree_of y); entries = new_entries next x y; text = new_bytes next (tree_of y) }
