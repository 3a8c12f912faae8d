-- A session as its caller sees it.
use Rattle.std.specs.Prelude.{◌≡◌, ℕ, ◌≤◌, List, [], Some, Option}
use Rattle.std.specs.Option.{option_map}
use Rattle.store.specs.declared.stores.Counts.{Counts}
use Rattle.tree.specs.Tree.{Tree, label, uses, Distinct, at_place}
use Rattle.tree.specs.Lawful.{Payoff}
use Rattle.meaning.specs.Expression.{Expression}
use Rattle.meaning.specs.Trees.{tree_of}
use Rattle.meaning.specs.Payoffs.{Spelled}
use Rattle.rules.specs.Places.{Settings}

-- What stays the same from opening to ending: what is supported, and how much room the stores have.
pub record Given : Type 0 where
  pub supported : Settings
  pub rooms : Counts

-- The payoff's tree, with the numbers of its nodes; where the cursor stands in it, as child indexes from the root; how
-- many rewrites were made since opening; and how much the stores hold.
pub record Model : Type 0 where
  pub whole : Tree
  pub place : List ℕ
  pub rewrites : ℕ
  pub held : Counts

-- The number of the cursor's node.
abbrev pub cursor : Model → Option ℕ
cursor m = option_map label (at_place m.whole m.place)

-- The cursor's node is stored as this expression.
abbrev pub At : Model → Expression → Type 0
At m x = Spelled x × (at_place m.whole m.place ≡ Some (tree_of x))

-- The cursor elsewhere.
abbrev pub moved : Model → List ℕ → Model
moved m p = record { whole = m.whole; place = p; rewrites = m.rewrites; held = m.held }

-- The tree is a payoff's, each of its numbers is held, and none is used twice.
pub record Sound (m : Model) : Type 0 where
  pub payoff : Payoff m.whole
  pub distinct : Distinct m.whole
  pub numbered : (n : ℕ) → m.held.nodes ≤ n → uses n m.whole ≡ 0

-- A session is opened on a payoff's tree: the cursor is at the root, and no rewrite was made.
pub record Opened (t : Tree) (m : Model) : Type 0 where
  pub whole : m.whole ≡ t
  pub at_root : m.place ≡ []
  pub none_made : m.rewrites ≡ 0
  pub sound : Sound m
