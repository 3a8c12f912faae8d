-- New nodes are numbered from the first free number on, without a gap.
use Rattle.std.specs.Prelude.{◌≡◌, ℕ, ◌+◌, ◌<◌, ◌≤◌, Some}
use Rattle.tree.specs.Tree.{uses}
use Rattle.meaning.specs.Expression.{Expression}
use Rattle.meaning.specs.Trees.{tree_of}
use Rattle.host.specs.Answers.{Answers}
use Rattle.rules.specs.Places.{Role, Settings}
use Rattle.rules.specs.Deciding.{decided}
use Rattle.rules.specs.Property.{property_rule}
use Rattle.rules.specs.Method.{method_rule}
use Rattle.rules.specs.Chain.{chain_rule}

-- The nodes of the second expression are some of the first, and so many new ones, which have the numbers from `next`
-- on, each one of them. (No origin: a notion of ours.)
abbrev pub NumberedFrom : ℕ → (old new : Expression) → Type 0
NumberedFrom next x y =
    (k : ℕ) × ((n : ℕ)
    → (n < next → uses n (tree_of y) ≤ uses n (tree_of x))
    × (next ≤ n → n < next + k → uses n (tree_of y) ≡ 1)
    × (next + k ≤ n → uses n (tree_of y) ≡ 0))

-- By the answers of any host, where all numbers of an expression are below `next`: what it becomes has numbers of its
-- own, and new ones from `next` on.
abbrev pub NewNodesAreNumberedInTurn : Type 0
NewNodesAreNumberedInTurn =
    (a : Answers) (s : Settings) (next : ℕ) (r : Role) (x y : Expression) → ((n : ℕ) → next ≤ n → uses n (tree_of x) ≡ 0)
    → (decided a (chain_rule s next r x) ≡ Some y → NumberedFrom next x y)
    × (decided a (method_rule s next r x) ≡ Some y → NumberedFrom next x y)
    × (decided a (property_rule next r x) ≡ Some y → NumberedFrom next x y)
