-- The tree that a root denotes.
use Rattle.std.specs.Prelude.{◌≡◌, ℕ, ◌<◌, ◌≤◌, length}
use Rattle.tree.specs.Tree.{Tree, label, uses, Denotes}
use Rattle.tree.specs.Heap.{Held, look}
use Rattle.tree.specs.Lawful.{Payoff}

-- The number `top` denotes the tree of a payoff, in which each node that is held stands once, and no other.
pub record DenotesPayoff (h : Held) (top : ℕ) (t : Tree) : Type 0 where
  pub rooted : label t ≡ top
  pub denoted : Denotes (look h) t
  pub lawful : Payoff t
  pub once : (x : ℕ) → x < length h.nodes → uses x t ≡ 1
  pub no_other : (x : ℕ) → length h.nodes ≤ x → uses x t ≡ 0

-- The number `top` denotes such a tree.
abbrev pub IsPayoffRoot : Held → ℕ → Type 0
IsPayoffRoot h top = (t : Tree) × DenotesPayoff h top t
