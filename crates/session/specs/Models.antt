-- What the fields of a session mean.
use Rattle.std.specs.Prelude.{◌≡◌, ℕ, ◌+◌, ◌<◌, ◌≤◌, List, map, length, take, get_or, Some}
use Rattle.std.specs.Option.{option_map}
use Rattle.store.specs.declared.stores.Counts.{Counts}
use Rattle.tree.specs.Tree.{label, Denotes, at_place}
use Rattle.tree.specs.Heap.{Held, look}
use Rattle.tree.specs.Limits.{WithinLimits}
use Rattle.meaning.specs.Expression.{Expression}
use Rattle.meaning.specs.Payoffs.{StoredAs}
use Rattle.rules.specs.Size.{size}
use Rattle.model.specs.Model.{Model, Sound, cursor}
use Rattle.session.specs.declared.step.Step.{Step}

-- The steps of a path: which child each takes, and which node it leaves.
abbrev pub children : List Step → List ℕ
children = map (λ s. s.child)

abbrev pub numbers : List Step → List ℕ
numbers = map (λ s. s.node)

abbrev pub counts : Held → Counts
counts h = record { nodes = length h.nodes; entries = length h.entries; text = length h.text }

-- The stores, the root's number, the cursor's number, the path to it and the count are those of a session as its caller
-- sees it. There can be no more rewrites than the payoff had calls, members and arguments, which are fewer than 8,192.
pub record Models (h : Held) (root here : ℕ) (trail : List Step) (rewrites : ℕ) (m : Model) : Type 0 where
  pub denoted : Denotes (look h) m.whole
  pub sound : Sound m
  pub limited : WithinLimits h
  pub rooted : label m.whole ≡ root
  pub placed : m.place ≡ children trail
  pub trailed : (d : ℕ) → d < length trail → option_map label (at_place m.whole (take d (children trail))) ≡ Some (get_or (numbers trail) d 0)
  pub at_cursor : cursor m ≡ Some here
  pub counted : m.rewrites ≡ rewrites
  pub held : m.held ≡ counts h
  pub bounded : (x : Expression) → StoredAs m.whole x → m.rewrites + size x ≤ 8192
