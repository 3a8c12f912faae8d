-- What is built of a plan.
use Rattle.std.specs.Prelude.{◌≡◌, ℕ, length, Ok, Result, IfErr, ◌⊎◌}
use Rattle.base.specs.declared.fault.Fault.{Fault}
use Rattle.base.specs.declared.fault.Fault.TheVariants.{Overfull, Malformed}
use Rattle.store.specs.declared.stores.Stores.{Stores}
use Rattle.store.specs.declared.stores.Counts.{Counts}
use Rattle.store.specs.Stores.{held_of}
use Rattle.tree.specs.Tree.{label, Denotes}
use Rattle.tree.specs.Heap.{Held, look, grown}
use Rattle.meaning.specs.Expression.{Expression}
use Rattle.meaning.specs.Trees.{tree_of}
use Rattle.rules.specs.Space.{space}
use Rattle.deciding.specs.declared.plan.Plan.{Plan}
use Rattle.deciding.specs.declared.plan.Decision.TheVariants.{Rewritten}
use Rattle.deciding.specs.Plans.{PlanOf, WritesFor}
use Rattle.tree.specs.Limits.{WithinLimits}
use Rattle.building.specs.Growing.{GrowsBy, HasRoom, counts}

-- The stores hold an expression, by its number, for which they grew by so much; what they held is still there.
pub record Built (old : Stores) (y : Expression) (need : Counts) (new : Stores) (answer : Result ℕ Fault) : Type 0 where
  pub more : Held
  pub answered : answer ≡ Ok (label (tree_of y))
  pub grew : GrowsBy old more new
  pub needed : counts more ≡ need
  pub denoted : Denotes (look (grown (held_of old) more)) (tree_of y)

-- If it is refused, it is for want of room, or because a text or what was to be joined is unlawful or not there.
abbrev pub LacksRoomOrText : {X : Type 0} → Result X Fault → Type 0
LacksRoomOrText r = IfErr r (λ e. (e ≡ Overfull) ⊎ (e ≡ Malformed))

-- Where there is room, the plan is built: whichever expression it is for.
abbrev pub Builds : (old : Stores) (plan : Plan) (new : Stores) → Result ℕ Fault → Type 0
Builds old plan new answer =
    WithinLimits (held_of old) → (x y : Expression) → PlanOf (held_of old) plan (length (held_of old).nodes) y → WritesFor x (Rewritten plan)
    → HasRoom old (space (length (held_of old).nodes) x y) → Built old y (space (length (held_of old).nodes) x y) new answer
