-- What is planned of a literal at an index.
use Rattle.std.specs.Prelude.{ℕ, List, Some, None, Option}
use Rattle.text.specs.Stored.{Stores}
use Rattle.tree.specs.Heap.{Held}
use Rattle.meaning.specs.Expression.{Expression, Elements, Units}
use Rattle.meaning.specs.Parts.{Part}
use Rattle.rules.specs.Property.{unit_or_void, element_at}
use Rattle.deciding.specs.declared.plan.Plan.{Plan}
use Rattle.deciding.specs.Standing.{Stands, AllStand, element_parts}
use Rattle.deciding.specs.Plans.{PlanOf}

-- There is a plan where there is an expression, and it is for that one.
abbrev pub PlanIf : Held → ℕ → Option Expression → Option Plan → Type 0
PlanIf h next None None = Unit {0}
PlanIf h next None (Some plan) = ⊥
PlanIf h next (Some y) None = ⊥
PlanIf h next (Some y) (Some plan) = PlanOf h plan next y

-- What stands at the index of a string or an array literal. oxc_minifier's `try_fold_integer_index_access`.
unfoldable pub read_at : ℕ → Expression → ℕ → Option Expression
read_at next (Expression.string l u) k = Some (unit_or_void next u k)
read_at next (Expression.array l xs) k = element_at next xs k
read_at next o k = None

abbrev pub UnitAt : List ℕ → ℕ → Option Plan → Type 0
UnitAt text k plan = (h : Held) (next : ℕ) (u : Units) → Stores text u → PlanIf h next (Some (unit_or_void next u k)) plan

abbrev pub ElementAt : Held → List ℕ → ℕ → Option Plan → Type 0
ElementAt h ns k plan = (next : ℕ) (xs : Elements) → AllStand h ns (element_parts xs) → PlanIf h next (element_at next xs k) plan

abbrev pub ReadAt : Held → ℕ → ℕ → Option Plan → Type 0
ReadAt h object k plan = (next : ℕ) (x : Expression) → Stands h object (Part.expression x) → PlanIf h next (read_at next x k) plan
