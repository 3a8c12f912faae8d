-- What plans and decisions stand for.
use Rattle.std.specs.Prelude.{◌≡◌, ℕ, ◌+◌, List, [], ◌∷◌, length, Some, None, Option, ◌⊎◌}
use Rattle.tree.specs.declared.node.UnaryOperator.TheVariants.{Plus}
use Rattle.tree.specs.declared.node.BinaryOperator.TheVariants.{Exponentiation}
use Rattle.tree.specs.Heap.{Held}
use Rattle.meaning.specs.Expression.{Expression, Elements, Arguments, Units}
use Rattle.meaning.specs.Parts.{Part}
use Rattle.rules.specs.Places.{Role, Settings}
use Rattle.rules.specs.Building.{elements_of, append_elements, joined, with_object, void_zero, flat}
use Rattle.rules.specs.Taking.{taken, left, taken_count}
use Rattle.rules.specs.Chain.{Chain, chain_of}
use Rattle.rules.specs.Method.{Callee, callee_of}
use Rattle.rules.specs.Space.{element_count, elements_by, elements_from}
use Rattle.deciding.specs.declared.place.Place.{Place}
use Rattle.deciding.specs.declared.place.Place.TheVariants.{Ordinary, ConcatObject, Referred}
use Rattle.deciding.specs.declared.place.Support.{Support}
use Rattle.deciding.specs.declared.plan.Plan.{Plan}
use Rattle.deciding.specs.declared.plan.Plan.TheVariants.{Existing, Unit as UnitPlan, VoidZero, Power, ArrayOf, Merged, ConcatLeft, OneCall, Joined}
use Rattle.deciding.specs.declared.plan.Exponent.TheVariants.{Number, Coerced}
use Rattle.deciding.specs.declared.plan.Calls.TheVariants.{One, Chain as ChainOf}
use Rattle.deciding.specs.declared.plan.Decision.{Decision}
use Rattle.deciding.specs.declared.plan.Decision.TheVariants.{Kept, Rewritten}
use Rattle.deciding.specs.Standing.{Stands, ListsElements, ListsArguments, Spells}

-- How the rules' definitions call a place, and what is supported.
abbrev pub role_of : Place → Role
role_of Ordinary = Role.ordinary
role_of ConcatObject = Role.concat_object
role_of Referred = Role.referred

abbrev pub settings_of : Support → Settings
settings_of s = record { templates = s.templates; power = s.power }

-- The number stands for a callee that names a method of some object.
abbrev pub NamesMethod : Held → ℕ → Expression → Type 0
NamesMethod h n f = Stands h n (Part.expression f) × ((o : Expression) × (k : Units) × (callee_of f ≡ Callee.method o k))

-- The plan is for this expression, whose new nodes are numbered from `next` on.
abbrev pub PlanOf : Held → Plan → (next : ℕ) → Expression → Type 0
PlanOf h (Existing n) next y = Stands h n (Part.expression y)
PlanOf h (UnitPlan unit) next y = y ≡ Expression.string next (unit ∷ [])
PlanOf h VoidZero next y = y ≡ void_zero next
PlanOf h (Power base (Number exponent)) next y =
    (a : Expression) × (b : Expression) × (y ≡ Expression.binary next Exponentiation a b) × Stands h base (Part.expression a) × Stands h exponent (Part.expression b)
PlanOf h (Power base (Coerced exponent)) next y =
    (a : Expression) × (b : Expression) × (y ≡ Expression.binary (next + 1) Exponentiation a (Expression.unary next Plus b))
    × Stands h base (Part.expression a) × Stands h exponent (Part.expression b)
PlanOf h (ArrayOf arguments) next y = (xs : Arguments) × (y ≡ Expression.array next (elements_of xs)) × ListsArguments h arguments xs
PlanOf h (Merged elements leading) next y =
    (es : Elements) × (xs : Arguments) × (y ≡ Expression.array next (append_elements es (taken xs)))
    × ListsElements h elements es × ListsArguments h leading xs
PlanOf h (ConcatLeft callee elements arguments count) next y =
    (g : Expression) × (es : Elements) × (xs : Arguments)
    × (y ≡ Expression.call (next + 2) (with_object (next + 1) g (Expression.array next (append_elements es (taken xs)))) (left xs))
    × (count ≡ taken_count xs) × NamesMethod h callee g
    × ListsElements h elements es × ListsArguments h arguments xs
PlanOf h (OneCall callee chain) next y =
    (g : Expression) × (x : Expression) × (xss : List Arguments) × (y ≡ Expression.call next g (flat xss))
    × Stands h callee (Part.expression g) × Stands h chain (Part.expression x)
    × (((u : Units) × (chain_of x ≡ Chain.of_string g u xss)) ⊎ (chain_of x ≡ Chain.of_array g xss))
PlanOf h (Joined (One base arguments)) next y =
    (u : Units) × (xs : Arguments) × (y ≡ joined next u xs) × Spells h base u × ListsArguments h arguments xs
PlanOf h (Joined (ChainOf call)) next y =
    (x : Expression) × (g : Expression) × (u : Units) × (xss : List Arguments)
    × (y ≡ joined next u (flat xss)) × Stands h call (Part.expression x) × (chain_of x ≡ Chain.of_string g u xss)

-- The decision is to keep the expression, or to replace it by this one.
abbrev pub DecisionOf : Held → Option Expression → Decision → Type 0
DecisionOf h None Kept = Unit {0}
DecisionOf h None (Rewritten plan) = ⊥
DecisionOf h (Some y) Kept = ⊥
DecisionOf h (Some y) (Rewritten plan) = PlanOf h plan (length h.nodes) y

-- What a rule decides of a number: of whichever expression it stands for.
abbrev pub DecidesOf : Held → ℕ → (Expression → Option Expression) → Decision → Type 0
DecidesOf h n rule decision = (x : Expression) → Stands h n (Part.expression x) → DecisionOf h (rule x) decision

-- An array that is planned takes the entries that the rules count, where the object of the called method is this one:
-- its elements are written, or are arguments that become elements where they stand.
abbrev pub WritesOn : Expression → Decision → Type 0
WritesOn o (Rewritten (ArrayOf arguments)) = (k : Units) (es : Elements) → elements_by (Callee.method o k) es ≡ 0
WritesOn o (Rewritten (Merged elements leading)) = (k : Units) (es : Elements) → elements_by (Callee.method o k) es ≡ element_count es
WritesOn o decision = Unit {0}

abbrev pub WritesAt : Held → (object : ℕ) → Decision → Type 0
WritesAt h n decision = (o : Expression) → Stands h n (Part.expression o) → WritesOn o decision

-- And where the whole call is this expression.
abbrev pub WritesFor : Expression → Decision → Type 0
WritesFor x (Rewritten (ArrayOf arguments)) = (es : Elements) → elements_from x es ≡ 0
WritesFor x (Rewritten (Merged elements leading)) = (es : Elements) → elements_from x es ≡ element_count es
WritesFor x decision = Unit {0}

abbrev pub WritesOf : Held → ℕ → Decision → Type 0
WritesOf h n decision = (x : Expression) → Stands h n (Part.expression x) → WritesFor x decision

-- A plan makes no array.
abbrev pub WritesNone : Plan → Type 0
WritesNone plan = (x : Expression) → WritesFor x (Rewritten plan)
