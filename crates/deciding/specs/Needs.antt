-- How much space a plan takes in the stores.
use Rattle.std.specs.Prelude.{◌≡◌, ℕ, List, [], ◌∷◌, length, Some, None, Option}
use Rattle.text.specs.Stored.{stored}
use Rattle.store.specs.declared.stores.Counts.{Counts}
use Rattle.tree.specs.declared.run.Run.{Run}
use Rattle.tree.specs.Heap.{Held}
use Rattle.tree.specs.Limits.{WithinLimits}
use Rattle.meaning.specs.Expression.{Expression, Elements, Arguments, Units}
use Rattle.meaning.specs.Parts.{Part}
use Rattle.rules.specs.Building.{append_elements, flat}
use Rattle.rules.specs.Chain.{Chain, chain_of}
use Rattle.rules.specs.Interleaves.{argument_count}
use Rattle.rules.specs.Space.{element_count, space}
use Rattle.rules.specs.Taking.{Leading, leading, taken}
use Rattle.deciding.specs.declared.plan.Plan.{Plan}
use Rattle.deciding.specs.declared.plan.Decision.TheVariants.{Rewritten}
use Rattle.deciding.specs.Standing.{Stands, ListsElements, ListsArguments, Spells, argument_parts}
use Rattle.deciding.specs.ConcatCalls.{CallsStand}
use Rattle.deciding.specs.Plans.{PlanOf, WritesFor}
use Rattle.deciding.specs.Reached.{nothing_read, with_text, with_parts, needed}

abbrev pub PutsIn : (nodes entries : ℕ) → Counts → Type 0
PutsIn nodes entries need = need ≡ record { nodes = nodes; entries = entries; text = 0 }

abbrev pub StoresUnit : (unit : ℕ) → ℕ → Type 0
StoresUnit unit len = len ≡ length (stored (unit ∷ []))

-- ---- what `concat` on an array literal takes in

-- How many elements an argument gives.
unfoldable pub given_by : Leading → Option ℕ
given_by Leading.literal = Some 1
given_by (Leading.gives es) = Some (element_count es)
given_by Leading.other = None

unfoldable pub given : Part → Option ℕ
given (Part.expression x) = given_by (leading x)
given p = None

abbrev pub GivesOf : Held → ℕ → Option ℕ → Type 0
GivesOf h n result = (p : Part) → Stands h n p → result ≡ given p

abbrev pub MergesTo : Held → (elements arguments : Run ℕ) → ℕ → Type 0
MergesTo h elements arguments len =
    (es : Elements) (xs : Arguments) → ListsElements h elements es → ListsArguments h arguments xs → len ≡ element_count (append_elements es (taken xs))

-- ---- the calls of a chain

-- All arguments of calls.
abbrev pub CountsCalls : List (Run ℕ) → ℕ → Type 0
CountsCalls calls len = (h : Held) (xss : List Arguments) → CallsStand h calls xss → len ≡ argument_count (flat xss)

-- The arguments of each call of a chain. Where there is no chain there are none.
unfoldable pub calls_in : Chain → List Arguments
calls_in (Chain.of_string g u xss) = xss
calls_in (Chain.of_array g xss) = xss
calls_in Chain.none = []

-- And of the chain that ends with a call, if one does.
abbrev pub CountsChain : Held → ℕ → ℕ → Type 0
CountsChain h call len = WithinLimits h → (x : Expression) → Stands h call (Part.expression x) → len ≡ argument_count (flat (calls_in (chain_of x)))

-- The text of the string that a static member is of.
abbrev pub BaseIs : Held → Units → Option (Run ℕ) → Type 0
BaseIs h u None = ⊥
BaseIs h u (Some r) = Spells h r u

abbrev pub BasedOn : Held → ℕ → Option (Run ℕ) → Type 0
BasedOn h callee result = (m l : ℕ) (u k : Units) → Stands h callee (Part.expression (Expression.static_member m (Expression.string l u) k)) → BaseIs h u result

-- What a text and the arguments behind it take as a template, or as a string.
abbrev pub joined_need : Units → Arguments → Counts
joined_need u xs = needed (with_parts (with_text nothing_read u) (argument_parts xs))

abbrev pub JoinsTo : Held → Run ℕ → List (Run ℕ) → Counts → Type 0
JoinsTo h base calls need = WithinLimits h → (u : Units) (xss : List Arguments) → Spells h base u → CallsStand h calls xss → need ≡ joined_need u (flat xss)

abbrev pub JoinsChain : Held → ℕ → Counts → Type 0
JoinsChain h call need =
    WithinLimits h → (x g : Expression) (u : Units) (xss : List Arguments) → Stands h call (Part.expression x) → chain_of x ≡ Chain.of_string g u xss → need ≡ joined_need u (flat xss)

-- ---- a plan

-- It is the space that the rules say, for each expression that the plan is for, and each that it replaces.
abbrev pub NeedOf : Held → Plan → Counts → Type 0
NeedOf h plan need = WithinLimits h → (x y : Expression) → PlanOf h plan (length h.nodes) y → WritesFor x (Rewritten plan) → need ≡ space (length h.nodes) x y
