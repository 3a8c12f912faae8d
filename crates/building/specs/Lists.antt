-- Lists that are written.
use Rattle.std.specs.Prelude.{◌≡◌, ℕ, ◌+◌, ◌-◌, ◌^◌, ◌<◌, ◌≤◌, Bool, true, false, List, length, Some, None, Option, Ok, Err, Result}
use Rattle.base.specs.declared.fault.Fault.{Fault}
use Rattle.store.specs.declared.stores.Stores.{Stores}
use Rattle.store.specs.Held.{held, room}
use Rattle.store.specs.Stores.{held_of}
use Rattle.tree.specs.declared.node.Node.{Node}
use Rattle.tree.specs.declared.node.Node.TheVariants.{String, Number, Boolean, Null}
use Rattle.tree.specs.declared.run.Run.{Run}
use Rattle.tree.specs.Heap.{within, entries_at}
use Rattle.meaning.specs.Expression.{Expression, Elements, Arguments}
use Rattle.meaning.specs.Parts.{Part}
use Rattle.rules.specs.Building.{append_elements, flat}
use Rattle.rules.specs.Taking.{Leading, leading, taken}
use Rattle.deciding.specs.Standing.{Stands, AllStand, ListsElements, ListsArguments, element_parts, argument_parts}
use Rattle.deciding.specs.ConcatCalls.{CallsStand}
use Rattle.building.specs.Growing.{GrowsBy, Takes, some_entries}

-- The numbers of these parts stand behind what the list store held.
pub record Lists (old : Stores) (ps : List Part) (new : Stores) : Type 0 where
  pub numbers : List ℕ
  pub grew : GrowsBy old (some_entries numbers) new
  pub stand : AllStand (held_of new) numbers ps

abbrev pub NoRoom : Stores → List Part → Type 0
NoRoom s ps = Takes (length (held s.entries)) (length ps) (room s.entries) → ⊥

-- They are appended, or there is no room for them.
abbrev pub Appends : (old : Stores) (ps : List Part) (new : Stores) → Result (Unit {0}) Fault → Type 0
Appends old ps new (Ok u) = Lists old ps new
Appends old ps new (Err e) = NoRoom old ps

-- They are appended, and this piece of the store has them; or there is no room for them.
pub record ListedAt (old : Stores) (ps : List Part) (new : Stores) (r : Run ℕ) : Type 0 where
  pub lists : Lists old ps new
  pub start : r.start ≡ length (held old.entries)
  pub len : r.len ≡ length lists.numbers

abbrev pub Writes : (old : Stores) (ps : List Part) (new : Stores) → Result (Run ℕ) Fault → Type 0
Writes old ps new (Ok r) = ListedAt old ps new r
Writes old ps new (Err e) = NoRoom old ps

-- A list of the store is appended to it once more.
abbrev pub AppendsList : (old : Stores) → Run ℕ → (new : Stores) → Result (Unit {0}) Fault → Type 0
AppendsList old list new result =
    (ps : List Part) → within (held old.entries) list.start list.len ≡ true → AllStand (held_of old) (entries_at (held old.entries) list) ps → Appends old ps new result

-- A literal that is no array literal.
abbrev pub is_literal : Node → Bool
is_literal (String t) = true
is_literal (Number bits) = true
is_literal (Boolean b) = true
is_literal Null = true
is_literal r = false

-- The elements that `concat` on an array literal takes in of one argument, if it takes it in.
abbrev pub given_by : Expression → Leading → Option Elements
given_by x Leading.literal = Some (Elements.item x Elements.no_elements)
given_by x (Leading.gives es) = Some es
given_by x Leading.other = None

abbrev pub given : Part → Option Elements
given (Part.expression x) = given_by x (leading x)
given (Part.hole l) = None
given (Part.spread l x) = None
given (Part.quasi q) = None

-- They are appended; or there are none, and nothing is.
abbrev pub TakesIn : (old : Stores) → Option Elements → (new : Stores) → Result Bool Fault → Type 0
TakesIn old None new (Ok true) = ⊥
TakesIn old None new (Ok false) = new ≡ old
TakesIn old None new (Err e) = ⊥
TakesIn old (Some es) new (Ok true) = Lists old (element_parts es) new
TakesIn old (Some es) new (Ok false) = ⊥
TakesIn old (Some es) new (Err e) = NoRoom old (element_parts es)

abbrev pub TakesInArgument : (old : Stores) → ℕ → (new : Stores) → Result Bool Fault → Type 0
TakesInArgument old n new result = (p : Part) → Stands (held_of old) n p → TakesIn old (given p) new result

-- What it takes in of all arguments.
abbrev pub TakesInAll : (old : Stores) → Run ℕ → (new : Stores) → Result (Unit {0}) Fault → Type 0
TakesInAll old arguments new result = (xs : Arguments) → ListsArguments (held_of old) arguments xs → Appends old (element_parts (taken xs)) new result

-- The elements of an array, and behind them what it takes in.
abbrev pub WritesElements : (old : Stores) (elements arguments : Run ℕ) (new : Stores) → Result (Run ℕ) Fault → Type 0
WritesElements old elements arguments new result =
    (es : Elements) (xs : Arguments) → ListsElements (held_of old) elements es → ListsArguments (held_of old) arguments xs
    → Writes old (element_parts (append_elements es (taken xs))) new result

-- The arguments of all calls of a chain.
abbrev pub WritesArguments : (old : Stores) → List (Run ℕ) → (new : Stores) → Result (Run ℕ) Fault → Type 0
WritesArguments old calls new result = (xss : List Arguments) → CallsStand (held_of old) calls xss → Writes old (argument_parts (flat xss)) new result

-- The piece of a list behind so many entries, where it has as many, and begins at a number of 32 bits.
abbrev pub LiesBehind : Run ℕ → ℕ → Option (Run ℕ) → Type 0
LiesBehind list count None = count ≤ list.len → list.start + count < 2 ^ 32 → ⊥
LiesBehind list count (Some r) = (r.start ≡ list.start + count) × (r.len ≡ list.len - count)
