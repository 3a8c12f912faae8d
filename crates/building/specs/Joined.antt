-- Texts and calls that are joined.
use Rattle.std.specs.Prelude.{ℕ, List, length, Some, None, Option, Result}
use Rattle.base.specs.declared.fault.Fault.{Fault}
use Rattle.tree.specs.declared.run.Run.{Run}
use Rattle.tree.specs.Heap.{Held}
use Rattle.store.specs.declared.stores.Stores.{Stores}
use Rattle.store.specs.Held.{held}
use Rattle.store.specs.Stores.{held_of}
use Rattle.meaning.specs.Expression.{Expression, Arguments, Units}
use Rattle.meaning.specs.Parts.{Part}
use Rattle.rules.specs.Building.{pieces_of, joined, flat}
use Rattle.deciding.specs.Standing.{Stands, Spells}
use Rattle.deciding.specs.ConcatCalls.{CallsStand}
use Rattle.building.specs.Growing.{HasRoom}
use Rattle.building.specs.Builds.{Built}
use Rattle.building.specs.Templates.{need}

-- Where a static member of a string stands, the string's text.
abbrev pub TextOrNone : Held → Units → Option (Run ℕ) → Type 0
TextOrNone h u None = ⊥
TextOrNone h u (Some r) = Spells h r u

abbrev pub BaseOf : Held → ℕ → Option (Run ℕ) → Type 0
BaseOf h n result = (m l : ℕ) (u k : Units) → Stands h n (Part.expression (Expression.static_member m (Expression.string l u) k)) → TextOrNone h u result

-- The arguments of the calls are joined to the base text.
abbrev pub JoinsCalls : (old : Stores) (base : Run ℕ) (calls : List (Run ℕ)) (new : Stores) → Result ℕ Fault → Type 0
JoinsCalls old base calls new r =
    (u : Units) (xss : List Arguments) → Spells (held_of old) base u → CallsStand (held_of old) calls xss
    → HasRoom old (need (length (held old.nodes)) (pieces_of (length (held old.nodes)) u (flat xss)))
    → Built old (joined (length (held old.nodes)) u (flat xss)) (need (length (held old.nodes)) (pieces_of (length (held old.nodes)) u (flat xss))) new r
