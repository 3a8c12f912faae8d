-- What the calls of a chain become.
use Rattle.std.specs.Prelude.{◌≡◌, ℕ, ◌+◌, ◌-◌, ◌*◌, Bool, ◌&&◌, List, Some, None, Option, nat_le}
use Rattle.tree.specs.declared.run.Run.{Run}
use Rattle.tree.specs.Heap.{Held}
use Rattle.meaning.specs.Expression.{Expression, Arguments, Units}
use Rattle.host.specs.Answers.{Answers}
use Rattle.rules.specs.Places.{Settings}
use Rattle.rules.specs.Deciding.{decided}
use Rattle.rules.specs.Building.{joined, flat}
use Rattle.rules.specs.Chain.{string_chain}
use Rattle.deciding.specs.declared.chain_arguments.ArgumentCounts.{ArgumentCounts}
use Rattle.deciding.specs.declared.chain_joining.Joined.{Joined}
use Rattle.deciding.specs.declared.chain_joining.Joined.TheVariants.{Template, OneCall}
use Rattle.deciding.specs.ConcatCalls.{CallsStand}

-- A template is supported, and short against that many calls.
abbrev pub prefers : Settings → ArgumentCounts → ℕ → Bool
prefers s c calls = s.templates && nat_le (3 * c.expressions) (9 * calls + c.arguments + 2 * (c.arguments - c.expressions))

-- The expression that takes the chain's place.
abbrev pub joined_to : (next : ℕ) → (callee : Expression) → (base : Units) → List Arguments → Option Joined → Option Expression
joined_to next f u xss None = None
joined_to next f u xss (Some Template) = Some (joined next u (flat xss))
joined_to next f u xss (Some OneCall) = Some (Expression.call next f (flat xss))

-- The calls of a string.
abbrev pub JoinsString : Answers → Held → Settings → List (Run ℕ) → Option Joined → Type 0
JoinsString a h s runs result =
    (next : ℕ) (f : Expression) (u : Units) (xss : List Arguments) → CallsStand h runs xss
    → decided a (string_chain s next f u xss) ≡ joined_to next f u xss result
