-- A world in which the hypotheses of the laws are met.
use Rattle.meaning.specs.Value.{Value}
use Rattle.meaning.specs.World.{World, Result, Ending}
use Rattle.meaning.specs.PlainWorld.{Thing, plain}

-- The plain world, but that no state counts the names that are read: each reads as the language's own, and changes
-- nothing. ECMA-262, "The Global Object".
abbrev pub quiet : World
quiet = record plain { read = λ u s. Ending.ends (Result.gives (Value.object Thing.global)) s }
