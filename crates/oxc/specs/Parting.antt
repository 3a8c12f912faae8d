-- Where the Rust and ECMA-262 part: an argument of a later call changes what `Array.prototype.concat` reads of an
-- earlier one.
use Rattle.std.specs.Prelude.{◌≡◌, ℕ, true, List, [], ◌∷◌, Some, None, codes}
use Rattle.meaning.specs.Expression.{Expression, Elements, Arguments}
use Rattle.meaning.specs.Value.{Value, Slots}
use Rattle.meaning.specs.World.{World, Result, Ending, text_value}
use Rattle.meaning.specs.Methods.{array_concat_result}
use Rattle.meaning.specs.Runs.{Runs}
use Rattle.meaning.specs.Premises.{Premises}
use Rattle.meaning.specs.PlainWorld.{Thing, PlainValue, PlainSlots, methods_world, plain, applied}
use Rattle.host.specs.Silent.{silent_answers}
use Rattle.rules.specs.Places.{Settings, Role}
use Rattle.rules.specs.Deciding.{decided}
use Rattle.rules.specs.Chain.{chain_rule}
use Rattle.oxc.specs.Functions.{Made, replace_concat_chain}

-- One slot, with a text of one unit, which is the state: it counts the names that were read.
abbrev pub counted : ℕ → PlainSlots
counted s = Slots.value (text_value plain (s ∷ [])) Slots.no_slots

-- The plain world, but that `concat` spreads each object, and reads of it how many names were read. ECMA-262,
-- "IsConcatSpreadable" and "Array.prototype.concat", of an object whose element 0 is got by a function.
abbrev pub counting_world : World
counting_world = record methods_world { spread_out = λ o s. Result.gives (Some (counted s)) }

abbrev pub counting_applied : PlainValue → PlainValue → List PlainValue → ℕ → Result PlainValue
counting_applied (Value.object Thing.array_concat) (Value.array xs) vs s = array_concat_result counting_world xs vs s
counting_applied f o vs s = applied f o vs s

abbrev pub counting : World
counting = record counting_world { get = plain.get; apply = λ f o vs s. Ending.ends (counting_applied f o vs s) s }

-- The names x and y, [].concat(x).concat(y), and [].concat(x, y).
abbrev pub x_name : Expression
x_name = Expression.name 1 (codes "x")

abbrev pub y_name : Expression
y_name = Expression.name 2 (codes "y")

abbrev pub concat : Expression → Arguments → Expression
concat o xs = Expression.call 3 (Expression.static_member 4 o (codes "concat")) xs

abbrev pub empty_array : Expression
empty_array = Expression.array 5 Elements.no_elements

abbrev pub two_calls : Expression
two_calls = concat (concat empty_array (Arguments.argument x_name Arguments.no_arguments)) (Arguments.argument y_name Arguments.no_arguments)

abbrev pub one_call : Expression
one_call = concat empty_array (Arguments.argument x_name (Arguments.argument y_name Arguments.no_arguments))

-- The array of two texts with one unit each.
abbrev pub two_texts : ℕ → ℕ → PlainValue
two_texts a b = Value.array (Slots.value (text_value plain (a ∷ [])) (counted b))

abbrev pub both : Settings
both = record { templates = true; power = true }

-- In a world that meets the premises, two calls read x when one name was read, and y when two were; one call reads both
-- when two were. `replace_concat_chain` makes one call of the two, whatever a host says. The rule keeps them, and so
-- the transcription has no answer.
pub record TheRustPartsFromTheStandard : Type 0 where
  pub premises : Premises counting
  pub two_calls_run : Runs counting two_calls 0 (Result.gives (two_texts 1 2)) 2
  pub one_call_runs : Runs counting one_call 0 (Result.gives (two_texts 2 2)) 2
  pub kept : decided silent_answers (chain_rule both 6 Role.ordinary two_calls) ≡ None
  pub no_answer : replace_concat_chain both Role.ordinary silent_answers two_calls ≡ Made.no_answer
