-- What the laws of rewriting will ask of a world: it finds and applies the known methods, and reads texts and fresh
-- arrays at an index, as ECMA-262 says, and that changes no state. (Operators, coercions and the order of all are the
-- run's own definitions.)
use Rattle.std.specs.Prelude.{◌≡◌, ℕ, ◌^◌, ◌<◌, List, [], ◌∷◌, Some}
use Rattle.meaning.specs.Expression.{Units}
use Rattle.meaning.specs.Number.{Number, whole}
use Rattle.meaning.specs.Value.{Value}
use Rattle.meaning.specs.World.{World, ValueIn, SlotsIn, Result, Ending, text_value, number_value}
use Rattle.meaning.specs.Methods.{concat_name, pow_name, of_name, math_name, array_name, text_concat_result, array_concat_result, pow_result, array_of_result, unit_at, slot_at}

pub record Premises (w : World) : Type 0 where
  -- the property concat of a text: ECMA-262, "Properties of the String Prototype Object"
  pub finds_text_concat : (u : Units) (s : w.State)
      → w.get (text_value w u) (text_value w concat_name) s ≡ Ending.ends (Result.gives (Value.object w.text_concat)) s
  -- ECMA-262, "String.prototype.concat", of any receiver and arguments
  pub applies_text_concat : (v : ValueIn w) (vs : List (ValueIn w)) (s : w.State)
      → w.apply (Value.object w.text_concat) v vs s ≡ Ending.ends (text_concat_result w v vs s) s
  -- the property concat of a fresh array: ECMA-262, "Properties of the Array Prototype Object"
  pub finds_array_concat : (xs : SlotsIn w) (s : w.State)
      → w.get (Value.array xs) (text_value w concat_name) s ≡ Ending.ends (Result.gives (Value.object w.array_concat)) s
  -- ECMA-262, "Array.prototype.concat", of a fresh array and any arguments
  pub applies_array_concat : (xs : SlotsIn w) (vs : List (ValueIn w)) (s : w.State)
      → w.apply (Value.object w.array_concat) (Value.array xs) vs s ≡ Ending.ends (array_concat_result w xs vs s) s
  -- the property pow of the language's own Math: ECMA-262, "Function Properties of the Math Object"
  pub finds_pow : (s : w.State)
      → w.get (w.own math_name) (text_value w pow_name) s ≡ Ending.ends (Result.gives (Value.object w.pow)) s
  -- ECMA-262, "Math.pow", of any receiver and two arguments
  pub applies_pow : (v a b : ValueIn w) (s : w.State)
      → w.apply (Value.object w.pow) v (a ∷ b ∷ []) s ≡ Ending.ends (pow_result w a b s) s
  -- the property of of the language's own Array: ECMA-262, "Properties of the Array Constructor"
  pub finds_array_of : (s : w.State)
      → w.get (w.own array_name) (text_value w of_name) s ≡ Ending.ends (Result.gives (Value.object w.array_of)) s
  -- ECMA-262, "Array.of", of the receiver Array and any arguments
  pub applies_array_of : (vs : List (ValueIn w)) (s : w.State)
      → w.apply (Value.object w.array_of) (w.own array_name) vs s ≡ Ending.ends (Result.gives (array_of_result w vs)) s
  -- a text at a whole number that 32 bits hold: ECMA-262, "String Exotic Objects", [[GetOwnProperty]]
  pub reads_text_at_index : (u : Units) (x : Number) (k : ℕ) → whole x ≡ Some k → k < 2 ^ 32 → (s : w.State)
      → w.get (text_value w u) (number_value w x) s ≡ Ending.ends (Result.gives (unit_at w u k)) s
  -- a fresh array at a whole number that 32 bits hold: ECMA-262, "Array Exotic Objects", and "OrdinaryGet"
  pub reads_array_at_index : (xs : SlotsIn w) (x : Number) (k : ℕ) → whole x ≡ Some k → k < 2 ^ 32 → (s : w.State)
      → w.get (Value.array xs) (number_value w x) s ≡ Ending.ends (Result.gives (slot_at w xs k)) s
