-- The methods that are known, and reading texts and fresh arrays at an index.
use Rattle.std.specs.Prelude.{ℕ, zero, suc, List, [], ◌∷◌, ◌++◌, Some, None, codes, Option}
use Rattle.tree.specs.declared.node.BinaryOperator.TheVariants.{Exponentiation}
use Rattle.meaning.specs.Expression.{Units}
use Rattle.meaning.specs.Value.{Primitive, Value, Slots, join_slots, slots_of}
use Rattle.meaning.specs.World.{World, ValueIn, SlotsIn, Result, ◌>>=◌, text_value, number_value, undefined_value}
use Rattle.meaning.specs.Coercion.{to_text, to_number}

-- The names of the known methods, and of the global objects that have two of them. ECMA-262, "String.prototype.concat",
-- "Array.prototype.concat", "Math.pow", "Array.of".
unfoldable pub concat_name : Units
concat_name = codes "concat"

unfoldable pub pow_name : Units
pow_name = codes "pow"

unfoldable pub of_name : Units
of_name = codes "of"

unfoldable pub math_name : Units
math_name = codes "Math"

unfoldable pub array_name : Units
array_name = codes "Array"

module _ (w : World) where
  -- A value other than undefined and null, at which it throws. ECMA-262, "RequireObjectCoercible".
  unfoldable pub coercible : ValueIn w → Result (ValueIn w)
  coercible (Value.primitive Primitive.undefined) = Result.throws
  coercible (Value.primitive Primitive.null) = Result.throws
  coercible (Value.primitive (Primitive.boolean b)) = Result.gives (Value.primitive (Primitive.boolean b))
  coercible (Value.primitive (Primitive.number x)) = Result.gives (Value.primitive (Primitive.number x))
  coercible (Value.primitive (Primitive.text u)) = Result.gives (Value.primitive (Primitive.text u))
  coercible (Value.primitive (Primitive.bigint b)) = Result.gives (Value.primitive (Primitive.bigint b))
  coercible (Value.primitive (Primitive.symbol y)) = Result.gives (Value.primitive (Primitive.symbol y))
  coercible (Value.array xs) = Result.gives (Value.array xs)
  coercible (Value.object o) = Result.gives (Value.object o)

  -- A text, and behind it the text of each value, made in order. ECMA-262, "String.prototype.concat", its loop.
  unfoldable pub texts_joined : Units → List (ValueIn w) → w.State → Result Units
  texts_joined u [] s = Result.gives u
  texts_joined u (v ∷ vs) s = to_text w v s >>= λ x. texts_joined (u ++ x) vs s

  -- ECMA-262, "String.prototype.concat", of a receiver and arguments.
  unfoldable pub text_concat_result : (receiver : ValueIn w) → List (ValueIn w) → w.State → Result (ValueIn w)
  text_concat_result v vs s = coercible v >>= λ o. to_text w o s >>= λ u. texts_joined u vs s >>= λ x. Result.gives (text_value w x)

  -- What an object adds, which is its slots where it is spread, and else itself. ECMA-262, "Array.prototype.concat",
  -- its loop.
  unfoldable pub slots_added : ValueIn w → Option (SlotsIn w) → SlotsIn w
  slots_added v None = Slots.value v Slots.no_slots
  slots_added v (Some xs) = xs

  -- What one value adds: a fresh array is spread, holes included, a primitive value never is, and of an object the
  -- world says it. ECMA-262, "IsConcatSpreadable" and "Array.prototype.concat".
  unfoldable pub spread_slots : ValueIn w → w.State → Result (SlotsIn w)
  spread_slots (Value.primitive p) s = Result.gives (Slots.value (Value.primitive p) Slots.no_slots)
  spread_slots (Value.array xs) s = Result.gives xs
  spread_slots (Value.object o) s = w.spread_out o s >>= λ x. Result.gives (slots_added (Value.object o) x)

  -- Slots, and behind them what each value adds, in order. ECMA-262, "Array.prototype.concat", its loop.
  unfoldable pub slots_joined : SlotsIn w → List (ValueIn w) → w.State → Result (SlotsIn w)
  slots_joined xs [] s = Result.gives xs
  slots_joined xs (v ∷ vs) s = spread_slots v s >>= λ ys. slots_joined (join_slots xs ys) vs s

  -- ECMA-262, "Array.prototype.concat", of a fresh array and arguments.
  unfoldable pub array_concat_result : (receiver : SlotsIn w) → List (ValueIn w) → w.State → Result (ValueIn w)
  array_concat_result xs vs s = slots_joined xs vs s >>= λ ys. Result.gives (Value.array ys)

  -- ECMA-262, "Math.pow", of two arguments.
  unfoldable pub pow_result : (base exponent : ValueIn w) → w.State → Result (ValueIn w)
  pow_result a b s = to_number w a s >>= λ x. to_number w b s >>= λ y. Result.gives (number_value w (w.arith Exponentiation x y))

  -- ECMA-262, "Array.of", of the receiver Array and arguments.
  unfoldable pub array_of_result : List (ValueIn w) → ValueIn w
  array_of_result vs = Value.array (slots_of vs)

  -- The text of the one unit at an index, or undefined past the end. ECMA-262, "String Exotic Objects",
  -- "StringGetOwnProperty".
  unfoldable pub unit_at : Units → ℕ → ValueIn w
  unit_at [] k = undefined_value w
  unit_at (u ∷ us) zero = text_value w (u ∷ [])
  unit_at (u ∷ us) (suc k) = unit_at us k

  -- What a slot holds, or undefined at a hole and past the end. ECMA-262, "Array Exotic Objects" and "OrdinaryGet".
  unfoldable pub slot_at : SlotsIn w → ℕ → ValueIn w
  slot_at Slots.no_slots k = undefined_value w
  slot_at (Slots.hole xs) zero = undefined_value w
  slot_at (Slots.value v xs) zero = v
  slot_at (Slots.hole xs) (suc k) = slot_at xs k
  slot_at (Slots.value v xs) (suc k) = slot_at xs k
