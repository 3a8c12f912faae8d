-- Coercions and operators.
use Rattle.std.specs.Prelude.{true, false, codes}
use Rattle.tree.specs.declared.node.UnaryOperator.{UnaryOperator}
use Rattle.tree.specs.declared.node.UnaryOperator.TheVariants.{Plus, Minus, Void}
use Rattle.tree.specs.declared.node.BinaryOperator.{BinaryOperator}
use Rattle.meaning.specs.Expression.{Units}
use Rattle.meaning.specs.Number.{Number, positive_zero, one, negative}
use Rattle.meaning.specs.Value.{Primitive, Value, Numeric}
use Rattle.meaning.specs.World.{World, ValueIn, PrimitiveIn, Result, Hint, ◌>>=◌, number_value, undefined_value}

module _ (w : World) where
  -- A primitive value is its own primitive; of an array or an object the world makes one. ECMA-262, "ToPrimitive".
  unfoldable pub to_primitive : Hint → ValueIn w → w.State → Result (PrimitiveIn w)
  to_primitive h (Value.primitive p) s = Result.gives p
  to_primitive h (Value.array xs) s = w.primitive (Value.array xs) h s
  to_primitive h (Value.object o) s = w.primitive (Value.object o) h s

  -- The text of a primitive value. ECMA-262, "ToString", of a value that is no object.
  unfoldable pub primitive_text : PrimitiveIn w → Result Units
  primitive_text Primitive.undefined = Result.gives (codes "undefined")
  primitive_text Primitive.null = Result.gives (codes "null")
  primitive_text (Primitive.boolean true) = Result.gives (codes "true")
  primitive_text (Primitive.boolean false) = Result.gives (codes "false")
  primitive_text (Primitive.number x) = Result.gives (w.number_text x)
  primitive_text (Primitive.text u) = Result.gives u
  primitive_text (Primitive.bigint b) = Result.gives (w.big_text b)
  primitive_text (Primitive.symbol y) = Result.throws

  -- The text of a value. ECMA-262, "ToString".
  unfoldable pub to_text : ValueIn w → w.State → Result Units
  to_text v s = to_primitive Hint.for_text v s >>= primitive_text

  -- The Number or BigInt of a primitive value. ECMA-262, "ToNumeric" and "ToNumber", of a value that is no object.
  unfoldable pub primitive_numeric : PrimitiveIn w → Result (Numeric w.Big)
  primitive_numeric Primitive.undefined = Result.gives (Numeric.number Number.nan)
  primitive_numeric Primitive.null = Result.gives (Numeric.number positive_zero)
  primitive_numeric (Primitive.boolean true) = Result.gives (Numeric.number one)
  primitive_numeric (Primitive.boolean false) = Result.gives (Numeric.number positive_zero)
  primitive_numeric (Primitive.number x) = Result.gives (Numeric.number x)
  primitive_numeric (Primitive.text u) = Result.gives (Numeric.number (w.text_number u))
  primitive_numeric (Primitive.bigint b) = Result.gives (Numeric.bigint b)
  primitive_numeric (Primitive.symbol y) = Result.throws

  -- The Number or BigInt of a value. ECMA-262, "ToNumeric".
  unfoldable pub to_numeric : ValueIn w → w.State → Result (Numeric w.Big)
  to_numeric v s = to_primitive Hint.for_number v s >>= primitive_numeric

  -- A BigInt is no Number, and asking for one throws. ECMA-262, "ToNumber".
  unfoldable pub only_number : Numeric w.Big → Result Number
  only_number (Numeric.number x) = Result.gives x
  only_number (Numeric.bigint b) = Result.throws

  -- The Number of a value. ECMA-262, "ToNumber".
  unfoldable pub to_number : ValueIn w → w.State → Result Number
  to_number v s = to_numeric v s >>= only_number

  -- A Number or BigInt as a value. ECMA-262, "Numeric Types".
  unfoldable pub numeric_value : Numeric w.Big → ValueIn w
  numeric_value (Numeric.number x) = number_value w x
  numeric_value (Numeric.bigint b) = Value.primitive (Primitive.bigint b)

  -- The negative of a Number or BigInt. ECMA-262, "Number::unaryMinus" and "BigInt::unaryMinus".
  unfoldable pub negative_numeric : Numeric w.Big → Numeric w.Big
  negative_numeric (Numeric.number x) = Numeric.number (negative x)
  negative_numeric (Numeric.bigint b) = Numeric.bigint (w.big_minus b)

  -- The result of a unary operator. ECMA-262, "Unary + Operator", "Unary - Operator" and "The void Operator".
  unfoldable pub unary_result : UnaryOperator → ValueIn w → w.State → Result (ValueIn w)
  unary_result Plus v s = to_number v s >>= λ x. Result.gives (number_value w x)
  unary_result Minus v s = to_numeric v s >>= λ x. Result.gives (numeric_value (negative_numeric x))
  unary_result Void v s = Result.gives (undefined_value w)

  -- A binary operator takes two Numbers or two BigInts, and throws at one of each. ECMA-262,
  -- "ApplyStringOrNumericBinaryOperator", from where both operands are numeric.
  unfoldable pub numeric_result : BinaryOperator → Numeric w.Big → Numeric w.Big → Result (ValueIn w)
  numeric_result o (Numeric.number x) (Numeric.number y) = Result.gives (number_value w (w.arith o x y))
  numeric_result o (Numeric.number x) (Numeric.bigint c) = Result.throws
  numeric_result o (Numeric.bigint b) (Numeric.number y) = Result.throws
  numeric_result o (Numeric.bigint b) (Numeric.bigint c) = w.big_binary o b c >>= λ d. Result.gives (Value.primitive (Primitive.bigint d))

  -- The result of a binary operator: the left operand is coerced, then the right one. ECMA-262,
  -- "ApplyStringOrNumericBinaryOperator".
  unfoldable pub binary_result : BinaryOperator → (left right : ValueIn w) → w.State → Result (ValueIn w)
  binary_result o a b s = to_numeric a s >>= λ x. to_numeric b s >>= λ y. numeric_result o x y
