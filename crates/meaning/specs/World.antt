-- Worlds: all that an expression's run depends on besides the expression.
use Rattle.std.specs.Prelude.{ℕ, List, Option}
use Rattle.tree.specs.declared.node.BinaryOperator.{BinaryOperator}
use Rattle.meaning.specs.Expression.{Units}
use Rattle.meaning.specs.Number.{Number}
use Rattle.meaning.specs.Value.{Primitive, Value, Slots}

infixr 20 ◌>>=◌
-- A value, or a throw, which carries nothing. ECMA-262, "The Completion Record Specification Type".
pub data Result (A : Type 0) : Type 0 where
  gives : A → Result A
  throws : Result A

-- The first, and with its value the second; a throw of the first is the throw of both. ECMA-262, "ReturnIfAbrupt".
unfoldable pub ◌>>=◌ : {A B : Type 0} → Result A → (A → Result B) → Result B
◌>>=◌ (Result.gives a) k = k a
◌>>=◌ Result.throws k = Result.throws

-- How a call of the world ends, and in which state; or that it never ends. ECMA-262, "The Completion Record
-- Specification Type".
pub data Ending (State A : Type 0) : Type 0 where
  never : Ending State A
  ends : Result A → State → Ending State A

-- What an opaque expression has seen of a child: its value, a throw, or, of a member that is taken as a reference,
-- object and key. ECMA-262, "The Completion Record Specification Type" and "The Reference Record Specification Type".
pub data Outcome (V : Type 0) : Type 0 where
  gave : V → Outcome V
  threw : Outcome V
  refers : (object key : V) → Outcome V

-- What an opaque expression does next: it runs a child, by its index from 0 and from a state, or it ends, or never
-- does. ECMA-262, "Runtime Semantics: Evaluation" of any other expression.
pub data Next (State V : Type 0) : Type 0 where
  runs : (child : ℕ) → State → Next State V
  stops : Ending State V → Next State V

-- The preferred type. ECMA-262, "ToPrimitive".
pub data Hint : Type 0 where
  for_number for_text : Hint

-- A world. State is everything that a run can change. The five functions that come first may change the state, may
-- throw and may never end. `primitive` and `spread_out` may throw, and end, and change no state: the objects that reach
-- a payoff are converted by code that does no more than that. The others are functions of the language.
pub record World : Type 1 where
  pub State : Type 0
  pub Object : Type 0
  pub Big : Type 0
  pub Symbol : Type 0
  -- the value of a name: ECMA-262, "ResolveBinding" and "GetValue"
  pub read : Units → State → Ending State (Value Object Big Symbol)
  -- the value of an object's property, by object and key: ECMA-262, "GetValue" of a property reference, with
  -- "ToObject", "ToPropertyKey" and [[Get]]
  pub get : (object key : Value Object Big Symbol) → State → Ending State (Value Object Big Symbol)
  -- a function applied to a receiver and arguments: ECMA-262, "EvaluateCall" from IsCallable on, and "Call"
  pub apply : (function receiver : Value Object Big Symbol) → List (Value Object Big Symbol) → State → Ending State (Value Object Big Symbol)
  -- the values of a spread: ECMA-262, "GetIterator", and "IteratorStepValue" until it is done
  pub iterate : Value Object Big Symbol → State → Ending State (List (Value Object Big Symbol))
  -- the next step of an opaque expression, by its mark and the outcomes so far, the first one first
  pub next : (mark : ℕ) → List (Outcome (Value Object Big Symbol)) → State → Next State (Value Object Big Symbol)
  -- the primitive value of a fresh array or a foreign object: ECMA-262, "ToPrimitive"
  pub primitive : Value Object Big Symbol → Hint → State → Result (Primitive Big Symbol)
  -- the slots of a foreign object that Array.prototype.concat spreads, or none where it is not spread: ECMA-262,
  -- "IsConcatSpreadable"
  pub spread_out : Object → State → Result (Option (Slots Object Big Symbol))
  -- ECMA-262, "BigInt::exponentiate", "BigInt::subtract" and "BigInt::divide", of which the first and last may throw
  pub big_binary : BinaryOperator → Big → Big → Result Big
  -- ECMA-262, "BigInt::unaryMinus"
  pub big_minus : Big → Big
  -- ECMA-262, "Number::exponentiate", "Number::subtract" and "Number::divide"
  pub arith : BinaryOperator → Number → Number → Number
  -- ECMA-262, "Number::toString" with radix 10
  pub number_text : Number → Units
  -- ECMA-262, "BigInt::toString" with radix 10
  pub big_text : Big → Units
  -- ECMA-262, "StringToNumber"
  pub text_number : Units → Number
  -- the language's own value of a global name: ECMA-262, "The Global Object"
  pub own : Units → Value Object Big Symbol
  -- the function objects Math.pow, Array.of, String.prototype.concat and Array.prototype.concat
  pub pow : Object
  pub array_of : Object
  pub text_concat : Object
  pub array_concat : Object

-- The values, the primitive values and the slots of a world. ECMA-262, "ECMAScript Language Types".
abbrev pub ValueIn : World → Type 0
ValueIn w = Value w.Object w.Big w.Symbol

abbrev pub PrimitiveIn : World → Type 0
PrimitiveIn w = Primitive w.Big w.Symbol

abbrev pub SlotsIn : World → Type 0
SlotsIn w = Slots w.Object w.Big w.Symbol

-- A text, a number and undefined as values. ECMA-262, "The String Type", "The Number Type", "The Undefined Type".
abbrev pub text_value : (w : World) → Units → ValueIn w
text_value w u = Value.primitive (Primitive.text u)

abbrev pub number_value : (w : World) → Number → ValueIn w
number_value w x = Value.primitive (Primitive.number x)

abbrev pub undefined_value : (w : World) → ValueIn w
undefined_value w = Value.primitive Primitive.undefined
