-- Values. ECMA-262, "ECMAScript Language Types".
use Rattle.std.specs.Prelude.{Bool, List, [], ◌∷◌}
use Rattle.meaning.specs.Expression.{Units}
use Rattle.meaning.specs.Number.{Number}

-- A value that is no object. What BigInts and symbols are is the world's. ECMA-262, "The Undefined Type", "The Null
-- Type", "The Boolean Type", "The Number Type", "The String Type", "The BigInt Type", "The Symbol Type".
pub data Primitive (Big Symbol : Type 0) : Type 0 where
  undefined null : Primitive Big Symbol
  boolean : Bool → Primitive Big Symbol
  number : Number → Primitive Big Symbol
  text : Units → Primitive Big Symbol
  bigint : Big → Primitive Big Symbol
  symbol : Symbol → Primitive Big Symbol

mutual
  -- A value: a primitive; a fresh array, which the expression itself has made and nothing else knows yet; or a foreign
  -- object, which only the world knows. ECMA-262, "The Object Type" and "Array Objects".
  pub data Value (Object Big Symbol : Type 0) : Type 0 where
    primitive : Primitive Big Symbol → Value Object Big Symbol
    array : Slots Object Big Symbol → Value Object Big Symbol
    object : Object → Value Object Big Symbol

  -- The slots of a fresh array, from index 0: each holds a value, or is a hole, where the array has no such property.
  -- ECMA-262, "Array Exotic Objects" and "Array Initializer", Elision.
  pub data Slots (Object Big Symbol : Type 0) : Type 0 where
    no_slots : Slots Object Big Symbol
    hole : Slots Object Big Symbol → Slots Object Big Symbol
    value : Value Object Big Symbol → Slots Object Big Symbol → Slots Object Big Symbol

-- One row of slots behind the other. ECMA-262, "Runtime Semantics: ArrayAccumulation".
unfoldable pub join_slots : {O B Y : Type 0} → Slots O B Y → Slots O B Y → Slots O B Y
join_slots Slots.no_slots ys = ys
join_slots (Slots.hole xs) ys = Slots.hole (join_slots xs ys)
join_slots (Slots.value v xs) ys = Slots.value v (join_slots xs ys)

-- Slots that hold the values of a list, none a hole. ECMA-262, "CreateArrayFromList".
unfoldable pub slots_of : {O B Y : Type 0} → List (Value O B Y) → Slots O B Y
slots_of [] = Slots.no_slots
slots_of (v ∷ vs) = Slots.value v (slots_of vs)

-- A Number or a BigInt. ECMA-262, "Numeric Types".
pub data Numeric (Big : Type 0) : Type 0 where
  number : Number → Numeric Big
  bigint : Big → Numeric Big
