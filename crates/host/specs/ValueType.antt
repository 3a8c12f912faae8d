-- The types, and their numbers in a row.
use Rattle.std.specs.Prelude.{List, [], ◌∷◌}
use Rattle.host.specs.declared.value_type.ValueType.{ValueType}
use Rattle.host.specs.declared.value_type.ValueType.TheVariants.{Undetermined, Undefined, Null, Number, BigInt, String, Boolean, Object}

-- The types in the order of their numbers, from 0 on. ECMA-262, "ECMAScript Language Types", without symbols.
abbrev pub types : List ValueType
types = Undetermined ∷ Undefined ∷ Null ∷ Number ∷ BigInt ∷ String ∷ Boolean ∷ Object ∷ []
