-- The definitions give what an engine gave: each list computes to the other.
use Rattle.std.proofs.Common.{refl}
use Rattle.meaning.specs.Number.{positive_zero, one, negative, exponent_field, fraction_field, whole_of_fields, whole}
use Rattle.meaning.specs.Value.{join_slots, slots_of}
use Rattle.meaning.specs.World.{World, ◌>>=◌}
use Rattle.meaning.specs.Coercion.{to_primitive, primitive_text, to_text, primitive_numeric, to_numeric, only_number, to_number, numeric_value, negative_numeric, unary_result, numeric_result, binary_result}
use Rattle.meaning.specs.Methods.{coercible, texts_joined, text_concat_result, slots_added, spread_slots, slots_joined, array_concat_result, pow_result, array_of_result, unit_at, slot_at}
use Rattle.meaning.specs.Engine.{text_concat_inputs, text_concat_outputs, array_concat_inputs, array_concat_outputs}
use Rattle.meaning.specs.Engine.{array_of_inputs, array_of_outputs, unit_at_inputs, unit_at_outputs, slot_at_inputs, slot_at_outputs}
use Rattle.meaning.specs.Engine.{primitive_text_inputs, primitive_text_outputs, primitive_numeric_inputs, primitive_numeric_outputs}
use Rattle.meaning.specs.Engine.{coercible_inputs, coercible_outputs, unary_inputs, unary_outputs, binary_inputs, binary_outputs}
use Rattle.meaning.specs.Engine.{pow_inputs, pow_outputs, whole_inputs, whole_outputs, negative_inputs, negative_outputs}
use Rattle.meaning.specs.EngineLaws.{NumbersAgree, ValuesAgree, TheEngineAgrees}

numbers : NumbersAgree
unfolding negative exponent_field fraction_field whole_of_fields whole whole_inputs whole_outputs negative_inputs negative_outputs
numbers = record { whole_numbers = refl; negatives = refl }

values : (w : World) (o : w.Object) (b : w.Big) (y : w.Symbol) (s : w.State) → ValuesAgree w o b y s
unfolding positive_zero one negative join_slots slots_of ◌>>=◌ to_primitive primitive_text to_text primitive_numeric to_numeric
    only_number to_number numeric_value negative_numeric unary_result numeric_result binary_result coercible texts_joined
    text_concat_result slots_added spread_slots slots_joined array_concat_result pow_result array_of_result unit_at slot_at
    text_concat_inputs text_concat_outputs array_concat_inputs array_concat_outputs array_of_inputs array_of_outputs
    unit_at_inputs unit_at_outputs slot_at_inputs slot_at_outputs primitive_text_inputs primitive_text_outputs
    primitive_numeric_inputs primitive_numeric_outputs coercible_inputs coercible_outputs unary_inputs unary_outputs
    binary_inputs binary_outputs pow_inputs pow_outputs
values w o b y s = record {
  text_concat = refl;
  array_concat = refl;
  array_of = refl;
  units = refl;
  slots = refl;
  texts = refl;
  numerics = refl;
  coercibles = refl;
  unary = refl;
  binary = refl;
  pow = refl;
}

pub agrees : (w : World) → TheEngineAgrees w
agrees w = (numbers, values w)
