-- The examples, computed.
use Rattle.std.proofs.Common.{refl}
use Rattle.std.proofs.Math.Utf8.{encode}
use Rattle.meaning.specs.Number.{exponent_field, fraction_field, whole_of_fields, whole}
use Rattle.meaning.specs.Methods.{concat_name, pow_name, of_name, math_name, array_name}
use Rattle.rules.specs.Building.{elements_of, append_elements, append_arguments, text_of, new_quasi, add_piece, pieces_of, quasi_count, template_of, with_object, flat}
use Rattle.rules.specs.Taking.{leading, taken_with, taken, left_with, left, taken_count_with, taken_count}
use Rattle.rules.specs.Interleaves.{argument_count, one_if_text, one_unless_text, string_count, expression_count, settled}
use Rattle.rules.specs.Interleaving.{no_spread, none_left, all_quiet, interleaving, short}
use Rattle.rules.specs.Deciding.{decided, asked, outermost, when, unless_effects}
use Rattle.rules.specs.Property.{unit_or_void, element_at, without_effects, at_index, at_whole, at_key, property_read, property_rule}
use Rattle.rules.specs.Method.{keyed, callee_of, string_concat, array_left, array_concat, is_number, power, math_pow, array_of, global_method, method_of_object, method_called, method_rule}
use Rattle.rules.specs.Chain.{longer, called_on, chain_of, each_interleaving, string_chain, is_array, all_read, all_still, calls_apart, array_chain, chained, chain_rule}
use Rattle.rules.specs.WorkedExamples.{WorkedExamples}

pub worked : WorkedExamples
unfolding encode exponent_field fraction_field whole_of_fields whole concat_name pow_name of_name math_name array_name elements_of append_elements append_arguments text_of new_quasi add_piece pieces_of quasi_count template_of leading taken_with taken left_with left taken_count_with taken_count argument_count one_if_text one_unless_text string_count expression_count no_spread none_left all_quiet interleaving short decided asked outermost when unless_effects settled unit_or_void element_at without_effects at_index at_whole at_key property_read property_rule keyed callee_of with_object string_concat array_left array_concat is_number power math_pow array_of global_method method_of_object method_called method_rule longer called_on chain_of flat each_interleaving string_chain is_array all_read all_still calls_apart array_chain chained chain_rule
worked = record {
  four_become_a_template = refl;
  five_are_kept = refl;
  p_and_q_do_not_interleave = refl;
  p_then_q_do = refl;
  leading_literals_are_taken_in = refl;
  an_array_is_read_first = refl;
  last_unit = refl;
  past_the_end = refl;
  past_the_elements = refl;
  a_change_is_seen = refl;
  dollar_escaped = refl;
  return_escaped = refl;
}
