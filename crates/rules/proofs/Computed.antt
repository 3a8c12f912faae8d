-- The examples, computed.
use Rattle.std.proofs.Common.{refl}
use Rattle.meaning.specs.Number.{whole, whole_of_fields, exponent_field, fraction_field}
use Rattle.meaning.specs.Methods.{concat_name, pow_name, of_name, math_name, array_name}
use Rattle.rules.specs.Deciding.{decided, asked, outermost, when, unless_effects}
use Rattle.rules.specs.Building.{elements_of, append_elements, append_arguments, text_of, new_quasi, add_piece, pieces_of, quasi_count, template_of, with_object, flat}
use Rattle.rules.specs.Interleaves.{settled, argument_count, one_if_text, one_unless_text, string_count, expression_count}
use Rattle.rules.specs.Interleaving.{no_spread, none_left, all_quiet, interleaving, short}
use Rattle.rules.specs.Taking.{leading, taken_with, taken, left_with, left, taken_count_with, taken_count}
use Rattle.rules.specs.Property.{unit_or_void, element_at, without_effects, at_index, at_whole, at_key, property_read, property_rule}
use Rattle.rules.specs.Method.{keyed, callee_of, string_concat, array_left, array_concat, is_number, power, math_pow, array_of, global_method, method_of_object, method_called, method_rule}
use Rattle.rules.specs.Chain.{longer, called_on, chain_of, each_interleaving, string_chain, is_array, all_read, all_still, calls_apart, array_chain, chained, chain_rule}
use Rattle.rules.specs.Examples.{ChainExamples, MethodExamples, PropertyExamples, RuleExamples}

chains : ChainExamples
unfolding concat_name decided asked outermost when unless_effects append_arguments flat text_of new_quasi add_piece pieces_of quasi_count template_of settled argument_count one_if_text one_unless_text string_count expression_count no_spread none_left all_quiet interleaving short longer called_on chain_of each_interleaving string_chain is_array all_read all_still calls_apart array_chain chained chain_rule
chains = record { two_calls = (refl, refl); one_does_not_interleave = (refl, refl); all_interleave = (refl, refl); each_interleaves = (refl, refl); only_strings = (refl, refl); array_kept = (refl, refl); array_of_numbers = (refl, refl); array_of_arrays = (refl, refl); one_call = (refl, refl) }

methods : MethodExamples
unfolding concat_name pow_name of_name math_name array_name decided asked outermost when unless_effects elements_of append_elements text_of new_quasi add_piece pieces_of quasi_count template_of with_object settled argument_count one_if_text one_unless_text string_count expression_count no_spread none_left all_quiet interleaving short leading taken_with taken left_with left taken_count_with taken_count keyed callee_of string_concat array_left array_concat is_number power math_pow array_of global_method method_of_object method_called method_rule
methods = record { strings_join = (refl, refl); only_strings = (refl, refl); four_arguments = (refl, refl); five_arguments = (refl, refl); effects_behind = (refl, refl); leading_taken = (refl, refl); by_key = (refl, refl); all_taken = (refl, refl); none_given = (refl, refl); none_taken = (refl, refl); power = (refl, refl); power_of_number = (refl, refl); another_math = (refl, refl); array_of = (refl, refl) }

properties : PropertyExamples
unfolding whole whole_of_fields exponent_field fraction_field decided asked when unless_effects unit_or_void element_at without_effects at_index at_whole at_key property_read property_rule
properties = record { unit = (refl, refl); past_end = (refl, refl); element = (refl, refl); no_element = (refl, refl); effects = (refl, refl) }

pub computed : RuleExamples
computed = (chains, methods, properties)
