-- The world of the example, and its runs.
use Rattle.std.proofs.Common.{◌≡◌, ℕ, zero, suc, [], ◌∷◌, refl, ap, ◌∙◌}
use Rattle.meaning.specs.Expression.{Units}
use Rattle.meaning.specs.Value.{Slots, join_slots, slots_of}
use Rattle.meaning.specs.World.{Result, Ending, ◌>>=◌}
use Rattle.meaning.specs.Coercion.{to_primitive, primitive_text, to_text, primitive_numeric, to_numeric, only_number, to_number}
use Rattle.meaning.specs.Methods.{concat_name, pow_name, of_name, coercible, texts_joined, text_concat_result, slots_added, spread_slots, slots_joined, array_concat_result, pow_result, array_of_result, unit_at, slot_at}
use Rattle.meaning.specs.Acts.{Returns, Then, Asks, Watched}
use Rattle.meaning.specs.Runs.{Runs, mean}
use Rattle.meaning.specs.Premises.{Premises}
use Rattle.meaning.specs.PlainWorld.{PlainSlots, methods_world, text_property, array_property, whole_key}
use Rattle.rules.specs.Building.{elements_of, append_elements, append_arguments, text_of, new_quasi, add_piece, pieces_of, quasi_count, template_of, flat}
use Rattle.rules.specs.Taking.{leading, taken_with, taken, left_with, left, taken_count_with, taken_count}
use Rattle.rules.specs.Interleaves.{argument_count, one_if_text, one_unless_text, string_count, expression_count, settled}
use Rattle.rules.specs.Interleaving.{no_spread, none_left, all_quiet, interleaving, short}
use Rattle.rules.specs.Deciding.{decided, asked, outermost, when, unless_effects}
use Rattle.rules.specs.Chain.{longer, called_on, chain_of, each_interleaving, string_chain, is_array, all_read, all_still, calls_apart, array_chain, chained, chain_rule}
use Rattle.oxc.specs.Folding.{iter, from_iter, object_or_undetermined, interleave_from, string_concat_prefers_template, not_a_string, expression_count as rust_expression_count, folded_one, folded, in_turn, assembled}
use Rattle.oxc.specs.Functions.{parent_is_concat, flat_map, all_can_interleave, may_be_read, any_read, any_effects, order_matters, from_root, is_literal, merges, merged_one, drained, with_elements, try_fold_concat, validate_global_reference, wrapped, try_fold_pow, elements_of as rust_elements_of, by_callee, replace_known_global_methods, from_unit, length_until_spread, element, fold_access, at_integer_index, by_member, replace_known_property_access, collect}
use Rattle.oxc.specs.Parting.{counting, two_calls, two_texts, one_call as flat_call, TheRustPartsFromTheStandard}

same_units_at : (u : Units) (k : ℕ) → unit_at methods_world u k ≡ unit_at counting u k
unfolding unit_at
same_units_at [] k = refl
same_units_at (x ∷ u) zero = refl
same_units_at (x ∷ u) (suc k) = same_units_at u k

same_slots_at : (xs : PlainSlots) (k : ℕ) → slot_at methods_world xs k ≡ slot_at counting xs k
unfolding slot_at
same_slots_at Slots.no_slots k = refl
same_slots_at (Slots.hole xs) zero = refl
same_slots_at (Slots.value v xs) zero = refl
same_slots_at (Slots.hole xs) (suc k) = same_slots_at xs k
same_slots_at (Slots.value v xs) (suc k) = same_slots_at xs k

counting_meets : Premises counting
unfolding concat_name pow_name of_name to_primitive primitive_text to_text coercible texts_joined text_concat_result ◌>>=◌ slots_added spread_slots slots_joined array_concat_result primitive_numeric to_numeric only_number to_number pow_result array_of_result
counting_meets = record {
  finds_text_concat = λ u s. refl;
  applies_text_concat = λ v vs s. refl;
  finds_array_concat = λ xs s. refl;
  applies_array_concat = λ xs vs s. refl;
  finds_pow = λ s. refl;
  applies_pow = λ v a b s. refl;
  finds_array_of = λ s. refl;
  applies_array_of = λ vs s. refl;
  reads_text_at_index = λ u x k e lt s. ap (λ z. Ending.ends (Result.gives z) s) (ap (λ z. text_property u (whole_key z)) e ∙ same_units_at u k);
  reads_array_at_index = λ xs x k e lt s. ap (λ z. Ending.ends (Result.gives z) s) (ap (λ z. array_property xs (whole_key z)) e ∙ same_slots_at xs k);
}

two_calls_run : Runs counting two_calls 0 (Result.gives (two_texts 1 2)) 2
unfolding mean join_slots slots_of ◌>>=◌ concat_name slots_added spread_slots slots_joined array_concat_result
two_calls_run =
    Watched.freely (Then.goes
    (Then.goes (Then.goes
    (Watched.freely (Then.goes
    (Then.goes (Then.goes (Watched.freely (Then.goes Returns.returns Returns.returns)) Returns.returns) (Then.goes (Asks.asks refl) Returns.returns))
    (Then.goes (Then.goes (Watched.freely (Asks.asks refl)) (Then.goes Returns.returns Returns.returns)) (Asks.asks refl))))
    Returns.returns) (Then.goes (Asks.asks refl) Returns.returns))
    (Then.goes (Then.goes (Watched.freely (Asks.asks refl)) (Then.goes Returns.returns Returns.returns)) (Asks.asks refl)))

one_call_runs : Runs counting flat_call 0 (Result.gives (two_texts 2 2)) 2
unfolding mean join_slots slots_of ◌>>=◌ concat_name slots_added spread_slots slots_joined array_concat_result
one_call_runs =
    Watched.freely (Then.goes
    (Then.goes (Then.goes (Watched.freely (Then.goes Returns.returns Returns.returns)) Returns.returns) (Then.goes (Asks.asks refl) Returns.returns))
    (Then.goes
    (Then.goes (Watched.freely (Asks.asks refl)) (Then.goes (Then.goes (Watched.freely (Asks.asks refl)) (Then.goes Returns.returns Returns.returns)) Returns.returns))
    (Asks.asks refl)))

pub parted : TheRustPartsFromTheStandard
unfolding concat_name elements_of append_elements append_arguments text_of new_quasi add_piece pieces_of quasi_count template_of leading taken_with taken left_with left taken_count_with taken_count argument_count one_if_text one_unless_text string_count expression_count no_spread none_left all_quiet interleaving short decided asked outermost when unless_effects settled longer called_on chain_of flat each_interleaving string_chain is_array all_read all_still calls_apart array_chain chained chain_rule iter from_iter object_or_undetermined interleave_from string_concat_prefers_template not_a_string rust_expression_count folded_one folded in_turn assembled parent_is_concat flat_map all_can_interleave may_be_read any_read any_effects order_matters from_root is_literal merges merged_one drained with_elements try_fold_concat validate_global_reference wrapped try_fold_pow rust_elements_of by_callee replace_known_global_methods from_unit length_until_spread element fold_access at_integer_index by_member replace_known_property_access collect
parted = record {
  premises = counting_meets;
  two_calls_run = two_calls_run;
  one_call_runs = one_call_runs;
  kept = refl;
  no_answer = refl;
}
