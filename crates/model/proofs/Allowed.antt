-- What hosts allow, computed.
use Rattle.std.proofs.Common.{ℕ, [], refl, sym}
use Rattle.std.proofs.Math.Utf8.{encode}
use Rattle.meaning.specs.Number.{exponent_field, fraction_field, whole_of_fields, whole}
use Rattle.meaning.specs.Methods.{concat_name, pow_name, of_name, math_name, array_name}
use Rattle.host.specs.Structural.{is_own_name}
use Rattle.host.specs.declared.value_type.ValueType.TheVariants.{Number, Object}
use Rattle.host.specs.Truth.{HasType}
use Rattle.host.specs.QuietWorld.{quiet}
use Rattle.host.proofs.Knowing.{any_part, false_true}
use Rattle.meaning.specs.Parts.{Part}
use Rattle.meaning.specs.World.{ValueIn}
use Rattle.meaning.specs.Acts.{Returns, Then, Steps, Seen, Watched, Still}
use Rattle.meaning.specs.Runs.{Calm, mean}
use Rattle.rules.specs.Building.{elements_of, append_elements, append_arguments, text_of, new_quasi, add_piece, pieces_of, quasi_count, template_of, with_object, flat}
use Rattle.rules.specs.Taking.{leading, taken_with, taken, left_with, left, taken_count_with, taken_count}
use Rattle.rules.specs.Interleaves.{argument_count, one_if_text, one_unless_text, string_count, expression_count, settled}
use Rattle.rules.specs.Interleaving.{no_spread, none_left, all_quiet, interleaving, short}
use Rattle.rules.specs.Deciding.{decided, outermost, when, unless_effects}
use Rattle.rules.specs.Property.{unit_or_void, element_at, without_effects, at_index, at_whole, at_key, property_read, property_rule}
use Rattle.rules.specs.Method.{keyed, callee_of, string_concat, array_left, array_concat, is_number, power, math_pow, array_of, global_method, method_of_object, method_called, method_rule}
use Rattle.rules.specs.Chain.{longer, called_on, chain_of, each_interleaving, string_chain, chained, chain_rule}
use Rattle.model.specs.Tries.{Rule}
use Rattle.model.specs.Silence.{n, zero_node, one_element, first_of, WhatHostsAllow}

-- ---- rows in the quiet world

n_calm : (s : ℕ) → (v : ValueIn quiet) × Calm quiet n s v
unfolding mean
n_calm s = (_, Watched.calmly (Steps.runs {os = []} {i = 0} refl (Seen.gave (Watched.calmly Returns.returns Still.still) refl) (Steps.ends refl)) Still.still)

zero_calm : (s : ℕ) → (v : ValueIn quiet) × Calm quiet zero_node s v
unfolding mean
zero_calm s = (_, Watched.calmly Returns.returns Still.still)

array_calm : (s : ℕ) → (v : ValueIn quiet) × Calm quiet (one_element 2 n) s v
unfolding mean
array_calm s = (_, Watched.calmly (Then.goes (Then.goes (n_calm s).1 (Then.goes Returns.returns Returns.returns)) Returns.returns) Still.still)

zero_typed : HasType quiet Number (Part.expression zero_node)
unfolding mean
zero_typed s v t (Watched.freely Returns.returns) = (_, refl)

array_typed : HasType quiet Object (Part.expression (one_element 2 n))
unfolding mean
array_typed s v t (Watched.freely (Then.goes d Returns.returns)) = tt

-- ---- all of it

pub allowed : WhatHostsAllow
unfolding encode exponent_field fraction_field whole_of_fields whole concat_name pow_name of_name math_name array_name is_own_name elements_of append_elements append_arguments text_of new_quasi add_piece pieces_of quasi_count template_of leading taken_with taken left_with left taken_count_with taken_count argument_count one_if_text one_unless_text string_count expression_count no_spread none_left all_quiet interleaving short decided outermost when unless_effects settled unit_or_void element_at without_effects at_index at_whole at_key property_read property_rule keyed callee_of with_object string_concat array_left array_concat is_number power math_pow array_of global_method method_of_object method_called method_rule longer called_on chain_of flat each_interleaving string_chain chained chain_rule
allowed = record {
  power_kept = elim [ Rule.chain ↦ refl | Rule.method ↦ refl | Rule.property ↦ refl ];
  array_of_kept = elim [ Rule.chain ↦ refl | Rule.method ↦ refl | Rule.property ↦ refl ];
  first_kept = elim [ Rule.chain ↦ refl | Rule.method ↦ refl | Rule.property ↦ refl ];
  text_kept = elim [ Rule.chain ↦ refl | Rule.method ↦ refl | Rule.property ↦ refl ];
  text = refl;
  power = refl;
  array_of = refl;
  first = refl;
  first_of_n_kept = elim [ Rule.chain ↦ refl | Rule.method ↦ refl | Rule.property ↦ refl ];
  first_of_n = refl;
  true_of_n = record { effects = λ e. n_calm; value_type = any_part quiet (Part.expression n); global = λ e. false_true e };
  true_of_zero = record { effects = λ e. zero_calm; value_type = zero_typed; global = λ e. false_true e };
  true_of_array = record { effects = λ e. array_calm; value_type = array_typed; global = λ e. false_true e };
  true_of_member = record { effects = λ e. false_true (sym e); value_type = any_part quiet (Part.expression (first_of n)); global = λ e. false_true e };
  array_unknown = elim [ Rule.chain ↦ refl | Rule.method ↦ refl | Rule.property ↦ refl ];
  all_unknown = elim [ Rule.chain ↦ refl | Rule.method ↦ refl | Rule.property ↦ refl ];
}
