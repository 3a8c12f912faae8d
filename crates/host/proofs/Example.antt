-- Worlds in which the hypotheses of the laws are met.
use Rattle.std.proofs.Common.{◌≡◌, ℕ, zero, suc, Bool, true, false, List, [], ◌∷◌, refl, sym, ap, ◌∙◌, subst, arith}
use Rattle.std.specs.Prelude.{All, ◌↔◌, slice_index_or}
use lib.Utf8.{encode}
use Rattle.text.specs.Stored.{stored}
use Rattle.meaning.specs.Expression.{Expression, Units}
use Rattle.meaning.specs.Value.{Primitive, Value, Slots}
use Rattle.meaning.specs.World.{ValueIn, Result, Ending, ◌>>=◌}
use Rattle.meaning.specs.Coercion.{to_primitive, primitive_text, to_text, primitive_numeric, to_numeric, only_number, to_number}
use Rattle.meaning.specs.Methods.{concat_name, pow_name, of_name, coercible, texts_joined, text_concat_result, slots_added, spread_slots, slots_joined, array_concat_result, pow_result, array_of_result, unit_at, slot_at}
use Rattle.meaning.specs.Premises.{Premises}
use Rattle.meaning.specs.Acts.{Returns, Then, Asks, Watched, Still}
use Rattle.meaning.specs.Runs.{Calm, mean}
use Rattle.meaning.specs.Parts.{Part}
use Rattle.meaning.specs.PlainWorld.{Thing, PlainSlots, methods_world, plain, text_property, array_property, whole_key}
use Rattle.host.specs.declared.value_type.ValueType.TheVariants.{Object, String}
use Rattle.host.specs.Truth.{OfType, HasType, ReadsAsOwn, Truthful}
use Rattle.host.specs.Structural.{own_names, is_among, is_own_name, structural_answers}
use Rattle.host.specs.Answers.{Question}
use Rattle.host.specs.Table.{table_answers}
use Rattle.host.specs.QuietWorld.{quiet}
use Rattle.host.specs.Laws.{Complete, math_name, a_text, math_and_text, three_rows, TheHypothesesCanBeMet}
use Rattle.host.proofs.Knowing.{false_true}

all_bound : Complete plain own_names
unfolding encode
all_bound zero d lt e = false_true (sym e)
all_bound (suc zero) d lt e = false_true (sym e)
all_bound (suc (suc zero)) d lt e = false_true (sym e)
all_bound (suc (suc (suc k))) d lt e = absurd (omega arith)

-- In the plain world no name reads as the language's own, since each read is counted.
counted : (u : Units) → ReadsAsOwn plain u → ⊥
counted u h = let at_zero = h 0 in let z : ◌≡◌ {A = ℕ} 1 0 = cc in omega arith

has_to_be : (u : Units) (b : Bool) → (b ≡ false → ReadsAsOwn plain u) → b ≡ true
has_to_be u true h = refl
has_to_be u false h = absurd (counted u (h refl))

plain_complete : (bound : List (List ℕ)) → Complete plain bound ↔ All (λ u. is_among (stored u) bound ≡ true) own_names
plain_complete bound = (λ h k d lt. has_to_be (slice_index_or own_names k d) _ (h k d lt), λ h k d lt e. false_true (sym e ∙ h k d lt))

same_units_at : (u : Units) (k : ℕ) → unit_at methods_world u k ≡ unit_at quiet u k
unfolding unit_at
same_units_at [] k = refl
same_units_at (x ∷ u) zero = refl
same_units_at (x ∷ u) (suc k) = same_units_at u k

same_slots_at : (xs : PlainSlots) (k : ℕ) → slot_at methods_world xs k ≡ slot_at quiet xs k
unfolding slot_at
same_slots_at Slots.no_slots k = refl
same_slots_at (Slots.hole xs) zero = refl
same_slots_at (Slots.value v xs) zero = refl
same_slots_at (Slots.hole xs) (suc k) = same_slots_at xs k
same_slots_at (Slots.value v xs) (suc k) = same_slots_at xs k

-- The premises say nothing of reading names.
quiet_meets : Premises quiet
unfolding concat_name pow_name of_name to_primitive primitive_text to_text coercible texts_joined text_concat_result ◌>>=◌ slots_added spread_slots slots_joined array_concat_result primitive_numeric to_numeric only_number to_number pow_result array_of_result
quiet_meets = record {
  finds_text_concat = λ u s. refl;
  applies_text_concat = λ v vs s. refl;
  finds_array_concat = λ xs s. refl;
  applies_array_concat = λ xs vs s. refl;
  finds_pow = λ s. refl;
  applies_pow = λ v a b s. refl;
  finds_array_of = λ s. refl;
  applies_array_of = λ vs s. refl;
  reads_text_at_index = λ u x k e lt s. ap (λ z. Ending.ends (Result.gives z) s) (ap (λ z. text_property u (whole_key z)) e ∙ same_units_at u k);
  reads_array_at_index = λ xs x k e lt s. ap (λ z. Ending.ends (Result.gives z) s) (ap (λ z. array_property xs (whole_key z)) e ∙ same_slots_at xs k);
}

quiet_reads : Complete quiet []
quiet_reads k d lt e s = refl

global : (structural_answers []).global (Part.expression math_name) ≡ true
unfolding encode is_own_name
global = refl

name_calm : (s : ℕ) → Calm quiet math_name s (Value.object Thing.global)
unfolding mean
name_calm s = Watched.calmly (Asks.asks refl) Still.still

text_calm : (s : ℕ) → (v : ValueIn quiet) × Calm quiet a_text s v
unfolding mean
text_calm s = (_, Watched.calmly Returns.returns Still.still)

array_calm : (s : ℕ) → (v : ValueIn quiet) × Calm quiet math_and_text s v
unfolding mean
array_calm s = (_, Watched.calmly (Then.goes (Then.goes (name_calm s) (Then.goes (Then.goes (text_calm s).1 (Then.goes Returns.returns Returns.returns)) Returns.returns)) Returns.returns) Still.still)

name_typed : HasType quiet Object (Part.expression math_name)
unfolding mean
name_typed s v t (Watched.freely (Asks.asks e)) = let i : Value.object Thing.global ≡ v = cc in subst (OfType quiet Object) i tt

text_typed : HasType quiet String (Part.expression a_text)
unfolding mean
text_typed s v t (Watched.freely Returns.returns) = (_, refl)

array_typed : HasType quiet Object (Part.expression math_and_text)
unfolding mean
array_typed s v t (Watched.freely (Then.goes d Returns.returns)) = tt

-- The node 0 of another payoff is null, which is no object.
other_payoff : Truthful quiet (table_answers three_rows) → ⊥
unfolding mean
other_payoff h = h (Question.value_type (Part.expression (Expression.null 0))) 0 (Value.primitive Primitive.null) 0 (Watched.freely Returns.returns)

pub met : TheHypothesesCanBeMet
met = record {
  complete_in_plain = plain_complete;
  all_names = all_bound;
  premises_in_quiet = quiet_meets;
  complete_in_quiet = quiet_reads;
  math_is_global = global;
  row_of_name = refl;
  row_of_text = refl;
  row_of_array = refl;
  true_of_name = record { effects = λ e s. (_, name_calm s); value_type = name_typed; global = λ e. (_, _, refl, λ s. refl) };
  true_of_text = record { effects = λ e. text_calm; value_type = text_typed; global = λ e. false_true e };
  true_of_array = record { effects = λ e. array_calm; value_type = array_typed; global = λ e. false_true e };
  true_of_its_payoff_alone = other_payoff;
}
