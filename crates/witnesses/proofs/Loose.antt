-- The loose world keeps the premises.
use Rattle.std.proofs.Common.{◌≡◌, ℕ, zero, suc, ◌<◌, true, cond, [], ◌∷◌, nat_lt, refl, ap, ◌∙◌, arith}
use Rattle.std.proofs.lemmas.Bool.Decides.{nat_tests}
use Rattle.meaning.specs.Expression.{Units}
use Rattle.meaning.specs.Value.{Slots}
use Rattle.meaning.specs.World.{Ending, ◌>>=◌}
use Rattle.meaning.specs.Coercion.{to_primitive, primitive_text, to_text, primitive_numeric, to_numeric, only_number, to_number}
use Rattle.meaning.specs.Methods.{concat_name, pow_name, of_name, math_name, array_name, coercible, texts_joined, text_concat_result, slots_added, spread_slots, slots_joined, array_concat_result, pow_result, array_of_result, unit_at, slot_at}
use Rattle.meaning.specs.Premises.{Premises}
use Rattle.meaning.specs.PlainWorld.{PlainSlots, methods_world, whole_key}
use Rattle.witnesses.specs.LooseWorld.{loose, there, text_got, array_got}

same_units_at : (u : Units) (k : ℕ) → unit_at methods_world u k ≡ unit_at loose u k
unfolding unit_at
same_units_at [] k = refl
same_units_at (x ∷ u) zero = refl
same_units_at (x ∷ u) (suc k) = same_units_at u k

same_slots_at : (xs : PlainSlots) (k : ℕ) → slot_at methods_world xs k ≡ slot_at loose xs k
unfolding slot_at
same_slots_at Slots.no_slots k = refl
same_slots_at (Slots.hole xs) zero = refl
same_slots_at (Slots.value v xs) zero = refl
same_slots_at (Slots.hole xs) (suc k) = same_slots_at xs k
same_slots_at (Slots.value v xs) (suc k) = same_slots_at xs k

is_less : (n k : ℕ) → n < k → nat_lt n k ≡ true
is_less n k h = grind (arith, nat_tests)

pub loose_meets : Premises loose
unfolding concat_name pow_name of_name math_name array_name to_primitive primitive_text to_text coercible texts_joined text_concat_result ◌>>=◌ slots_added spread_slots slots_joined array_concat_result primitive_numeric to_numeric only_number to_number pow_result array_of_result
loose_meets = record {
  finds_text_concat = λ u s. refl;
  applies_text_concat = λ v vs s. refl;
  finds_array_concat = λ xs s. refl;
  applies_array_concat = λ xs vs s. refl;
  finds_pow = λ s. refl;
  applies_pow = λ v a b s. refl;
  finds_array_of = λ s. refl;
  applies_array_of = λ vs s. refl;
  reads_text_at_index = λ u x k e lt s.
      ap (λ z. text_got u (whole_key z) s) e ∙ ap (λ z. cond z (there (unit_at methods_world u k) s) Ending.never) (is_less k _ lt) ∙ ap (λ z. there z s) (same_units_at u k);
  reads_array_at_index = λ xs x k e lt s.
      ap (λ z. array_got xs (whole_key z) s) e ∙ ap (λ z. cond z (there (slot_at methods_world xs k) s) Ending.never) (is_less k _ lt) ∙ ap (λ z. there z s) (same_slots_at xs k);
}
