-- The plain world meets the premises, and in it each kind of expression has a run.
use Rattle.std.proofs.Common.{◌≡◌, ℕ, zero, suc, [], ◌∷◌, refl, ap, ◌∙◌, arith}
use Rattle.meaning.specs.Expression.{Expression, Elements, Units}
use Rattle.meaning.specs.Number.{exponent_field, fraction_field, whole_of_fields, whole, negative, positive_zero}
use Rattle.meaning.specs.Value.{Slots, join_slots, slots_of}
use Rattle.meaning.specs.World.{Result, Ending, ◌>>=◌}
use Rattle.meaning.specs.Coercion.{to_primitive, primitive_text, to_text, primitive_numeric, to_numeric, only_number, to_number, numeric_value, negative_numeric, unary_result, numeric_result, binary_result}
use Rattle.meaning.specs.Methods.{concat_name, pow_name, of_name, coercible, texts_joined, text_concat_result, slots_added, spread_slots, slots_joined, array_concat_result, pow_result, array_of_result, unit_at, slot_at}
use Rattle.meaning.specs.Acts.{Returns, Then, Asks, Settles, Still, Mode, Watched, Seen, Steps}
use Rattle.meaning.specs.Runs.{Calm, mean}
use Rattle.meaning.specs.Premises.{Premises}
use Rattle.meaning.specs.PlainWorld.{PlainValue, PlainSlots, methods_world, plain, text_property, array_property, whole_key}
use Rattle.meaning.specs.Laws.{EachKindRuns, OrderShows, CalmShows, ThePremisesCanBeMet, x_name}

same_units_at : (u : Units) (k : ℕ) → unit_at methods_world u k ≡ unit_at plain u k
unfolding unit_at
same_units_at [] k = refl
same_units_at (x ∷ u) zero = refl
same_units_at (x ∷ u) (suc k) = same_units_at u k

same_slots_at : (xs : PlainSlots) (k : ℕ) → slot_at methods_world xs k ≡ slot_at plain xs k
unfolding slot_at
same_slots_at Slots.no_slots k = refl
same_slots_at (Slots.hole xs) zero = refl
same_slots_at (Slots.value v xs) zero = refl
same_slots_at (Slots.hole xs) (suc k) = same_slots_at xs k
same_slots_at (Slots.value v xs) (suc k) = same_slots_at xs k

plain_meets : Premises plain
unfolding concat_name pow_name of_name to_primitive primitive_text to_text coercible texts_joined text_concat_result ◌>>=◌ slots_added spread_slots slots_joined array_concat_result primitive_numeric to_numeric only_number to_number pow_result array_of_result
plain_meets = record {
  finds_text_concat = λ u s. refl;
  applies_text_concat = λ v vs s. refl;
  finds_array_concat = λ xs s. refl;
  applies_array_concat = λ xs vs s. refl;
  finds_pow = λ s. refl;
  applies_pow = λ v a b s. refl;
  finds_array_of = λ s. refl;
  applies_array_of = λ vs s. refl;
  reads_text_at_index = λ u x k e lt s. ap (λ z. Ending.ends (Result.gives z) s) (ap (λ z. text_property u (whole_key z)) e ∙ same_units_at u k);
  reads_array_at_index = λ xs x k e lt s. ap (λ z. Ending.ends (Result.gives z) s) (ap (λ z. array_property xs (whole_key z)) e ∙ same_slots_at xs k);
}

each_kind : EachKindRuns
unfolding mean join_slots slots_of ◌>>=◌ concat_name pow_name of_name to_primitive primitive_text to_text primitive_numeric to_numeric only_number to_number numeric_value negative_numeric unary_result numeric_result binary_result coercible texts_joined text_concat_result exponent_field fraction_field whole_of_fields whole negative positive_zero unit_at
each_kind = record {
  of_string = Watched.freely Returns.returns;
  of_number = Watched.freely Returns.returns;
  of_boolean = Watched.freely Returns.returns;
  of_null = Watched.freely Returns.returns;
  of_name = Watched.freely (Asks.asks refl);
  of_array = Watched.freely (Then.goes
      (Then.goes (Watched.freely Returns.returns)
      (Then.goes
      (Then.goes
      (Then.goes
      (Watched.freely (Then.goes
      (Watched.freely (Then.goes (Then.goes (Watched.freely Returns.returns) (Then.goes Returns.returns Returns.returns)) Returns.returns))
      (Asks.asks refl)))
      (Then.goes Returns.returns Returns.returns))
      Returns.returns)
      Returns.returns))
      Returns.returns);
  of_static_member = Watched.freely (Then.goes (Then.goes (Watched.freely (Asks.asks refl)) Returns.returns) (Asks.asks refl));
  of_computed_member = Watched.freely (Then.goes (Then.goes (Watched.freely Returns.returns) (Then.goes (Watched.freely Returns.returns) Returns.returns)) (Asks.asks refl));
  of_call = Watched.freely (Then.goes
      (Then.goes (Then.goes (Watched.freely Returns.returns) Returns.returns) (Then.goes (Asks.asks refl) Returns.returns))
      (Then.goes
      (Then.goes (Watched.freely Returns.returns)
      (Then.goes
      (Then.goes
      (Watched.freely (Then.goes
      (Watched.freely (Then.goes (Then.goes (Watched.freely Returns.returns) (Then.goes Returns.returns Returns.returns)) Returns.returns))
      (Asks.asks refl)))
      (Then.goes Returns.returns Returns.returns))
      Returns.returns))
      (Asks.asks refl)));
  of_template = Watched.freely (Then.goes (Then.goes (Watched.freely Returns.returns) (Then.goes (Settles.settles refl) Returns.returns)) Returns.returns);
  of_unary = Watched.freely (Then.goes (Watched.freely Returns.returns) (Settles.settles refl));
  of_binary = Watched.freely (Then.goes (Watched.freely Returns.returns) (Then.goes (Watched.freely Returns.returns) (Settles.settles refl)));
  of_opaque = Watched.freely (Steps.runs refl
      (Seen.gave (Then.goes (Watched.freely Returns.returns) (Then.goes (Watched.freely Returns.returns) Returns.returns)) refl)
      (Steps.ends refl));
  of_throw = Watched.freely (Then.stops (Then.stops (Watched.freely (Then.goes (Then.goes (Watched.freely Returns.returns) Returns.returns) (Asks.asks refl)))));
  of_seen_throw = Watched.freely (Steps.runs refl
      (Seen.threw (Watched.freely (Then.goes (Then.goes (Watched.freely Returns.returns) Returns.returns) (Asks.asks refl))))
      (Steps.ends refl));
}

order : OrderShows
unfolding mean ◌>>=◌ to_primitive primitive_text to_text primitive_numeric to_numeric numeric_result binary_result
order = record {
  template_makes_text_at_once = Watched.freely (Then.goes
      (Then.goes (Watched.freely (Asks.asks refl)) (Then.goes (Settles.settles refl)
      (Then.goes (Watched.freely (Asks.asks refl)) (Then.goes (Settles.settles refl) Returns.returns))))
      Returns.returns);
  operands_run_first = Watched.freely (Then.goes (Watched.freely (Asks.asks refl)) (Then.goes (Watched.freely (Asks.asks refl)) (Settles.settles refl)));
  callee_before_arguments = Watched.freely (Then.stops (Then.goes (Then.goes (Watched.freely Returns.returns) Returns.returns) (Then.stops (Asks.asks refl))));
  arguments_before_call = Watched.freely (Then.goes
      (Then.goes (Watched.freely Returns.returns) Returns.returns)
      (Then.goes (Then.goes (Watched.freely (Asks.asks refl)) (Then.goes Returns.returns Returns.returns)) (Asks.asks refl)));
  key_before_property = Watched.freely (Then.goes
      (Then.goes (Watched.freely Returns.returns) (Then.goes (Watched.freely (Asks.asks refl)) Returns.returns))
      (Asks.asks refl));
  spread_before_next = Watched.freely (Then.stops (Then.stops (Watched.freely (Then.goes (Watched.freely Returns.returns) (Asks.asks refl)))));
}

still_stays : {S A : Type 0} {s t : S} {r : Result A} → Still S A s r t → t ≡ s
still_stays Still.still = refl

-- reading a name is not still
name_moves : (s : ℕ) (r : Result PlainValue) (t : ℕ) → (mean plain Mode.calm x_name).run s r t → ⊥
unfolding mean
name_moves s r t (Watched.calmly (Asks.asks p) q) =
    let more : t ≡ suc s = cc in
    let same : t ≡ s = still_stays q in
    omega arith

not_calm : (v : PlainValue) → Calm plain (Expression.array 0 (Elements.item x_name Elements.no_elements)) 0 v → ⊥
unfolding mean
not_calm v (Watched.calmly (Then.goes (Then.goes p _) _) _) = name_moves _ _ _ p

calm : CalmShows
unfolding mean
calm = record {
  a_string_is_calm = Watched.calmly (Then.goes (Then.goes (Watched.calmly Returns.returns Still.still) (Then.goes Returns.returns Returns.returns)) Returns.returns) Still.still;
  a_name_is_not = not_calm;
}

pub met : ThePremisesCanBeMet
met = (plain_meets, each_kind, order, calm)
