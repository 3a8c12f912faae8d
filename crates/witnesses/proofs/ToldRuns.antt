-- The runs that tell what was asked, act by act.
use Rattle.std.proofs.Common.{refl}
use Rattle.meaning.specs.Number.{negative, positive_zero}
use Rattle.meaning.specs.Value.{join_slots, slots_of}
use Rattle.meaning.specs.World.{◌>>=◌}
use Rattle.meaning.specs.Coercion.{to_primitive, primitive_text, to_text, primitive_numeric, to_numeric, only_number, to_number, numeric_value, negative_numeric, unary_result, numeric_result, binary_result}
use Rattle.meaning.specs.Methods.{coercible, texts_joined, text_concat_result, slots_added, spread_slots, slots_joined, array_concat_result, pow_result}
use Rattle.meaning.specs.Acts.{Returns, Then, Asks, Settles, Watched, Seen, Steps}
use Rattle.meaning.specs.Runs.{mean}
use Rattle.witnesses.specs.Told.{RunsTell}

pub told : RunsTell
unfolding mean join_slots slots_of ◌>>=◌ to_primitive primitive_text to_text primitive_numeric to_numeric only_number to_number numeric_value negative_numeric unary_result numeric_result binary_result coercible texts_joined text_concat_result slots_added spread_slots slots_joined array_concat_result pow_result negative positive_zero
told = record {
  no_receiver = Watched.freely (Then.goes (Then.goes (Watched.freely (Asks.asks refl)) Returns.returns) (Then.goes Returns.returns (Asks.asks refl)));
  object_as_receiver = Watched.freely (Then.goes
      (Then.goes (Then.goes (Watched.freely (Asks.asks refl)) Returns.returns) (Then.goes (Asks.asks refl) Returns.returns))
      (Then.goes Returns.returns (Asks.asks refl)));
  object_of_a_key = Watched.freely (Then.goes
      (Then.goes (Then.goes (Watched.freely (Asks.asks refl)) (Then.goes (Watched.freely Returns.returns) Returns.returns)) (Then.goes (Asks.asks refl) Returns.returns))
      (Then.goes Returns.returns (Asks.asks refl)));
  template_asks_for_text = Watched.freely (Then.goes (Then.goes (Watched.freely (Asks.asks refl)) (Then.goes (Settles.settles refl) Returns.returns)) Returns.returns);
  concat_asks_for_text = refl;
  plus_asks_for_number = Watched.freely (Then.goes (Watched.freely (Asks.asks refl)) (Settles.settles refl));
  array_is_asked = Watched.freely (Then.goes
      (Then.goes
      (Watched.freely (Then.goes
      (Then.goes (Watched.freely (Asks.asks refl)) (Then.goes (Then.goes (Watched.freely (Asks.asks refl)) (Then.goes Returns.returns Returns.returns)) Returns.returns))
      Returns.returns))
      (Then.goes (Settles.settles refl) Returns.returns))
      Returns.returns);
  power = Watched.freely (Then.goes (Watched.freely (Asks.asks refl)) (Then.goes (Watched.freely (Asks.asks refl)) (Settles.settles refl)));
  difference = Watched.freely (Then.goes (Watched.freely (Asks.asks refl)) (Then.goes (Watched.freely (Asks.asks refl)) (Settles.settles refl)));
  quotient = Watched.freely (Then.goes (Watched.freely (Asks.asks refl)) (Then.goes (Watched.freely (Asks.asks refl)) (Settles.settles refl)));
  pow_is_power = refl;
  big_difference = Watched.freely (Then.goes (Watched.freely (Steps.ends refl)) (Then.goes (Watched.freely (Steps.ends refl)) (Settles.settles refl)));
  big_negative = Watched.freely (Then.goes (Watched.freely (Steps.ends refl)) (Settles.settles refl));
  big_text = Watched.freely (Then.goes (Then.goes (Watched.freely (Steps.ends refl)) (Then.goes (Settles.settles refl) Returns.returns)) Returns.returns);
  object_is_spread = refl;
  throw_keeps_its_state = Watched.freely (Then.stops (Then.goes (Watched.freely (Asks.asks refl))
      (Then.stops (Then.stops (Watched.freely (Then.goes (Watched.freely Returns.returns) (Asks.asks refl)))))));
  outcomes_in_order = Watched.freely (Steps.runs refl (Seen.gave (Watched.freely (Asks.asks refl)) refl)
      (Steps.runs refl (Seen.gave (Watched.freely (Asks.asks refl)) refl) (Steps.ends refl)));
  throw_is_seen = Watched.freely (Steps.runs refl
      (Seen.threw (Watched.freely (Then.stops (Then.goes (Watched.freely (Asks.asks refl))
      (Then.stops (Then.stops (Watched.freely (Then.goes (Watched.freely Returns.returns) (Asks.asks refl)))))))))
      (Steps.runs refl (Seen.gave (Watched.freely (Asks.asks refl)) refl) (Steps.ends refl)));
  reference_is_seen = Watched.freely (Steps.runs refl
      (Seen.gave (Then.goes (Watched.freely (Asks.asks refl)) Returns.returns) refl)
      (Steps.runs refl (Seen.gave (Watched.freely (Asks.asks refl)) refl) (Steps.ends refl)));
  second_child_is_read = Watched.freely (Steps.runs refl
      (Seen.gave (Watched.freely (Asks.asks refl)) refl)
      (Steps.runs refl (Seen.gave (Watched.freely (Then.goes (Then.goes (Watched.freely (Asks.asks refl)) Returns.returns) (Asks.asks refl))) refl) (Steps.ends refl)));
}
