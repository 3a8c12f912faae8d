-- The calm runs, act by act.
use Rattle.std.proofs.Common.{refl}
use Rattle.std.specs.Prelude.{codes}
use Rattle.meaning.specs.Number.{exponent_field, fraction_field, whole_of_fields, whole, negative, positive_zero}
use Rattle.meaning.specs.Value.{join_slots, slots_of}
use Rattle.meaning.specs.World.{◌>>=◌, text_value}
use Rattle.meaning.specs.Coercion.{to_primitive, primitive_text, to_text, primitive_numeric, to_numeric, only_number, to_number, numeric_value, negative_numeric, unary_result, numeric_result, binary_result}
use Rattle.meaning.specs.Methods.{concat_name, pow_name, of_name, coercible, texts_joined, text_concat_result, unit_at}
use Rattle.meaning.specs.Acts.{Returns, Then, Asks, Settles, Still, Watched, Seen, Steps}
use Rattle.meaning.specs.Runs.{mean}
use Rattle.host.specs.QuietWorld.{quiet}
use Rattle.witnesses.specs.CalmKinds.{CalmAs, second_unit, EachKindCanBeCalm}

pub calm_kinds : EachKindCanBeCalm
unfolding mean join_slots slots_of ◌>>=◌ concat_name pow_name of_name to_primitive primitive_text to_text primitive_numeric to_numeric only_number to_number numeric_value negative_numeric unary_result numeric_result binary_result coercible texts_joined text_concat_result exponent_field fraction_field whole_of_fields whole negative positive_zero unit_at
calm_kinds = record {
  of_string = λ s. Watched.calmly Returns.returns Still.still;
  of_number = λ s. Watched.calmly Returns.returns Still.still;
  of_boolean = λ s. Watched.calmly Returns.returns Still.still;
  of_null = λ s. Watched.calmly Returns.returns Still.still;
  of_name = λ s. Watched.calmly (Asks.asks refl) Still.still;
  of_array = λ s. Watched.calmly (Then.goes
      (Then.goes (Watched.calmly Returns.returns Still.still) (Then.goes (Then.goes (Then.goes (Watched.calmly (Then.goes (Watched.calmly (Then.goes (Then.goes (Watched.calmly Returns.returns Still.still) (Then.goes Returns.returns Returns.returns)) Returns.returns) Still.still) (Asks.asks refl)) Still.still) (Then.goes (Then.goes (Watched.calmly Returns.returns Still.still) (Then.goes Returns.returns Returns.returns)) Returns.returns)) Returns.returns) Returns.returns))
      Returns.returns) Still.still;
  of_static_member = λ s. Watched.calmly (Then.goes (Then.goes (Watched.calmly (Asks.asks refl) Still.still) Returns.returns) (Asks.asks refl)) Still.still;
  of_computed_member = unit_calm;
  of_call = λ s. Watched.calmly (Then.goes
      (Then.goes (Then.goes (Watched.calmly Returns.returns Still.still) Returns.returns) (Then.goes (Asks.asks refl) Returns.returns))
      (Then.goes (Then.goes (Watched.calmly (Then.goes (Watched.calmly (Then.goes (Then.goes (Watched.calmly Returns.returns Still.still) (Then.goes Returns.returns Returns.returns)) Returns.returns) Still.still) (Asks.asks refl)) Still.still) (Then.goes (Then.goes (Watched.calmly Returns.returns Still.still) (Then.goes Returns.returns Returns.returns)) Returns.returns)) (Asks.asks refl))) Still.still;
  of_template = λ s. Watched.calmly (Then.goes (Then.goes (Watched.calmly Returns.returns Still.still) (Then.goes (Settles.settles refl) Returns.returns)) Returns.returns) Still.still;
  of_unary = λ s. Watched.calmly (Then.goes (Watched.calmly Returns.returns Still.still) (Settles.settles refl)) Still.still;
  of_binary = λ s. Watched.calmly (Then.goes (Watched.calmly Returns.returns Still.still) (Then.goes (Watched.calmly Returns.returns Still.still) (Settles.settles refl))) Still.still;
  of_opaque = λ s. Watched.calmly (Steps.runs refl (Seen.gave (unit_calm s) refl) (Steps.ends refl)) Still.still;
  of_reference = λ s. Watched.calmly (Steps.runs refl
      (Seen.gave (Then.goes (Watched.calmly Returns.returns Still.still) (Then.goes (Watched.calmly Returns.returns Still.still) Returns.returns)) refl)
      (Steps.ends refl)) Still.still;
}
  where
    unit_calm : CalmAs second_unit (text_value quiet (codes "b"))
    unit_calm s = Watched.calmly
        (Then.goes (Then.goes (Watched.calmly Returns.returns Still.still) (Then.goes (Watched.calmly Returns.returns Still.still) Returns.returns)) (Asks.asks refl))
        Still.still
