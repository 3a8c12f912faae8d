-- The definitions that compute give what an engine gave.
use Rattle.std.specs.Prelude.{◌≡◌, map}
use Rattle.meaning.specs.Number.{whole, negative}
use Rattle.meaning.specs.World.{World}
use Rattle.meaning.specs.Coercion.{primitive_text, primitive_numeric, unary_result, binary_result}
use Rattle.meaning.specs.Methods.{coercible, text_concat_result, array_concat_result, pow_result, array_of_result, unit_at, slot_at}
use Rattle.meaning.specs.Engine.{text_concat_inputs, text_concat_outputs, array_concat_inputs, array_concat_outputs}
use Rattle.meaning.specs.Engine.{array_of_inputs, array_of_outputs, unit_at_inputs, unit_at_outputs, slot_at_inputs, slot_at_outputs}
use Rattle.meaning.specs.Engine.{primitive_text_inputs, primitive_text_outputs, primitive_numeric_inputs, primitive_numeric_outputs}
use Rattle.meaning.specs.Engine.{coercible_inputs, coercible_outputs, unary_inputs, unary_outputs, binary_inputs, binary_outputs}
use Rattle.meaning.specs.Engine.{pow_inputs, pow_outputs, whole_inputs, whole_outputs, negative_inputs, negative_outputs}

-- Of numbers.
pub record NumbersAgree : Type 0 where
  pub whole_numbers : map whole whole_inputs ≡ whole_outputs
  pub negatives : map negative negative_inputs ≡ negative_outputs

-- Of values, with any object, BigInt and symbol of the world, and from any state.
pub record ValuesAgree (w : World) (o : w.Object) (b : w.Big) (y : w.Symbol) (s : w.State) : Type 0 where
  pub text_concat : map (λ i. text_concat_result w i.0 i.1 s) (text_concat_inputs w o b y) ≡ text_concat_outputs w o b y
  pub array_concat : map (λ i. array_concat_result w i.0 i.1 s) (array_concat_inputs w o b y) ≡ array_concat_outputs w o b y
  pub array_of : map (λ vs. array_of_result w vs) (array_of_inputs w o b y) ≡ array_of_outputs w o b y
  pub units : map (λ i. unit_at w i.0 i.1) (unit_at_inputs w o b y) ≡ unit_at_outputs w o b y
  pub slots : map (λ i. slot_at w i.0 i.1) (slot_at_inputs w o b y) ≡ slot_at_outputs w o b y
  pub texts : map (λ p. primitive_text w p) (primitive_text_inputs w o b y) ≡ primitive_text_outputs w o b y
  pub numerics : map (λ p. primitive_numeric w p) (primitive_numeric_inputs w o b y) ≡ primitive_numeric_outputs w o b y
  pub coercibles : map (λ v. coercible w v) (coercible_inputs w o b y) ≡ coercible_outputs w o b y
  pub unary : map (λ i. unary_result w i.0 i.1 s) (unary_inputs w o b y) ≡ unary_outputs w o b y
  pub binary : map (λ i. binary_result w i.0 i.1 i.2 s) (binary_inputs w o b y) ≡ binary_outputs w o b y
  pub pow : map (λ i. pow_result w i.0 i.1 s) (pow_inputs w o b y) ≡ pow_outputs w o b y

abbrev pub TheEngineAgrees : World → Type 0
TheEngineAgrees w = NumbersAgree × ((o : w.Object) (b : w.Big) (y : w.Symbol) (s : w.State) → ValuesAgree w o b y s)
