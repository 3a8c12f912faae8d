-- What is true of each part.
use Rattle.std.proofs.Common.{◌≡◌, ℕ, true, refl, subst, arith}
use Rattle.tree.specs.declared.node.UnaryOperator.TheVariants.{Void}
use Rattle.meaning.specs.Expression.{Expression}
use Rattle.meaning.specs.Value.{Primitive, Value}
use Rattle.meaning.specs.World.{◌>>=◌}
use Rattle.meaning.specs.Coercion.{unary_result}
use Rattle.meaning.specs.Acts.{Returns, Then, Asks, Settles, Still, Watched, Steps}
use Rattle.meaning.specs.Runs.{mean}
use Rattle.meaning.specs.Parts.{Part}
use Rattle.meaning.specs.Laws.{three}
use Rattle.host.specs.declared.value_type.ValueType.TheVariants.{Undefined, Null, Number, BigInt, String, Boolean, Object}
use Rattle.host.specs.Truth.{OfType, WithoutEffects, HasType}
use Rattle.host.specs.QuietWorld.{quiet}
use Rattle.host.proofs.Knowing.{false_true}
use Rattle.witnesses.specs.CalmKinds.{text_a, array_b}
use Rattle.witnesses.specs.TellingWorld.{telling}
use Rattle.witnesses.specs.Told.{big}
use Rattle.witnesses.specs.Truths.{EachAnswerCanBeTrue}

array_calm : WithoutEffects quiet (Part.expression array_b)
unfolding mean
array_calm s = (_, Watched.calmly (Then.goes (Then.goes (Watched.calmly Returns.returns Still.still) (Then.goes Returns.returns Returns.returns)) Returns.returns) Still.still)

spread_calm : WithoutEffects quiet (Part.spread 0 array_b)
unfolding mean
spread_calm s = (
  _,
  Watched.calmly (Then.goes
      (Watched.calmly (Then.goes (Then.goes (Watched.calmly Returns.returns Still.still) (Then.goes Returns.returns Returns.returns)) Returns.returns) Still.still)
      (Asks.asks refl)) Still.still,
)

undefined_typed : HasType quiet Undefined (Part.expression (Expression.unary 0 Void text_a))
unfolding mean unary_result ◌>>=◌
undefined_typed s v t (Watched.freely (Then.goes d (Settles.settles e))) = let i : Value.primitive Primitive.undefined ≡ v = cc in subst (OfType quiet Undefined) i refl

null_typed : HasType quiet Null (Part.expression (Expression.null 0))
unfolding mean
null_typed s v t (Watched.freely Returns.returns) = refl

number_typed : HasType quiet Number (Part.expression (Expression.number 0 three))
unfolding mean
number_typed s v t (Watched.freely Returns.returns) = (_, refl)

string_typed : HasType quiet String (Part.expression text_a)
unfolding mean
string_typed s v t (Watched.freely Returns.returns) = (_, refl)

boolean_typed : HasType quiet Boolean (Part.expression (Expression.boolean 0 true))
unfolding mean
boolean_typed s v t (Watched.freely Returns.returns) = (_, refl)

object_typed : HasType quiet Object (Part.expression array_b)
unfolding mean
object_typed s v t (Watched.freely (Then.goes d Returns.returns)) = tt

bigint_typed : HasType telling BigInt (Part.expression (big 3))
unfolding mean
bigint_typed s v t (Watched.freely (Steps.ends e)) = let i : Value.primitive (Primitive.bigint 3) ≡ v = cc in subst (OfType telling BigInt) i (_, refl)
bigint_typed s v t (Watched.freely (Steps.runs e d f)) = let z : ◌≡◌ {A = ℕ} 0 1 = cc in absurd (omega arith)

pub true_parts : EachAnswerCanBeTrue
unfolding mean unary_result
true_parts = record {
  undefined = record { effects = λ e s. (_, Watched.calmly (Then.goes (Watched.calmly Returns.returns Still.still) (Settles.settles refl)) Still.still); value_type = undefined_typed; global = λ e. false_true e };
  null = record { effects = λ e s. (_, Watched.calmly Returns.returns Still.still); value_type = null_typed; global = λ e. false_true e };
  number = record { effects = λ e s. (_, Watched.calmly Returns.returns Still.still); value_type = number_typed; global = λ e. false_true e };
  string = record { effects = λ e s. (_, Watched.calmly Returns.returns Still.still); value_type = string_typed; global = λ e. false_true e };
  boolean = record { effects = λ e s. (_, Watched.calmly Returns.returns Still.still); value_type = boolean_typed; global = λ e. false_true e };
  object = record { effects = λ e. array_calm; value_type = object_typed; global = λ e. false_true e };
  hole = record { effects = λ e. tt; value_type = tt; global = λ e. false_true e };
  spread = record { effects = λ e. spread_calm; value_type = tt; global = λ e. false_true e };
  quasi = record { effects = λ e. tt; value_type = tt; global = λ e. false_true e };
  bigint = bigint_typed;
  bigint_is_given = Watched.freely (Steps.ends refl);
}
