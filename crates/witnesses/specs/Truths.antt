-- Each thing that a host can say is true of some part, in some world.
use Rattle.std.specs.Prelude.{false, true, codes}
use Rattle.tree.specs.declared.node.UnaryOperator.TheVariants.{Void}
use Rattle.meaning.specs.Expression.{Expression, Quasi}
use Rattle.meaning.specs.World.{Result}
use Rattle.meaning.specs.Runs.{Runs}
use Rattle.meaning.specs.Parts.{Part}
use Rattle.meaning.specs.Laws.{three}
use Rattle.host.specs.declared.value_type.ValueType.{ValueType}
use Rattle.host.specs.declared.value_type.ValueType.TheVariants.{Undefined, Null, Number, BigInt, String, Boolean, Object}
use Rattle.host.specs.Truth.{HasType}
use Rattle.host.specs.QuietWorld.{quiet}
use Rattle.host.specs.Laws.{TrueRow}
use Rattle.witnesses.specs.CalmKinds.{text_a, array_b}
use Rattle.witnesses.specs.TellingWorld.{telling}
use Rattle.witnesses.specs.Told.{big, big_value}

-- No effects, no global name, and this type.
abbrev pub TrueOfType : ValueType → Part → Type 0
TrueOfType k p = TrueRow quiet (record { effects = false; global = false; value_type = k }) p

pub record EachAnswerCanBeTrue : Type 0 where
  -- void "a", null, 3, "a", true and ["b"]
  pub undefined : TrueOfType Undefined (Part.expression (Expression.unary 0 Void text_a))
  pub null : TrueOfType Null (Part.expression (Expression.null 0))
  pub number : TrueOfType Number (Part.expression (Expression.number 0 three))
  pub string : TrueOfType String (Part.expression text_a)
  pub boolean : TrueOfType Boolean (Part.expression (Expression.boolean 0 true))
  pub object : TrueOfType Object (Part.expression array_b)
  -- a hole, `...["b"]` and a quasi, of which any type may be said
  pub hole : TrueOfType Null (Part.hole 0)
  pub spread : TrueOfType Object (Part.spread 0 array_b)
  pub quasi : TrueOfType String (Part.quasi (Quasi.quasi 0 (codes "a") (codes "a")))
  -- an opaque expression that gives a BigInt
  pub bigint : HasType telling BigInt (Part.expression (big 3))
  pub bigint_is_given : Runs telling (big 3) 0 (Result.gives (big_value 3)) 0
