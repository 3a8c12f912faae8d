-- Each kind of expression can be calm.
use Rattle.std.specs.Prelude.{ℕ, true, codes}
use Rattle.tree.specs.declared.node.UnaryOperator.TheVariants.{Minus}
use Rattle.tree.specs.declared.node.BinaryOperator.TheVariants.{Subtraction}
use Rattle.tree.specs.declared.node.FirstChild.{FirstChild}
use Rattle.meaning.specs.Expression.{Expression, Elements, Arguments, Quasi, Pieces, Children}
use Rattle.meaning.specs.Number.{Number}
use Rattle.meaning.specs.Value.{Primitive, Value, Slots}
use Rattle.meaning.specs.World.{text_value, number_value}
use Rattle.meaning.specs.PlainWorld.{Thing, PlainValue}
use Rattle.meaning.specs.Laws.{three, minus_three, one_bits}
use Rattle.meaning.specs.Runs.{Calm}
use Rattle.host.specs.QuietWorld.{quiet}

-- In the quiet world, where reading a name changes nothing, an expression is calm from every state.
abbrev pub CalmAs : Expression → PlainValue → Type 0
CalmAs x v = (s : ℕ) → Calm quiet x s v

abbrev pub text_a : Expression
text_a = Expression.string 0 (codes "a")

abbrev pub array_b : Expression
array_b = Expression.array 0 (Elements.item (Expression.string 0 (codes "b")) Elements.no_elements)

abbrev pub second_unit : Expression
second_unit = Expression.computed_member 0 (Expression.string 0 (codes "ab")) (Expression.number 0 one_bits)

pub record EachKindCanBeCalm : Type 0 where
  pub of_string : CalmAs text_a (text_value quiet (codes "a"))
  pub of_number : CalmAs (Expression.number 0 three) (number_value quiet (Number.bits three))
  pub of_boolean : CalmAs (Expression.boolean 0 true) (Value.primitive (Primitive.boolean true))
  pub of_null : CalmAs (Expression.null 0) (Value.primitive Primitive.null)
  pub of_name : CalmAs (Expression.name 0 (codes "Math")) (Value.object Thing.global)
  -- ["a", , ...["b"], "a"]
  pub of_array : CalmAs (Expression.array 0 (Elements.item text_a (Elements.hole 0 (Elements.spread 0 array_b (Elements.item text_a Elements.no_elements)))))
      (Value.array
      (Slots.value (text_value quiet (codes "a")) (Slots.hole (Slots.value (text_value quiet (codes "b")) (Slots.value (text_value quiet (codes "a")) Slots.no_slots)))))
  -- Math.pow
  pub of_static_member : CalmAs (Expression.static_member 0 (Expression.name 0 (codes "Math")) (codes "pow")) (Value.object Thing.pow)
  -- "ab"[1]
  pub of_computed_member : CalmAs second_unit (text_value quiet (codes "b"))
  -- "a".concat(...["b"], "a")
  pub of_call : CalmAs
      (Expression.call 0 (Expression.static_member 0 text_a (codes "concat")) (Arguments.spread_argument 0 array_b (Arguments.argument text_a Arguments.no_arguments)))
      (text_value quiet (codes "aba"))
  -- `a${null}b`
  pub of_template : CalmAs
      (Expression.template 0 (Pieces.piece (Quasi.quasi 0 (codes "a") (codes "a")) (Expression.null 0) (Pieces.last (Quasi.quasi 0 (codes "b") (codes "b")))))
      (text_value quiet (codes "anullb"))
  -- -3
  pub of_unary : CalmAs (Expression.unary 0 Minus (Expression.number 0 three)) (number_value quiet (Number.bits minus_three))
  -- 3 - null
  pub of_binary : CalmAs (Expression.binary 0 Subtraction (Expression.number 0 three) (Expression.null 0)) (number_value quiet (Number.bits three))
  -- an opaque expression that runs "ab"[1], and one that takes it as a reference
  pub of_opaque : CalmAs (Expression.opaque 0 FirstChild.Value 0 (Children.child second_unit Children.no_children)) (text_value quiet (codes "b"))
  pub of_reference : CalmAs (Expression.opaque 0 FirstChild.Reference 0 (Children.child second_unit Children.no_children)) (number_value quiet (Number.bits one_bits))
