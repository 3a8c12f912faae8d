-- Runs that tell what was asked.
use Rattle.std.specs.Prelude.{◌≡◌, ℕ, [], ◌∷◌, codes}
use Rattle.tree.specs.declared.node.UnaryOperator.TheVariants.{Plus, Minus}
use Rattle.tree.specs.declared.node.BinaryOperator.{BinaryOperator}
use Rattle.tree.specs.declared.node.BinaryOperator.TheVariants.{Exponentiation, Subtraction, Division}
use Rattle.tree.specs.declared.node.FirstChild.{FirstChild}
use Rattle.meaning.specs.Expression.{Expression, Elements, Arguments, Quasi, Pieces, Children}
use Rattle.meaning.specs.Number.{Number}
use Rattle.meaning.specs.Value.{Primitive, Value, Slots}
use Rattle.meaning.specs.World.{Result, text_value, number_value, undefined_value}
use Rattle.meaning.specs.Methods.{text_concat_result, array_concat_result, pow_result}
use Rattle.meaning.specs.Runs.{Runs}
use Rattle.witnesses.specs.TellingWorld.{telling, TellingValue, two_slots}

abbrev pub Tells : Expression → TellingValue → ℕ → Type 0
Tells x v t = Runs telling x 0 (Result.gives v) t

-- The names x, y and f, as expressions and as the objects that they read as.
abbrev pub x_name : Expression
x_name = Expression.name 0 (codes "x")

abbrev pub y_name : Expression
y_name = Expression.name 0 (codes "y")

abbrev pub x_object : TellingValue
x_object = Value.object (codes "x")

abbrev pub y_object : TellingValue
y_object = Value.object (codes "y")

-- [x, ...null], which throws once x was read, since nothing can be spread here.
abbrev pub throws_late : Expression
throws_late = Expression.array 0 (Elements.item x_name (Elements.spread 0 (Expression.null 0) Elements.no_elements))

-- Two children of an opaque expression, and a BigInt.
abbrev pub both : Expression → Expression → Children
both x y = Children.child x (Children.child y Children.no_children)

abbrev pub big : ℕ → Expression
big n = Expression.opaque 0 FirstChild.Value n Children.no_children

abbrev pub big_value : ℕ → TellingValue
big_value n = Value.primitive (Primitive.bigint n)

abbrev pub TellsOperator : BinaryOperator → ℕ → Type 0
TellsOperator o n = Tells (Expression.binary 0 o x_name y_name) (number_value telling (Number.bits n)) 2

pub record RunsTell : Type 0 where
  -- f() has undefined as its receiver, and x.f() and x["f"]() have x
  pub no_receiver : Tells (Expression.call 0 (Expression.name 0 (codes "f")) Arguments.no_arguments) (undefined_value telling) 1
  pub object_as_receiver : Tells (Expression.call 0 (Expression.static_member 0 x_name (codes "f")) Arguments.no_arguments) x_object 1
  pub object_of_a_key : Tells (Expression.call 0 (Expression.computed_member 0 x_name (Expression.string 0 (codes "f"))) Arguments.no_arguments) x_object 1
  -- `${x}` asks x for a text, and so does `concat`; +x and -x ask it for a number, and so does `pow`
  pub template_asks_for_text : Tells (Expression.template 0 (Pieces.piece (Quasi.quasi 0 [] []) x_name (Pieces.last (Quasi.quasi 0 [] [])))) (text_value telling (codes "tx")) 1
  pub concat_asks_for_text : text_concat_result telling x_object (y_object ∷ []) 0 ≡ Result.gives (text_value telling (codes "txty"))
  pub plus_asks_for_number : Tells (Expression.unary 0 Plus x_name) (number_value telling (Number.bits 0x6E)) 1
  -- `${[x, y]}` asks for the primitive value of that array
  pub array_is_asked : Tells
      (Expression.template 0 (Pieces.piece (Quasi.quasi 0 [] []) (Expression.array 0 (Elements.item x_name (Elements.item y_name Elements.no_elements))) (Pieces.last (Quasi.quasi 0 [] []))))
      (text_value telling (0x74 ∷ 2 ∷ [])) 2
  -- x ** y, x - y and x / y, and `pow`, which is the first of them
  pub power : TellsOperator Exponentiation 1
  pub difference : TellsOperator Subtraction 2
  pub quotient : TellsOperator Division 3
  pub pow_is_power : pow_result telling x_object y_object 0 ≡ Result.gives (number_value telling (Number.bits 1))
  -- 3n - 4n, -3n and `${3n}`
  pub big_difference : Tells (Expression.binary 0 Subtraction (big 3) (big 4)) (big_value 234) 0
  pub big_negative : Tells (Expression.unary 0 Minus (big 3)) (big_value 1003) 0
  pub big_text : Tells (Expression.template 0 (Pieces.piece (Quasi.quasi 0 [] []) (big 3) (Pieces.last (Quasi.quasi 0 [] [])))) (text_value telling (3 ∷ [])) 0
  -- `concat` of an array spreads an object where the world says so, its hole included
  pub object_is_spread : array_concat_result telling Slots.no_slots (x_object ∷ []) 0
      ≡ Result.gives (Value.array (Slots.hole (Slots.value (text_value telling (codes "x")) Slots.no_slots)))
  -- a throw leaves the state that it came in
  pub throw_keeps_its_state : Runs telling throws_late 0 Result.throws 1
  -- an opaque expression sees its children's outcomes in order, a throw in the state that it left, and of a first child
  -- that is taken as a reference object and key
  pub outcomes_in_order : Tells (Expression.opaque 0 FirstChild.Value 0 (both x_name y_name)) (Value.array (two_slots x_object y_object)) 2
  pub throw_is_seen : Tells (Expression.opaque 0 FirstChild.Value 0 (both throws_late y_name)) (Value.array (two_slots (undefined_value telling) y_object)) 2
  pub reference_is_seen : Tells (Expression.opaque 0 FirstChild.Reference 0 (both (Expression.static_member 0 x_name (codes "f")) y_name))
      (Value.array (two_slots (Value.array (two_slots x_object (text_value telling (codes "f")))) y_object)) 2
  -- and a second child is never taken as one: x.f is read there, which gives its key
  pub second_child_is_read : Tells (Expression.opaque 0 FirstChild.Reference 0 (both y_name (Expression.static_member 0 x_name (codes "f"))))
      (Value.array (two_slots y_object (text_value telling (codes "f")))) 2
