-- The laws of runs.
use Rattle.std.specs.Prelude.{◌≡◌, ℕ, true, [], ◌∷◌, Some, None, codes}
use Rattle.tree.specs.declared.node.UnaryOperator.TheVariants.{Minus}
use Rattle.tree.specs.declared.node.BinaryOperator.TheVariants.{Subtraction}
use Rattle.tree.specs.declared.node.FirstChild.{FirstChild}
use Rattle.meaning.specs.Expression.{Expression, Elements, Arguments, Quasi, Pieces, Children}
use Rattle.meaning.specs.Number.{Number, whole, negative, one}
use Rattle.meaning.specs.Value.{Primitive, Value, Slots}
use Rattle.meaning.specs.World.{World, ValueIn, Result, text_value, number_value}
use Rattle.meaning.specs.Runs.{Runs, Calm}
use Rattle.meaning.specs.Premises.{Premises}
use Rattle.meaning.specs.Replacing.{Keeps, Swap}
use Rattle.meaning.specs.PlainWorld.{Thing, PlainValue, plain}

-- From one state an expression's run has at most one result and state.
abbrev pub ARunIsDetermined : World → Type 0
ARunIsDetermined w =
    (x : Expression) (s : w.State) (r r2 : Result (ValueIn w)) (t t2 : w.State)
    → Runs w x s r t → Runs w x s r2 t2 → (r ≡ r2) × (t ≡ t2)

-- A calm run is a run.
abbrev pub ACalmRunIsARun : World → Type 0
ACalmRunIsARun w = (x : Expression) (s : w.State) (v : ValueIn w) → Calm w x s v → Runs w x s (Result.gives v) s

-- Where `old` and `new` have the same runs, and what was calm stays calm, so it is with an expression and what it
-- becomes when `new` replaces `old` at one place, however the whole is taken.
abbrev pub AlikeExpressionsReplaceEachOther : World → Type 0
AlikeExpressionsReplaceEachOther w =
    (old new x y : Expression) (taken : FirstChild) → Keeps w old new → Swap old new taken x y → Keeps w x y

-- 0, −0, 1, 3 and 4294967295 are whole numbers from 0; 0.5, −1, the smallest positive number, infinity and NaN are
-- none.
abbrev pub WholeExamples : Type 0
WholeExamples =
    (whole (Number.bits 0) ≡ Some 0) × (whole (Number.bits 0x8000000000000000) ≡ Some 0) × (whole one ≡ Some 1)
    × (whole (Number.bits 0x4008000000000000) ≡ Some 3) × (whole (Number.bits 0x41EFFFFFFFE00000) ≡ Some 4294967295)
    × (whole (Number.bits 0x3FE0000000000000) ≡ None) × (whole (negative one) ≡ None) × (whole (Number.bits 1) ≡ None)
    × (whole (Number.bits 0x7FF0000000000000) ≡ None) × (whole Number.nan ≡ None)

-- In the plain world, from a state, an expression gives a value in a state.
abbrev pub Gives : Expression → ℕ → PlainValue → ℕ → Type 0
Gives x s v t = Runs plain x s (Result.gives v) t

-- The bits of 3, −3 and 1.
abbrev pub three : ℕ
three = 0x4008000000000000

abbrev pub minus_three : ℕ
minus_three = 0xC008000000000000

abbrev pub one_bits : ℕ
one_bits = 0x3FF0000000000000

-- A run of each kind of expression in the plain world, a hole, a spread and quasis among them, whose state counts the
-- names that were read.
pub record EachKindRuns : Type 0 where
  -- "ab"
  pub of_string : Gives (Expression.string 0 (codes "ab")) 0 (text_value plain (codes "ab")) 0
  -- 3
  pub of_number : Gives (Expression.number 0 three) 0 (number_value plain (Number.bits three)) 0
  -- true
  pub of_boolean : Gives (Expression.boolean 0 true) 0 (Value.primitive (Primitive.boolean true)) 0
  -- null
  pub of_null : Gives (Expression.null 0) 0 (Value.primitive Primitive.null) 0
  -- Math
  pub of_name : Gives (Expression.name 0 (codes "Math")) 0 (Value.object Thing.global) 1
  -- ["a", , ...["b"]]
  pub of_array : Gives
      (Expression.array 0 (Elements.item (Expression.string 0 (codes "a"))
      (Elements.hole 0 (Elements.spread 0 (Expression.array 0 (Elements.item (Expression.string 0 (codes "b")) Elements.no_elements)) Elements.no_elements))))
      0 (Value.array (Slots.value (text_value plain (codes "a")) (Slots.hole (Slots.value (text_value plain (codes "b")) Slots.no_slots)))) 0
  -- Math.pow
  pub of_static_member : Gives (Expression.static_member 0 (Expression.name 0 (codes "Math")) (codes "pow")) 0 (Value.object Thing.pow) 1
  -- "ab"[1]
  pub of_computed_member : Gives (Expression.computed_member 0 (Expression.string 0 (codes "ab")) (Expression.number 0 one_bits)) 0 (text_value plain (codes "b")) 0
  -- "a".concat("b", ...["c"])
  pub of_call : Gives
      (Expression.call 0 (Expression.static_member 0 (Expression.string 0 (codes "a")) (codes "concat"))
      (Arguments.argument (Expression.string 0 (codes "b"))
      (Arguments.spread_argument 0 (Expression.array 0 (Elements.item (Expression.string 0 (codes "c")) Elements.no_elements)) Arguments.no_arguments)))
      0 (text_value plain (codes "abc")) 0
  -- `a${null}b`
  pub of_template : Gives
      (Expression.template 0 (Pieces.piece (Quasi.quasi 0 (codes "a") (codes "a")) (Expression.null 0) (Pieces.last (Quasi.quasi 0 (codes "b") (codes "b")))))
      0 (text_value plain (codes "anullb")) 0
  -- -3
  pub of_unary : Gives (Expression.unary 0 Minus (Expression.number 0 three)) 0 (number_value plain (Number.bits minus_three)) 0
  -- 3 - null
  pub of_binary : Gives (Expression.binary 0 Subtraction (Expression.number 0 three) (Expression.null 0)) 0 (number_value plain (Number.bits three)) 0
  -- an opaque expression that takes "ab"[1] as a reference: it is not read, and in this world its key is the value
  pub of_opaque : Gives
      (Expression.opaque 0 FirstChild.Reference 0 (Children.child (Expression.computed_member 0 (Expression.string 0 (codes "ab")) (Expression.number 0 one_bits)) Children.no_children))
      0 (number_value plain (Number.bits one_bits)) 0
  -- [null.a], which throws
  pub of_throw : Runs plain (Expression.array 0 (Elements.item (Expression.static_member 0 (Expression.null 0) (codes "a")) Elements.no_elements)) 0 Result.throws 0
  -- an opaque expression that sees a throw
  pub of_seen_throw : Gives
      (Expression.opaque 0 FirstChild.Value 0 (Children.child (Expression.static_member 0 (Expression.null 0) (codes "a")) Children.no_children))
      0 (Value.primitive Primitive.undefined) 0

-- The names x and y.
abbrev pub x_name : Expression
x_name = Expression.name 0 (codes "x")

abbrev pub y_name : Expression
y_name = Expression.name 0 (codes "y")

-- Runs in the plain world that show an order: the state that a throw leaves, and the text of an object, tell how many
-- names had been read by then.
pub record OrderShows : Type 0 where
  -- `${x}${y}`: the text of x is made before y is read, so the units are 1 and 2
  pub template_makes_text_at_once : Gives
      (Expression.template 0 (Pieces.piece (Quasi.quasi 0 [] []) x_name (Pieces.piece (Quasi.quasi 0 [] []) y_name (Pieces.last (Quasi.quasi 0 [] [])))))
      0 (text_value plain (1 ∷ 2 ∷ [])) 2
  -- x - y: both are read before x is made a number, which is 2 here, and this world's difference is its left side
  pub operands_run_first : Gives (Expression.binary 0 Subtraction x_name y_name) 0 (number_value plain (Number.bits 2)) 2
  -- null.a(x): the callee's property is read before the arguments run, and that throws
  pub callee_before_arguments : Runs plain
      (Expression.call 0 (Expression.static_member 0 (Expression.null 0) (codes "a")) (Arguments.argument x_name Arguments.no_arguments)) 0 Result.throws 0
  -- null(x): what is no function throws once the arguments have run
  pub arguments_before_call : Runs plain (Expression.call 0 (Expression.null 0) (Arguments.argument x_name Arguments.no_arguments)) 0 Result.throws 1
  -- null[x]: object and key run before the property is read, and that throws
  pub key_before_property : Runs plain (Expression.computed_member 0 (Expression.null 0) x_name) 0 Result.throws 1
  -- [...null, x]: a spread is iterated before the next element runs, and null throws
  pub spread_before_next : Runs plain
      (Expression.array 0 (Elements.spread 0 (Expression.null 0) (Elements.item x_name Elements.no_elements))) 0 Result.throws 0

-- ["a"] is calm in the plain world, and [x] is not, since reading x changes the state.
pub record CalmShows : Type 0 where
  pub a_string_is_calm : Calm plain (Expression.array 0 (Elements.item (Expression.string 0 (codes "a")) Elements.no_elements)) 0
      (Value.array (Slots.value (text_value plain (codes "a")) Slots.no_slots))
  pub a_name_is_not : (v : PlainValue) → Calm plain (Expression.array 0 (Elements.item x_name Elements.no_elements)) 0 v → ⊥

-- There is a world that meets the premises, in which every kind of expression has a run, and order and calm show.
abbrev pub ThePremisesCanBeMet : Type 0
ThePremisesCanBeMet = Premises plain × EachKindRuns × OrderShows × CalmShows
