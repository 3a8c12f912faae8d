-- A world in which results tell what was asked: of which object, with which hint, by which operator, in which order.
-- It shows what the plain world does not.
use Rattle.std.specs.Prelude.{ℕ, zero, suc, ◌+◌, ◌*◌, List, [], ◌∷◌, Some, codes}
use Rattle.tree.specs.declared.node.BinaryOperator.{BinaryOperator}
use Rattle.tree.specs.declared.node.BinaryOperator.TheVariants.{Exponentiation, Subtraction, Division}
use Rattle.meaning.specs.Expression.{Units}
use Rattle.meaning.specs.Number.{Number}
use Rattle.meaning.specs.Value.{Primitive, Value, Slots}
use Rattle.meaning.specs.World.{World, Result, Ending, Outcome, Next, Hint}
use Rattle.meaning.specs.PlainWorld.{first_unit}

-- An object is the name that it was read by, and a BigInt a number from 0 on.
abbrev pub TellingValue : Type 0
TellingValue = Value Units ℕ (Unit {0})

abbrev pub TellingSlots : Type 0
TellingSlots = Slots Units ℕ (Unit {0})

abbrev pub two_slots : TellingValue → TellingValue → TellingSlots
two_slots v u = Slots.value v (Slots.value u Slots.no_slots)

abbrev pub slot_count : TellingSlots → ℕ
slot_count Slots.no_slots = 0
slot_count (Slots.hole xs) = suc (slot_count xs)
slot_count (Slots.value v xs) = suc (slot_count xs)

-- n for a number, and t for a text. ECMA-262, "ToPrimitive".
abbrev pub hint_unit : Hint → ℕ
hint_unit Hint.for_number = 0x6E
hint_unit Hint.for_text = 0x74

-- The primitive value of an array or an object is a text: the hint, and behind it how many slots there are, or the
-- object's name. ECMA-262, "ToPrimitive".
abbrev pub told_primitive : TellingValue → Hint → ℕ → Result (Primitive ℕ (Unit {0}))
told_primitive (Value.primitive p) h s = Result.gives p
told_primitive (Value.array xs) h s = Result.gives (Primitive.text (hint_unit h ∷ slot_count xs ∷ []))
told_primitive (Value.object o) h s = Result.gives (Primitive.text (hint_unit h ∷ o))

-- What was seen of a child: its value; undefined where it threw; or object and key. ECMA-262, "Completion".
abbrev pub seen : Outcome TellingValue → TellingValue
seen (Outcome.gave v) = v
seen Outcome.threw = Value.primitive Primitive.undefined
seen (Outcome.refers o k) = Value.array (two_slots o k)

-- The opaque expression with the mark 0 runs two children, and gives an array of what it saw, in this order. With any
-- other mark it gives a BigInt.
abbrev pub told_next : (mark : ℕ) → List (Outcome TellingValue) → ℕ → Next ℕ TellingValue
told_next zero [] s = Next.runs 0 s
told_next zero (a ∷ []) s = Next.runs 1 s
told_next zero (a ∷ (b ∷ os)) s = Next.stops (Ending.ends (Result.gives (Value.array (two_slots (seen a) (seen b)))) s)
told_next (suc m) os s = Next.stops (Ending.ends (Result.gives (Value.primitive (Primitive.bigint (suc m)))) s)

abbrev pub operator_number : BinaryOperator → ℕ
operator_number Exponentiation = 1
operator_number Subtraction = 2
operator_number Division = 3

-- The state counts the names that were read. A property is its key, a function gives its receiver, and nothing can be
-- spread among elements or arguments. `Array.prototype.concat` spreads each object as a hole and its name.
abbrev pub telling : World
telling = record {
  State = ℕ;
  Object = Units;
  Big = ℕ;
  Symbol = Unit {0};
  read = λ u s. Ending.ends (Result.gives (Value.object u)) (suc s);
  get = λ o k s. Ending.ends (Result.gives k) s;
  apply = λ f o vs s. Ending.ends (Result.gives o) s;
  iterate = λ v s. Ending.ends Result.throws s;
  next = told_next;
  primitive = told_primitive;
  spread_out = λ o s. Result.gives (Some (Slots.hole (Slots.value (Value.primitive (Primitive.text o)) Slots.no_slots)));
  big_binary = λ o a b. Result.gives (operator_number o * 100 + a * 10 + b);
  big_minus = λ a. a + 1000;
  arith = λ o x y. Number.bits (operator_number o);
  number_text = λ x. [];
  big_text = λ b. b ∷ [];
  text_number = first_unit;
  own = λ u. Value.object u;
  pow = codes "pow";
  array_of = codes "of";
  text_concat = codes "concat";
  array_concat = codes "concat";
}
