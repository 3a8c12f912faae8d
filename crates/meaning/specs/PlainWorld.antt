-- A world that meets the premises. Nothing stands on it: it shows that the premises do not contradict each other, that
-- every kind of expression has a run, and in which order its parts run.
use Rattle.std.specs.Prelude.{ℕ, suc, Bool, true, false, cond, ◌&&◌, List, [], ◌∷◌, Some, None, Option, ◌==◌}
use Rattle.meaning.specs.Expression.{Units}
use Rattle.meaning.specs.Number.{Number, whole}
use Rattle.meaning.specs.Value.{Primitive, Value, Slots}
use Rattle.meaning.specs.World.{World, Result, Ending, Outcome, Next, undefined_value}
use Rattle.meaning.specs.Methods.{concat_name, pow_name, of_name, text_concat_result, array_concat_result, pow_result, array_of_result, unit_at, slot_at}

-- Its objects: one that every global name means, and the four methods. ECMA-262, "The Global Object".
pub data Thing : Type 0 where
  global pow array_of text_concat array_concat : Thing

-- Its values, with one BigInt and one symbol. ECMA-262, "ECMAScript Language Types".
abbrev pub PlainValue : Type 0
PlainValue = Value Thing (Unit {0}) (Unit {0})

abbrev pub PlainSlots : Type 0
PlainSlots = Slots Thing (Unit {0}) (Unit {0})

-- The values of a fresh array, holes as undefined. ECMA-262, "CreateArrayIterator".
abbrev pub slot_values : PlainSlots → List PlainValue
slot_values Slots.no_slots = []
slot_values (Slots.hole xs) = Value.primitive Primitive.undefined ∷ slot_values xs
slot_values (Slots.value v xs) = v ∷ slot_values xs

-- Of what can be spread there are only fresh arrays. ECMA-262, "GetIterator" and "IteratorStepValue".
abbrev pub iterated : PlainValue → Result (List PlainValue)
iterated (Value.primitive p) = Result.throws
iterated (Value.array xs) = Result.gives (slot_values xs)
iterated (Value.object o) = Result.throws

-- An opaque expression runs its first child, and gives its value, its key if it is a reference, and undefined if it
-- threw. ECMA-262, "The try Statement", which sees a throw too.
abbrev pub stepped : List (Outcome PlainValue) → ℕ → Next ℕ PlainValue
stepped [] s = Next.runs 0 s
stepped (Outcome.gave v ∷ os) s = Next.stops (Ending.ends (Result.gives v) s)
stepped (Outcome.threw ∷ os) s = Next.stops (Ending.ends (Result.gives (Value.primitive Primitive.undefined)) s)
stepped (Outcome.refers o k ∷ os) s = Next.stops (Ending.ends (Result.gives k) s)

-- A text's first unit, as a number. ECMA-262, "StringToNumber".
abbrev pub first_unit : Units → Number
first_unit [] = Number.nan
first_unit (u ∷ us) = Number.bits u

-- The world, but for its `get` and `apply`. Its state counts the names that were read so far, and the primitive of an
-- array or object is a text of one unit, which is that count: so a run shows when it was made.
abbrev pub world_with : (PlainValue → PlainValue → ℕ → Ending ℕ PlainValue) → (PlainValue → PlainValue → List PlainValue → ℕ → Ending ℕ PlainValue) → World
world_with get apply = record {
  State = ℕ;
  Object = Thing;
  Big = Unit {0};
  Symbol = Unit {0};
  read = λ u s. Ending.ends (Result.gives (Value.object Thing.global)) (suc s);
  get = get;
  apply = apply;
  iterate = λ v s. Ending.ends (iterated v) s;
  next = λ m os s. stepped os s;
  primitive = λ v h s. Result.gives (Primitive.text (s ∷ []));
  spread_out = λ o s. Result.gives None;
  big_binary = λ o a b. Result.gives a;
  big_minus = λ a. a;
  arith = λ o x y. x;
  number_text = λ x. [];
  big_text = λ b. [];
  text_number = first_unit;
  own = λ u. Value.object Thing.global;
  pow = Thing.pow;
  array_of = Thing.array_of;
  text_concat = Thing.text_concat;
  array_concat = Thing.array_concat;
}

-- The known methods and the reads at an index depend on neither `get` nor `apply`, so that any will do to say what they
-- give.
abbrev pub methods_world : World
methods_world = world_with (λ o k s. Ending.never) (λ f o vs s. Ending.never)

-- Two texts are one. ECMA-262, "IsStrictlyEqual".
abbrev pub same_units : Units → Units → Bool
same_units [] [] = true
same_units [] (b ∷ v) = false
same_units (a ∷ u) [] = false
same_units (a ∷ u) (b ∷ v) = a == b && same_units u v

-- A key is a name, an index or of no use here. ECMA-262, "ToPropertyKey".
pub data Key : Type 0 where
  named : Units → Key
  indexed : ℕ → Key
  other : Key

abbrev pub whole_key : Option ℕ → Key
whole_key None = Key.other
whole_key (Some k) = Key.indexed k

abbrev pub primitive_key : Primitive (Unit {0}) (Unit {0}) → Key
primitive_key Primitive.undefined = Key.other
primitive_key Primitive.null = Key.other
primitive_key (Primitive.boolean b) = Key.other
primitive_key (Primitive.number x) = whole_key (whole x)
primitive_key (Primitive.text u) = Key.named u
primitive_key (Primitive.bigint b) = Key.other
primitive_key (Primitive.symbol y) = Key.other

abbrev pub key_of : PlainValue → Key
key_of (Value.primitive p) = primitive_key p
key_of (Value.array xs) = Key.other
key_of (Value.object o) = Key.other

-- The properties of a text, a fresh array and an object. ECMA-262, "String Exotic Objects", "Array Exotic Objects",
-- "OrdinaryGet".
abbrev pub text_property : Units → Key → PlainValue
text_property u (Key.named k) = cond (same_units k concat_name) (Value.object Thing.text_concat) (undefined_value methods_world)
text_property u (Key.indexed k) = unit_at methods_world u k
text_property u Key.other = undefined_value methods_world

abbrev pub array_property : PlainSlots → Key → PlainValue
array_property xs (Key.named k) = cond (same_units k concat_name) (Value.object Thing.array_concat) (undefined_value methods_world)
array_property xs (Key.indexed k) = slot_at methods_world xs k
array_property xs Key.other = undefined_value methods_world

abbrev pub object_property : Key → PlainValue
object_property (Key.named k) =
    cond (same_units k pow_name) (Value.object Thing.pow)
    (cond (same_units k of_name) (Value.object Thing.array_of) (undefined_value methods_world))
object_property (Key.indexed k) = undefined_value methods_world
object_property Key.other = undefined_value methods_world

-- Undefined and null have no properties, and reading one throws. ECMA-262, "ToObject".
abbrev pub primitive_property : Primitive (Unit {0}) (Unit {0}) → Key → Result PlainValue
primitive_property Primitive.undefined k = Result.throws
primitive_property Primitive.null k = Result.throws
primitive_property (Primitive.boolean b) k = Result.gives (undefined_value methods_world)
primitive_property (Primitive.number x) k = Result.gives (undefined_value methods_world)
primitive_property (Primitive.text u) k = Result.gives (text_property u k)
primitive_property (Primitive.bigint b) k = Result.gives (undefined_value methods_world)
primitive_property (Primitive.symbol y) k = Result.gives (undefined_value methods_world)

abbrev pub property : PlainValue → Key → Result PlainValue
property (Value.primitive p) k = primitive_property p k
property (Value.array xs) k = Result.gives (array_property xs k)
property (Value.object o) k = Result.gives (object_property k)

-- The methods, applied. ECMA-262, "Math.pow", "Array.prototype.concat", "Array.of", "String.prototype.concat", "Call".
abbrev pub pow_applied : List PlainValue → ℕ → Result PlainValue
pow_applied [] s = Result.throws
pow_applied (a ∷ []) s = Result.throws
pow_applied (a ∷ (b ∷ vs)) s = pow_result methods_world a b s

abbrev pub array_concat_applied : PlainValue → List PlainValue → ℕ → Result PlainValue
array_concat_applied (Value.primitive p) vs s = Result.throws
array_concat_applied (Value.array xs) vs s = array_concat_result methods_world xs vs s
array_concat_applied (Value.object o) vs s = Result.throws

abbrev pub thing_applied : Thing → PlainValue → List PlainValue → ℕ → Result PlainValue
thing_applied Thing.global o vs s = Result.throws
thing_applied Thing.pow o vs s = pow_applied vs s
thing_applied Thing.array_of o vs s = Result.gives (array_of_result methods_world vs)
thing_applied Thing.text_concat o vs s = text_concat_result methods_world o vs s
thing_applied Thing.array_concat o vs s = array_concat_applied o vs s

abbrev pub applied : PlainValue → PlainValue → List PlainValue → ℕ → Result PlainValue
applied (Value.primitive p) o vs s = Result.throws
applied (Value.array xs) o vs s = Result.throws
applied (Value.object f) o vs s = thing_applied f o vs s

-- The world.
abbrev pub plain : World
plain = world_with (λ o k s. Ending.ends (property o (key_of k)) s) (λ f o vs s. Ending.ends (applied f o vs s) s)
