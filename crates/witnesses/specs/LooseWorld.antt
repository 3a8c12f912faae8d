-- A world that keeps the premises and does nothing else: whatever they do not ask for never ends, or throws. So they
-- ask for no more than this. (No section of ECMA-262: no engine is like it.)
use Rattle.std.specs.Prelude.{ℕ, cond, List, [], ◌∷◌, ◌^◌, nat_lt}
use Rattle.meaning.specs.Expression.{Units}
use Rattle.meaning.specs.Value.{Primitive, Value}
use Rattle.meaning.specs.World.{World, Result, Ending, Next, undefined_value}
use Rattle.meaning.specs.Methods.{concat_name, pow_name, of_name, math_name, array_name, text_concat_result, array_concat_result, pow_result, array_of_result, unit_at, slot_at}
use Rattle.meaning.specs.Premises.{Premises}
use Rattle.meaning.specs.PlainWorld.{Thing, PlainValue, PlainSlots, Key, key_of, same_units, methods_world}

-- Math is one object, and Array another, its own function `of`. Other names are undefined.
abbrev pub loose_own : Units → PlainValue
loose_own u =
    cond (same_units u math_name) (Value.object Thing.global)
    (cond (same_units u array_name) (Value.object Thing.array_of) (undefined_value methods_world))

-- No name can be read, nothing iterates, no object has a primitive value or is spread, and no opaque expression ends.
abbrev pub loose_methods : World
loose_methods = record methods_world {
  read = λ u s. Ending.never;
  iterate = λ v s. Ending.never;
  next = λ m os s. Next.stops Ending.never;
  primitive = λ v h s. Result.throws;
  spread_out = λ o s. Result.throws;
  big_binary = λ o a b. Result.throws;
  own = loose_own;
}

abbrev pub there : PlainValue → ℕ → Ending ℕ PlainValue
there v s = Ending.ends (Result.gives v) s

-- A text and a fresh array have `concat` and what stands at an index of 32 bits, Math has `pow`, and Array has `of`.
abbrev pub text_got : Units → Key → ℕ → Ending ℕ PlainValue
text_got u (Key.named k) s = cond (same_units k concat_name) (there (Value.object Thing.text_concat) s) Ending.never
text_got u (Key.indexed k) s = cond (nat_lt k (2 ^ 32)) (there (unit_at methods_world u k) s) Ending.never
text_got u Key.other s = Ending.never

abbrev pub array_got : PlainSlots → Key → ℕ → Ending ℕ PlainValue
array_got xs (Key.named k) s = cond (same_units k concat_name) (there (Value.object Thing.array_concat) s) Ending.never
array_got xs (Key.indexed k) s = cond (nat_lt k (2 ^ 32)) (there (slot_at methods_world xs k) s) Ending.never
array_got xs Key.other s = Ending.never

abbrev pub object_got : Thing → Key → ℕ → Ending ℕ PlainValue
object_got Thing.global (Key.named k) s = cond (same_units k pow_name) (there (Value.object Thing.pow) s) Ending.never
object_got Thing.array_of (Key.named k) s = cond (same_units k of_name) (there (Value.object Thing.array_of) s) Ending.never
object_got o k s = Ending.never

abbrev pub loose_got : PlainValue → Key → ℕ → Ending ℕ PlainValue
loose_got (Value.primitive (Primitive.text u)) k s = text_got u k s
loose_got (Value.primitive p) k s = Ending.never
loose_got (Value.array xs) k s = array_got xs k s
loose_got (Value.object o) k s = object_got o k s

-- `concat` of texts takes any receiver, that of arrays a fresh array, `pow` two arguments, and `of` the receiver Array.
abbrev pub loose_applied : PlainValue → PlainValue → List PlainValue → ℕ → Ending ℕ PlainValue
loose_applied (Value.object Thing.text_concat) o vs s = Ending.ends (text_concat_result loose_methods o vs s) s
loose_applied (Value.object Thing.array_concat) (Value.array xs) vs s = Ending.ends (array_concat_result loose_methods xs vs s) s
loose_applied (Value.object Thing.pow) o (a ∷ (b ∷ [])) s = Ending.ends (pow_result loose_methods a b s) s
loose_applied (Value.object Thing.array_of) (Value.object Thing.array_of) vs s = there (array_of_result loose_methods vs) s
loose_applied f o vs s = Ending.never

abbrev pub loose : World
loose = record loose_methods { get = λ o k s. loose_got o (key_of k) s; apply = loose_applied }

abbrev pub ThePremisesAskNoMore : Type 0
ThePremisesAskNoMore = Premises loose
