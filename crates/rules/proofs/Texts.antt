-- A value of a settled type has one text, and is read by `concat` in one way, whatever the state.
use Rattle.std.proofs.Common.{◌≡◌, Bool, true, false, ap, ◌∙◌, refl}
use Rattle.host.specs.declared.value_type.ValueType.{ValueType}
use Rattle.host.specs.declared.value_type.ValueType.TheVariants.{Undetermined, Undefined, Null, Number, BigInt, String, Boolean, Object}
use Rattle.meaning.specs.Expression.{Expression, Units}
use Rattle.meaning.specs.Value.{Primitive, Value}
use Rattle.meaning.specs.World.{World, ValueIn, PrimitiveIn, SlotsIn, Result, ◌>>=◌}
use Rattle.meaning.specs.Coercion.{to_primitive, primitive_text, to_text}
use Rattle.meaning.specs.Methods.{spread_slots}
use Rattle.meaning.specs.Runs.{Runs}
use Rattle.host.specs.Truth.{OfType, PrimitiveOfType, TypeOfObjects}
use Rattle.rules.specs.Facts.{true_in}
use Rattle.rules.specs.Interleaves.{settled, SettledType}
use Rattle.rules.proofs.Absurd.{false_true}

-- every value of x has one text, whatever the state
abbrev pub OneText : World → Expression → Type 0
OneText w x = (s : w.State) (v : ValueIn w) (t : w.State) → Runs w x s (Result.gives v) t → (u : Units) × ((s : w.State) → to_text w v s ≡ Result.gives u)

-- every value of x is read as concat reads it in one way, whatever the state
abbrev pub OneSpread : World → Expression → Type 0
OneSpread w x = (s : w.State) (v : ValueIn w) (t : w.State) → Runs w x s (Result.gives v) t → (a : SlotsIn w) × ((s : w.State) → spread_slots w v s ≡ Result.gives a)

module _ (w : World) where
  primitive_one : (p : PrimitiveIn w) (u : Units) → primitive_text w p ≡ Result.gives u → (v : Units) × ((s : w.State) → to_text w (Value.primitive p) s ≡ Result.gives v)
  unfolding to_text to_primitive ◌>>=◌
  primitive_one p u e = (u, λ s. e)

  boolean_text : (b : Bool) → (u : Units) × (primitive_text w (Primitive.boolean b) ≡ Result.gives u)
  unfolding primitive_text
  boolean_text true = (_, refl)
  boolean_text false = (_, refl)

  settled_text : (t : ValueType) (p : PrimitiveIn w) → settled t ≡ true → PrimitiveOfType w t p → (u : Units) × (primitive_text w p ≡ Result.gives u)
  unfolding settled primitive_text
  settled_text Undetermined p e h = false_true e
  settled_text Object p e h = absurd h
  settled_text Undefined p e h = (_, ap (primitive_text w) h)
  settled_text Null p e h = (_, ap (primitive_text w) h)
  settled_text Number p e h = (_, ap (primitive_text w) h.1)
  settled_text BigInt p e h = (_, ap (primitive_text w) h.1)
  settled_text String p e h = (_, ap (primitive_text w) h.1)
  settled_text Boolean p e h = let i = boolean_text h.0 in (i.0, ap (primitive_text w) h.1 ∙ i.1)

  no_object : {A : Type 0} (t : ValueType) → settled t ≡ true → TypeOfObjects w t → A
  unfolding settled
  no_object Undetermined e h = false_true e
  no_object Object e h = false_true e
  no_object Undefined e h = absurd h
  no_object Null e h = absurd h
  no_object Number e h = absurd h
  no_object BigInt e h = absurd h
  no_object String e h = absurd h
  no_object Boolean e h = absurd h

  value_text : (t : ValueType) (v : ValueIn w) → settled t ≡ true → OfType w t v → (u : Units) × ((s : w.State) → to_text w v s ≡ Result.gives u)
  value_text t (Value.primitive p) e h = let i = settled_text t p e h in primitive_one p i.0 i.1
  value_text t (Value.array xs) e h = no_object t e h
  value_text t (Value.object o) e h = no_object t e h

  value_slots : (t : ValueType) (v : ValueIn w) → settled t ≡ true → OfType w t v → (a : SlotsIn w) × ((s : w.State) → spread_slots w v s ≡ Result.gives a)
  unfolding spread_slots
  value_slots t (Value.primitive p) e h = (_, λ s. refl)
  value_slots t (Value.array xs) e h = (_, λ s. refl)
  value_slots t (Value.object o) e h = no_object t e h

  pub one_text : (x : Expression) → SettledType (true_in w) x → OneText w x
  one_text x h s v t d = value_text h.0 v h.2 (h.1 s v t d)

  pub one_spread : (x : Expression) → SettledType (true_in w) x → OneSpread w x
  one_spread x h s v t d = value_slots h.0 v h.2 (h.1 s v t d)
