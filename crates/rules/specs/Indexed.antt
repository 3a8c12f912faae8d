-- What a string or an array literal becomes at an index, as a relation.
use Rattle.std.specs.Prelude.{◌≡◌, ℕ, zero, suc, ◌^◌, ◌<◌, false, [], ◌∷◌, Some, None, slice_get}
use Rattle.meaning.specs.Expression.{Expression, Elements, Units}
use Rattle.meaning.specs.Number.{Number, whole}
use Rattle.meaning.specs.Parts.{Part}
use Rattle.rules.specs.Facts.{Facts}
use Rattle.rules.specs.Building.{void_zero}

-- A text's one unit at an index, as a new string, and `void 0` past its end. ECMA-262, "String Exotic Objects".
pub data UnitAt (next : ℕ) (u : Units) (k : ℕ) : Expression → Type 0 where
  unit : {v : ℕ} → slice_get u k ≡ Some v → UnitAt next u k (Expression.string next (v ∷ []))
  past_end : slice_get u k ≡ None → UnitAt next u k (void_zero next)

-- The element at an index, `void 0` for a hole, where no spread stands there or before it. ECMA-262, "Array
-- Initializer", Elision, which makes no property.
pub data ElementAt (next : ℕ) : Elements → ℕ → Expression → Type 0 where
  item_here : {x : Expression} {xs : Elements} → ElementAt next (Elements.item x xs) zero x
  hole_here : {l : ℕ} {xs : Elements} → ElementAt next (Elements.hole l xs) zero (void_zero next)
  past_item : {x y : Expression} {xs : Elements} {k : ℕ} → ElementAt next xs k y → ElementAt next (Elements.item x xs) (suc k) y
  past_hole : {l : ℕ} {y : Expression} {xs : Elements} {k : ℕ} → ElementAt next xs k y → ElementAt next (Elements.hole l xs) (suc k) y

-- A string or an array literal without effects, at a number node that is whole and that 32 bits hold. ECMA-262,
-- "Property Accessors"; oxc_minifier's `try_fold_integer_index_access`.
pub data PropertyBecomes (f : Facts) (next : ℕ) : Expression → Expression → Type 0 where
  of_string : {m i j n k : ℕ} {u : Units} {y : Expression}
      → f.effects false (Part.expression (Expression.string i u)) → whole (Number.bits n) ≡ Some k → k < 2 ^ 32 → UnitAt next u k y
      → PropertyBecomes f next (Expression.computed_member m (Expression.string i u) (Expression.number j n)) y
  of_array : {m i j n k : ℕ} {xs : Elements} {y : Expression}
      → f.effects false (Part.expression (Expression.array i xs)) → whole (Number.bits n) ≡ Some k → k < 2 ^ 32 → ElementAt next xs k y
      → PropertyBecomes f next (Expression.computed_member m (Expression.array i xs) (Expression.number j n)) y
