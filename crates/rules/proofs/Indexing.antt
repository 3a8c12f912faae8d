-- The rule property leads to what its relation says.
use Rattle.std.proofs.Common.{◌≡◌, ℕ, zero, suc, ◌^◌, ◌<◌, true, [], ◌∷◌, Some, None, Option, refl, subst, arith, nat_le}
use Rattle.meaning.specs.Expression.{Expression, Elements, Units}
use Rattle.meaning.specs.Number.{Number, whole}
use Rattle.rules.specs.Places.{Role, TakesValue}
use Rattle.rules.specs.Facts.{Facts}
use Rattle.rules.specs.Indexed.{UnitAt, ElementAt, PropertyBecomes}
use Rattle.rules.specs.Property.{unit_or_void, element_at, without_effects, at_index, at_whole, at_key, property_read, property_rule}
use Rattle.rules.proofs.Absurd.{none_some}
use Rattle.rules.proofs.Leading.{Leads, when_leads, unless_leads, leads_map}

unit_found : (next : ℕ) (u : Units) (k : ℕ) → UnitAt next u k (unit_or_void next u k)
unfolding unit_or_void
unit_found next [] k = UnitAt.past_end refl
unit_found next (u ∷ us) zero = UnitAt.unit refl
unit_found next (u ∷ us) (suc k) = by (unit_found next us k)
  where
    by : {y : Expression} → UnitAt next us k y → UnitAt next (u ∷ us) (suc k) y
    by (UnitAt.unit e) = UnitAt.unit e
    by (UnitAt.past_end e) = UnitAt.past_end e

element_found : (next : ℕ) (xs : Elements) (k : ℕ) (y : Expression) → element_at next xs k ≡ Some y → ElementAt next xs k y
unfolding element_at
element_found next Elements.no_elements k y e = none_some e
element_found next (Elements.spread l x xs) k y e = none_some e
element_found next (Elements.item x xs) zero y e = let i : x ≡ y = cc in subst (λ z. ElementAt next (Elements.item x xs) zero z) i ElementAt.item_here
element_found next (Elements.hole l xs) zero y e = by _ e ElementAt.hole_here
  where
    by : (x : Expression) → Some x ≡ Some y → ElementAt next (Elements.hole l xs) zero x → ElementAt next (Elements.hole l xs) zero y
    by x e d = let i : x ≡ y = cc in subst (λ z. ElementAt next (Elements.hole l xs) zero z) i d
element_found next (Elements.item x xs) (suc k) y e = ElementAt.past_item (element_found next xs k y e)
element_found next (Elements.hole l xs) (suc k) y e = ElementAt.past_hole (element_found next xs k y e)

module _ (f : Facts) (next : ℕ) where
  -- a computed member of o at a number
  abbrev Become : (m j n : ℕ) (o : Expression) → Expression → Type 0
  Become m j n o = PropertyBecomes f next (Expression.computed_member m o (Expression.number j n))

  element_leads : (m i j n k : ℕ) (xs : Elements) → whole (Number.bits n) ≡ Some k → k < 2 ^ 32 → (y : Option Expression) → element_at next xs k ≡ y
      → Leads f (Become m j n (Expression.array i xs)) (without_effects (Expression.array i xs) y)
  unfolding without_effects
  element_leads m i j n k xs e l None h = tt
  element_leads m i j n k xs e l (Some y) h = unless_leads f _ _ _ _ (λ c. PropertyBecomes.of_array c e l (element_found next xs k y h)) (λ c. tt)

  index_leads : (m j n k : ℕ) (o : Expression) → whole (Number.bits n) ≡ Some k → k < 2 ^ 32 → Leads f (Become m j n o) (at_index next o k)
  unfolding at_index without_effects
  index_leads m j n k (Expression.string i u) e l = unless_leads f _ _ _ _ (λ c. PropertyBecomes.of_string c e l (unit_found next u k)) (λ c. tt)
  index_leads m j n k (Expression.array i xs) e l = element_leads m i j n k xs e l (element_at next xs k) refl
  index_leads m j n k o e l = tt

  whole_leads : (m j n : ℕ) (o : Expression) (k : Option ℕ) → whole (Number.bits n) ≡ k → Leads f (Become m j n o) (at_whole next o k)
  unfolding at_whole
  whole_leads m j n o None e = tt
  whole_leads m j n o (Some k) e = when_leads f _ (nat_le k 4294967295) _ (λ b. index_leads m j n k o e (below k b))
    where
      below : (k : ℕ) → nat_le k 4294967295 ≡ true → k < 2 ^ 32
      below k b = grind arith

  key_leads : (m : ℕ) (o y : Expression) → Leads f (PropertyBecomes f next (Expression.computed_member m o y)) (at_key next o y)
  unfolding at_key
  key_leads m o (Expression.number j n) = whole_leads m j n o (whole (Number.bits n)) refl
  key_leads m o y = tt

  read_leads : (x : Expression) → Leads f (PropertyBecomes f next x) (property_read next x)
  unfolding property_read
  read_leads (Expression.computed_member m o y) = key_leads m o y
  read_leads x = tt

  pub property_leads : (r : Role) (x : Expression) → Leads f (λ y. TakesValue r × PropertyBecomes f next x y) (property_rule next r x)
  unfolding property_rule
  property_leads Role.ordinary x = leads_map f (PropertyBecomes f next x) _ (λ y d. (tt, d)) _ (read_leads x)
  property_leads Role.concat_object x = leads_map f (PropertyBecomes f next x) _ (λ y d. (tt, d)) _ (read_leads x)
  property_leads Role.referred x = tt
