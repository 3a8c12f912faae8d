-- What a string or an array literal becomes at an index has the runs of the read.
use Rattle.std.proofs.Common.{◌≡◌, ℕ, zero, suc, ◌^◌, ◌<◌, [], ◌∷◌, Some, None, slice_get, refl, sym, subst, ap, arith}
use Rattle.meaning.specs.Expression.{Expression, Elements, Units}
use Rattle.meaning.specs.Number.{Number, whole}
use Rattle.meaning.specs.Value.{Value}
use Rattle.meaning.specs.World.{World, ValueIn, SlotsIn, Result, text_value, undefined_value}
use Rattle.meaning.specs.Coercion.{unary_result}
use Rattle.meaning.specs.Methods.{unit_at, slot_at}
use Rattle.meaning.specs.Acts.{Returns, Then, Asks, Settles, Mode, Watched, Still}
use Rattle.meaning.specs.Runs.{Calm, mean, elements}
use Rattle.meaning.specs.Premises.{Premises}
use Rattle.meaning.specs.Replacing.{Keeps}
use Rattle.meaning.proofs.Replacing.{calm_still}
use Rattle.meaning.proofs.Determined.{mean_single}
use Rattle.rules.specs.Places.{Role, TakesValue}
use Rattle.rules.specs.Facts.{true_in}
use Rattle.rules.specs.Building.{void_zero}
use Rattle.rules.specs.Indexed.{UnitAt, ElementAt, PropertyBecomes}
use Rattle.rules.specs.Property.{property_rule}
use Rattle.rules.specs.Laws.{Fits, PropertyKeepsMeaning}
use Rattle.rules.proofs.Alike.{watched_gives, pointwise}
use Rattle.rules.proofs.Leading.{truly_to}
use Rattle.rules.proofs.Indexing.{property_leads}
use Rattle.rules.proofs.Keeping.{keeps_by, in_mode}

module _ (w : World) where
  void_run : (c : Mode) (n : ℕ) (s : w.State) → (mean w c (void_zero n)).run s (Result.gives (undefined_value w)) s
  unfolding mean unary_result
  void_run c n s = watched_gives c (Then.goes (watched_gives c Returns.returns) (Settles.settles refl))

  -- ---- texts

  unit_here : (u : Units) (k v : ℕ) → slice_get u k ≡ Some v → unit_at w u k ≡ text_value w (v ∷ [])
  unfolding unit_at
  unit_here [] k v e = let z : ◌≡◌ {A = ℕ} 0 1 = cc in absurd (omega arith)
  unit_here (x ∷ u) zero v e = let i : x ≡ v = cc in ap (λ y. text_value w (y ∷ [])) i
  unit_here (x ∷ u) (suc k) v e = unit_here u k v e

  none_here : (u : Units) (k : ℕ) → slice_get u k ≡ None → unit_at w u k ≡ undefined_value w
  unfolding unit_at
  none_here [] k e = refl
  none_here (x ∷ u) zero e = let z : ◌≡◌ {A = ℕ} 0 1 = cc in absurd (omega arith)
  none_here (x ∷ u) (suc k) e = none_here u k e

  unit_run : (c : Mode) (n : ℕ) {u : Units} {k : ℕ} {y : Expression} → UnitAt n u k y → (s : w.State) → (mean w c y).run s (Result.gives (unit_at w u k)) s
  unfolding mean
  unit_run c n {u} {k} (UnitAt.unit {v = v} e) s = subst (λ z. (mean w c (Expression.string n (v ∷ []))).run s (Result.gives z) s) (sym (unit_here u k v e)) (watched_gives c Returns.returns)
  unit_run c n {u} {k} (UnitAt.past_end e) s = subst (λ z. (mean w c (void_zero n)).run s (Result.gives z) s) (sym (none_here u k e)) (void_run c n s)

  string_read : Premises w → (c : Mode) (m i j n k : ℕ) (u : Units) → whole (Number.bits n) ≡ Some k → k < 2 ^ 32 → (s : w.State)
      → (mean w c (Expression.computed_member m (Expression.string i u) (Expression.number j n))).run s (Result.gives (unit_at w u k)) s
  unfolding mean
  string_read p c m i j n k u e l s =
      watched_gives c (Then.goes (Then.goes (watched_gives c Returns.returns) (Then.goes (watched_gives c Returns.returns) Returns.returns)) (Asks.asks (p.reads_text_at_index u (Number.bits n) k e l s)))

  -- ---- arrays

  still_run : (x : Expression) (v : ValueIn w) {s u : w.State} → Still w.State (ValueIn w) s (Result.gives v) u → (mean w Mode.calm x).run s (Result.gives v) u → Calm w x s v
  still_run x v Still.still d = d

  still_rest : (xs : Elements) (v : ValueIn w) {s u : w.State} → Still w.State (ValueIn w) s (Result.gives v) u → (vs : SlotsIn w) (t : w.State)
      → elements w Mode.calm xs u (Result.gives vs) t → elements w Mode.calm xs s (Result.gives vs) t
  still_rest xs v Still.still vs t d = d

  -- in a calm array the element's own run gives what the slot holds
  element_run : (n : ℕ) {xs : Elements} {k : ℕ} {y : Expression} → ElementAt n xs k y → (s : w.State) (vs : SlotsIn w) (t : w.State)
      → elements w Mode.calm xs s (Result.gives vs) t → (v : ValueIn w) × Calm w y s v × (slot_at w vs k ≡ v)
  unfolding mean slot_at
  element_run n (ElementAt.item_here {x = x}) s vs t (Then.goes {a = v} d (Then.goes e Returns.returns)) = (v, still_run x v (calm_still w x d) d, refl)
  element_run n ElementAt.hole_here s vs t (Then.goes e Returns.returns) = (undefined_value w, void_run Mode.calm n s, refl)
  element_run n (ElementAt.past_item {x = x} {xs = xs} q) s vs t (Then.goes {a = v} d (Then.goes e Returns.returns)) = element_run n q s _ _ (still_rest xs v (calm_still w x d) _ _ e)
  element_run n (ElementAt.past_hole q) s vs t (Then.goes e Returns.returns) = element_run n q s _ _ e

  calm_elements : (i : ℕ) (xs : Elements) (s : w.State) (v : ValueIn w) → Calm w (Expression.array i xs) s v → (vs : SlotsIn w) × elements w Mode.calm xs s (Result.gives vs) s × (v ≡ Value.array vs)
  unfolding mean
  calm_elements i xs s v (Watched.calmly (Then.goes {a = vs} d Returns.returns) _) = (vs, d, refl)

  array_read : Premises w → (c : Mode) (m i j n k : ℕ) (xs : Elements) → whole (Number.bits n) ≡ Some k → k < 2 ^ 32 → (s : w.State) (vs : SlotsIn w)
      → (mean w c (Expression.array i xs)).run s (Result.gives (Value.array vs)) s
      → (mean w c (Expression.computed_member m (Expression.array i xs) (Expression.number j n))).run s (Result.gives (slot_at w vs k)) s
  unfolding mean
  array_read p c m i j n k xs e l s vs d =
      watched_gives c (Then.goes (Then.goes d (Then.goes (watched_gives c Returns.returns) Returns.returns)) (Asks.asks (p.reads_array_at_index vs (Number.bits n) k e l s)))

  -- ---- both

  pub index_keeps : Premises w → (n : ℕ) {x y : Expression} → PropertyBecomes (true_in w) n x y → Keeps w x y
  index_keeps p next {y = y} (PropertyBecomes.of_string {m = m} {i = i} {j = j} {n = n} {k = k} {u = u} h e l q) =
      keeps_by w _ _ (λ c. pointwise _ _ (mean_single w c _).0 (mean_single w c _).0 (λ s. (unit_at w u k, string_read p c m i j n k u e l s, unit_run c next q s)))
  index_keeps p next {y = y} (PropertyBecomes.of_array {m = m} {i = i} {j = j} {n = n} {k = k} {xs = xs} h e l q) =
      keeps_by w _ _
      (λ c.
      pointwise _ _ (mean_single w c _).0 (mean_single w c _).0
      (λ s.
      let a = h s in
      let b = calm_elements i xs s a.0 a.1 in
      let d = element_run next q s b.0 s b.1 in
      let g : (mean w c (Expression.array i xs)).run s (Result.gives (Value.array b.0)) s = in_mode w c _ s _ (subst (λ v. Calm w (Expression.array i xs) s v) b.2 a.1) in
      (slot_at w b.0 k, array_read p c m i j n k xs e l s b.0 g, subst (λ v. (mean w c y).run s (Result.gives v) s) (sym d.2) (in_mode w c _ s _ d.1))))

pub fits_value : (r : Role) (x y : Expression) → TakesValue r → Fits r x y
fits_value Role.ordinary x y h = tt
fits_value Role.concat_object x y h = tt
fits_value Role.referred x y h = absurd h

pub property_keeps : (w : World) → PropertyKeepsMeaning w
property_keeps w p next r x y a h e =
    let d = truly_to (λ y. TakesValue r × PropertyBecomes (true_in w) next x y) w a (property_rule next r x) (property_leads (true_in w) next r x) h y e in
    (index_keeps w p next d.1, fits_value r x y d.0)
