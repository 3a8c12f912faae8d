-- `Array.of(..)` is an array, and `Math.pow(a, b)` is `a ** +b`.
use Rattle.std.proofs.Common.{◌≡◌, ℕ, List, [], ◌∷◌, ◌++◌, refl, sym, subst, ap, ◌∙◌, arith}
use Rattle.tree.specs.declared.node.UnaryOperator.TheVariants.{Plus}
use Rattle.tree.specs.declared.node.BinaryOperator.TheVariants.{Exponentiation}
use Rattle.host.specs.declared.value_type.ValueType.TheVariants.{Number}
use Rattle.meaning.specs.Expression.{Expression, Arguments}
use Rattle.meaning.specs.Number.{Number as NumberValue}
use Rattle.meaning.specs.Value.{Value, Slots, Numeric, join_slots, slots_of}
use Rattle.meaning.specs.World.{World, ValueIn, SlotsIn, Result, number_value, ◌>>=◌}
use Rattle.meaning.specs.Coercion.{to_primitive, primitive_numeric, to_numeric, only_number, to_number, unary_result, binary_result, numeric_result}
use Rattle.meaning.specs.Methods.{pow_name, of_name, math_name, array_name, pow_result, array_of_result}
use Rattle.meaning.specs.Acts.{Act, Returns, Then, Asks, Settles, Mode, Watched, Still}
use Rattle.meaning.specs.Runs.{Calm, mean, elements, arguments}
use Rattle.meaning.specs.Premises.{Premises}
use Rattle.meaning.specs.Parts.{Part}
use Rattle.meaning.specs.Replacing.{Keeps}
use Rattle.meaning.proofs.Replacing.{calm_still}
use Rattle.meaning.proofs.Determined.{asks_single}
use Rattle.host.specs.Truth.{OfType, HasType, IsTheLanguagesOwn}
use Rattle.rules.specs.Building.{elements_of}
use Rattle.rules.specs.MethodBecomes.{Method}
use Rattle.rules.proofs.Alike.{◌⨾◌, turned, first, second, after, regroup, begun, constant, returns_alike, asks_settles, settles_alike, settles_then, watched_alike, watched_gives, freely}
use Rattle.rules.proofs.Keeping.{AlikeActs, keeps_by, as_run}
use Rattle.rules.proofs.Callees.{own_read, own_callee, known_call}

slots_of_joined : {O B Y : Type 0} (us vs : List (Value O B Y)) → join_slots (slots_of us) (slots_of vs) ≡ slots_of (us ++ vs)
unfolding slots_of join_slots
slots_of_joined [] vs = refl
slots_of_joined (u ∷ us) vs = ap (Slots.value u) (slots_of_joined us vs)

module _ (w : World) where
  -- ---- Array.of

  module _ (c : Mode) where
    pub made_elements : (xs : Arguments) → AlikeActs w (elements w c (elements_of xs)) (Then w.State (List (ValueIn w)) (SlotsIn w) (arguments w c xs) (λ vs. Returns w.State (SlotsIn w) (slots_of vs)))
    unfolding mean elements_of slots_of
    made_elements Arguments.no_arguments = turned begun
    made_elements (Arguments.spread_argument n x xs) =
        second (λ us. first (made_elements xs) ⨾ regroup ⨾ second (λ vs. begun ⨾ returns_alike (slots_of_joined us vs)))
        ⨾ turned (regroup ⨾ second (λ us. regroup ⨾ second (λ vs. begun)))
    made_elements (Arguments.argument x xs) =
        second (λ v. first (made_elements xs) ⨾ regroup ⨾ second (λ vs. begun))
        ⨾ turned (regroup ⨾ second (λ v. regroup ⨾ second (λ vs. begun)))

  pub array_of_keeps : Premises w → (n k l : ℕ) (f : Expression) (xs : Arguments) → Method f (Expression.name k array_name) of_name → IsTheLanguagesOwn w (Part.expression (Expression.name k array_name)) → Keeps w (Expression.call n f xs) (Expression.array l (elements_of xs))
  unfolding mean array_of_result
  array_of_keeps p n k l f xs i g =
      keeps_by w _ _
      (λ c.
      known_call w c n f xs _ _ (own_callee w c k array_name of_name f _ i (own_read w k array_name g) p.finds_array_of)
      ⨾ watched_alike c
      (second (λ vs. constant (asks_single _ _ _) (λ s. Asks.asks (p.applies_array_of vs s)))
      ⨾ turned (first (made_elements c xs) ⨾ regroup ⨾ second (λ vs. begun))))

  -- ---- Math.pow

  power_cases : (s : w.State) (x y : Result (Numeric w.Big))
      → ((x >>= only_number w) >>= λ p. (y >>= only_number w) >>= λ q. Result.gives (number_value w (w.arith Exponentiation p q)))
      ≡ (((y >>= only_number w) >>= λ q. Result.gives (number_value w q)) >>= λ v. x >>= λ p. to_numeric w v s >>= λ q. numeric_result w Exponentiation p q)
  unfolding ◌>>=◌ only_number to_numeric to_primitive primitive_numeric numeric_result
  power_cases s (Result.gives (Numeric.number p)) (Result.gives (Numeric.number q)) = refl
  power_cases s (Result.gives (Numeric.number p)) (Result.gives (Numeric.bigint q)) = refl
  power_cases s (Result.gives (Numeric.number p)) Result.throws = refl
  power_cases s (Result.gives (Numeric.bigint p)) (Result.gives (Numeric.number q)) = refl
  power_cases s (Result.gives (Numeric.bigint p)) (Result.gives (Numeric.bigint q)) = refl
  power_cases s (Result.gives (Numeric.bigint p)) Result.throws = refl
  power_cases s Result.throws (Result.gives (Numeric.number q)) = refl
  power_cases s Result.throws (Result.gives (Numeric.bigint q)) = refl
  power_cases s Result.throws Result.throws = refl

  power_same : (a b : ValueIn w) (s : w.State) → pow_result w a b s ≡ (unary_result w Plus b s >>= λ v. binary_result w Exponentiation a v s)
  unfolding pow_result to_number unary_result binary_result
  power_same a b s = power_cases s (to_numeric w a s) (to_numeric w b s)

  two_values : (c : Mode) (a b : Expression) → AlikeActs w (arguments w c (Arguments.argument a (Arguments.argument b Arguments.no_arguments)))
      (Then w.State (ValueIn w) (List (ValueIn w)) (mean w c a).run (λ x. Then w.State (ValueIn w) (List (ValueIn w)) (mean w c b).run (λ y. Returns w.State (List (ValueIn w)) (x ∷ y ∷ []))))
  unfolding mean
  two_values c a b = second (λ x. first (second (λ y. begun)) ⨾ regroup ⨾ second (λ y. begun))

  -- what the call does, its operands aside
  powers : (c : Mode) (a b : Expression) → Act w.State (ValueIn w)
  powers c a b = Then w.State (ValueIn w) (ValueIn w) (mean w c a).run (λ x. Then w.State (ValueIn w) (ValueIn w) (mean w c b).run (λ y. Settles w.State (ValueIn w) (pow_result w x y)))

  pow_powers : Premises w → (c : Mode) (n k : ℕ) (f a b : Expression) → Method f (Expression.name k math_name) pow_name → IsTheLanguagesOwn w (Part.expression (Expression.name k math_name))
      → AlikeActs w (mean w c (Expression.call n f (Arguments.argument a (Arguments.argument b Arguments.no_arguments)))).run
      (Watched w.State (ValueIn w) (powers c a b) c)
  unfolding powers
  pow_powers p c n k f a b i g =
      known_call w c n f _ _ _ (own_callee w c k math_name pow_name f _ i (own_read w k math_name g) p.finds_pow)
      ⨾ watched_alike c (first (two_values c a b) ⨾ regroup ⨾ second (λ x. regroup ⨾ second (λ y. begun ⨾ asks_settles (p.applies_pow _ x y))))

  powers_free : (l i : ℕ) (a b : Expression) → AlikeActs w (Watched w.State (ValueIn w) (powers Mode.free a b) Mode.free) (mean w Mode.free (Expression.binary l Exponentiation a (Expression.unary i Plus b))).run
  unfolding mean powers
  powers_free l i a b =
      watched_alike Mode.free
      (second (λ x. turned (first freely ⨾ regroup ⨾ second (λ y. settles_then ⨾ settles_alike (λ s. sym (power_same x y s))))))

  bind_gives : {A B : Type 0} (x : Result A) (k : A → Result B) (b : B) → (x >>= k) ≡ Result.gives b → (a : A) × (x ≡ Result.gives a) × (k a ≡ Result.gives b)
  unfolding ◌>>=◌
  bind_gives (Result.gives a) k b e = (a, refl, e)
  bind_gives Result.throws k b e = let z : ◌≡◌ {A = ℕ} 0 1 = cc in absurd (omega arith)

  module _ (i : ℕ) (a b : Expression) where
    calm_plus : (x y v : ValueIn w) {s u : w.State} → Still w.State (ValueIn w) s (Result.gives y) u → (mean w Mode.calm b).run s (Result.gives y) u → pow_result w x y u ≡ Result.gives v
        → Then w.State (ValueIn w) (ValueIn w) (mean w Mode.calm (Expression.unary i Plus b)).run (λ z. Settles w.State (ValueIn w) (binary_result w Exponentiation x z)) s (Result.gives v) u
    unfolding mean
    calm_plus x y v {s} Still.still q e =
        let f = bind_gives (unary_result w Plus y s) (λ z. binary_result w Exponentiation x z s) v (sym (power_same x y s) ∙ e) in
        Then.goes (watched_gives Mode.calm (Then.goes q (Settles.settles f.1))) (Settles.settles f.2)

    powers_calm : (l : ℕ) (s : w.State) (v : ValueIn w) → Watched w.State (ValueIn w) (powers Mode.calm a b) Mode.calm s (Result.gives v) s → Calm w (Expression.binary l Exponentiation a (Expression.unary i Plus b)) s v
    unfolding mean powers
    powers_calm l s v (Watched.calmly (Then.goes p (Then.goes q (Settles.settles e))) h) = watched_gives Mode.calm (Then.goes p (calm_plus _ _ v (calm_still w b q) q e))

  pub pow_keeps : Premises w → (n k l i : ℕ) (f a b : Expression) → Method f (Expression.name k math_name) pow_name → IsTheLanguagesOwn w (Part.expression (Expression.name k math_name))
      → Keeps w (Expression.call n f (Arguments.argument a (Arguments.argument b Arguments.no_arguments))) (Expression.binary l Exponentiation a (Expression.unary i Plus b))
  pow_keeps p n k l i f a b m g =
      let h = pow_powers p Mode.free n k f a b m g ⨾ powers_free l i a b in
      record {
        forth = h.forth;
        back = h.back;
        stays_calm = λ s v d. powers_calm i a b l s v ((pow_powers p Mode.calm n k f a b m g).forth s _ s d);
      }

  -- of a number no plus is wanted
  number_cases : (y : NumberValue) (z : Result (Numeric w.Big)) → ((z >>= only_number w) >>= λ p. Result.gives (number_value w (w.arith Exponentiation p y))) ≡ (z >>= λ p. numeric_result w Exponentiation p (Numeric.number y))
  unfolding ◌>>=◌ only_number numeric_result
  number_cases y (Result.gives (Numeric.number p)) = refl
  number_cases y (Result.gives (Numeric.bigint p)) = refl
  number_cases y Result.throws = refl

  number_at : (x : ValueIn w) (y : NumberValue) (s : w.State) → pow_result w x (number_value w y) s ≡ binary_result w Exponentiation x (number_value w y) s
  unfolding pow_result to_number binary_result
  number_at x y s = by (to_numeric w x s)
    where
      by : (z : Result (Numeric w.Big))
          → ((z >>= only_number w) >>= λ p. (to_numeric w (number_value w y) s >>= only_number w) >>= λ q. Result.gives (number_value w (w.arith Exponentiation p q)))
          ≡ (z >>= λ p. to_numeric w (number_value w y) s >>= λ q. numeric_result w Exponentiation p q)
      by z = unfold to_numeric to_primitive primitive_numeric ◌>>=◌ only_number in number_cases y z

  number_power : (x y : ValueIn w) → OfType w Number y → (s : w.State) → pow_result w x y s ≡ binary_result w Exponentiation x y s
  number_power x (Value.primitive q) h s = subst (λ z. pow_result w x (Value.primitive z) s ≡ binary_result w Exponentiation x (Value.primitive z) s) (sym h.1) (number_at x h.0 s)
  number_power x (Value.array q) h s = absurd h
  number_power x (Value.object q) h s = absurd h

  pub number_pow_keeps : Premises w → (n k l : ℕ) (f a b : Expression) → Method f (Expression.name k math_name) pow_name → IsTheLanguagesOwn w (Part.expression (Expression.name k math_name)) → HasType w Number (Part.expression b)
      → Keeps w (Expression.call n f (Arguments.argument a (Arguments.argument b Arguments.no_arguments))) (Expression.binary l Exponentiation a b)
  unfolding mean powers
  number_pow_keeps p n k l f a b m g h =
      keeps_by w _ _ (λ c. pow_powers p c n k f a b m g ⨾ watched_alike c (second (λ x. after (λ y s u d. settles_alike (number_power x y (h s y u (as_run w c b s y u d)))))))
