-- What the relation of the rule method says is decided.
use Rattle.std.proofs.Common.{◌≡◌, ◌≢◌, ℕ, suc, ◌+◌, ◌≤◌, true, false, ◌&&◌, Some, nat_le, refl, sym, ap, ◌∙◌, arith}
use Rattle.std.specs.Cmp.Derive.{both_true}
use Rattle.host.specs.declared.value_type.ValueType.{ValueType}
use Rattle.host.specs.declared.value_type.ValueType.TheVariants.{Number}
use Rattle.meaning.specs.Expression.{Expression, Elements, Arguments, Units}
use Rattle.meaning.specs.Methods.{concat_name, pow_name, of_name, math_name, array_name}
use Rattle.meaning.specs.Parts.{Part}
use Rattle.host.specs.Answers.{Answers}
use Rattle.rules.specs.Places.{Role, Settings, IsOutermost}
use Rattle.rules.specs.Deciding.{decided, when, same_name, outermost}
use Rattle.rules.specs.Facts.{said}
use Rattle.rules.specs.Building.{append_elements, with_object}
use Rattle.rules.specs.Interleaves.{argument_count}
use Rattle.rules.specs.Interleaving.{none_left}
use Rattle.rules.specs.Takes.{IsLiteral, IsOther, Takes}
use Rattle.rules.specs.Taking.{Leading, leading, taken, left, taken_count, taken_with, left_with, taken_count_with}
use Rattle.rules.specs.MethodBecomes.{Method, MethodBecomes}
use Rattle.rules.specs.Method.{Callee, keyed, callee_of, string_concat, array_left, array_concat, is_number, power, math_pow, array_of, global_method, method_of_object, method_called, method_rule}
use Rattle.rules.specs.Laws.{MethodRewritesExactlyWhen}
use Rattle.rules.proofs.Absurd.{true_false}
use Rattle.rules.proofs.Leading.{said_to, when_decided, cond_decided}
use Rattle.rules.proofs.ConditionsExactly.{outermost_exactly, short_exactly, no_spread_exactly, interleaving_decided, same_exactly}
use Rattle.rules.proofs.Calling.{method_leads}

-- ---- what is taken in

literal_exactly : {x : Expression} → IsLiteral x → leading x ≡ Leading.literal
unfolding leading
literal_exactly IsLiteral.string = refl
literal_exactly IsLiteral.number = refl
literal_exactly IsLiteral.boolean = refl
literal_exactly IsLiteral.null = refl

other_exactly : (x : Expression) → IsOther x → leading x ≡ Leading.other
unfolding leading
other_exactly (Expression.string l u) i = absurd i
other_exactly (Expression.number l n) i = absurd i
other_exactly (Expression.boolean l b) i = absurd i
other_exactly (Expression.null l) i = absurd i
other_exactly (Expression.array l xs) i = absurd i
other_exactly x i = refl

takes_exactly : {n : ℕ} {xs ys : Arguments} {es : Elements} → Takes n xs es ys → (taken_count xs ≡ n) × (taken xs ≡ es) × (left xs ≡ ys)
unfolding taken left taken_count taken_with left_with taken_count_with leading
takes_exactly (Takes.literal {x = x} {xs = xs} i t) =
    let k = takes_exactly t in
    let l = literal_exactly i in
    (ap (λ z. taken_count_with z (taken_count xs)) l ∙ ap suc k.0, ap (λ z. taken_with x z (taken xs)) l ∙ ap (Elements.item x) k.1, ap (λ z. left_with x z xs (left xs)) l ∙ k.2)
takes_exactly (Takes.array {fs = fs} t) = let k = takes_exactly t in (ap suc k.0, ap (append_elements fs) k.1, k.2)
takes_exactly (Takes.at_other {x = x} {xs = xs} i) =
    let l = other_exactly x i in
    (ap (λ z. taken_count_with z (taken_count xs)) l, ap (λ z. taken_with x z (taken xs)) l, ap (λ z. left_with x z xs (left xs)) l)
takes_exactly Takes.at_spread = (refl, refl, refl)
takes_exactly Takes.at_end = (refl, refl, refl)

-- ---- the calls

callee_exactly : {f o : Expression} {k : Units} → Method f o k → callee_of f ≡ Callee.method o k
unfolding callee_of keyed
callee_exactly Method.static = refl
callee_exactly Method.keyed = refl

array_no_math : same_name array_name math_name ≡ false
unfolding array_name math_name
array_no_math = refl

number_exactly : (t : ValueType) → t ≢ Number → is_number t ≡ false
unfolding is_number
number_exactly Number h = absurd (h refl)
number_exactly t h = refl

module _ (a : Answers) (s : Settings) (next : ℕ) (r : Role) where
  -- by the object that the callee names
  by_object : {g o : Expression} {k : Units} (l : ℕ) (xs : Arguments) → Method g o k → decided a (method_rule s next r (Expression.call l g xs)) ≡ decided a (method_of_object s next r g xs k o)
  unfolding method_rule method_called
  by_object {g} l xs m = ap (λ c. decided a (method_called s next r g xs c)) (callee_exactly m)

  left_exactly : (g : Expression) (es : Elements) (ys : Arguments) → 1 ≤ argument_count ys
      → decided a (array_left next g es ys) ≡ Some (Expression.call (next + 2) (with_object (next + 1) g (Expression.array next es)) ys)
  unfolding decided array_left argument_count
  left_exactly g es Arguments.no_arguments h = absurd (omega arith)
  left_exactly g es (Arguments.argument y ys) h = refl
  left_exactly g es (Arguments.spread_argument l y ys) h = refl

  taking_exactly : (g : Expression) (j n : ℕ) (es ts : Elements) (xs ys : Arguments) → Takes (suc n) xs ts ys
      → decided a (array_concat next g j es xs (taken_count xs)) ≡ decided a (array_left next g (append_elements es ts) ys)
  unfolding array_concat
  taking_exactly g j n es ts xs ys t =
      let k = takes_exactly t in
      ap (λ z. decided a (array_concat next g j es xs z)) k.0 ∙ ap (λ z. decided a (array_left next g (append_elements es z) (left xs))) k.1 ∙ ap (λ z. decided a (array_left next g (append_elements es ts) z)) k.2

  outermost_concat : IsOutermost r → (same_name concat_name concat_name && outermost r) ≡ true
  outermost_concat o = both_true (same_exactly concat_name) (outermost_exactly r o)

  pow_decided : (j : ℕ) (b c : Expression) (t : ValueType) → s.power ≡ true → a.global (Part.expression (Expression.name j math_name)) ≡ true → a.value_type (Part.expression c) ≡ t
      → (g : Expression) → decided a (method_of_object s next r g (Arguments.argument b (Arguments.argument c Arguments.no_arguments)) pow_name (Expression.name j math_name)) ≡ Some (power next b c (is_number t))
  unfolding decided method_of_object global_method math_pow
  pow_decided j b c t p h i g =
      cond_decided a _ _ _ _ (λ _. when_decided a _ _ p ∙ when_decided a _ _ h ∙ ap (λ z. Some (power next b c (is_number z))) i)
      (λ e. true_false (sym (both_true (same_exactly math_name) (same_exactly pow_name)) ∙ e))

  rule_exactly : {x y : Expression} → MethodBecomes (said a) s next r x y → decided a (method_rule s next r x) ≡ Some y
  unfolding decided method_of_object global_method string_concat array_concat array_left array_of power is_number
  rule_exactly (MethodBecomes.of_string {l = l} {xs = xs} m o b c h i) =
      by_object l xs m ∙ when_decided a _ _ (outermost_concat o)
      ∙ when_decided a _ _ (both_true b (both_true (some (argument_count xs) c) (both_true (no_spread_exactly a xs i) (short_exactly 1 xs h))))
      ∙ interleaving_decided a xs _ _ i
    where
      some : (n : ℕ) → 1 ≤ n → nat_le 1 n ≡ true
      some n e = grind arith
  rule_exactly (MethodBecomes.of_array {l = l} {j = j} {g = g} {es = es} m o) = by_object l _ m ∙ when_decided a _ _ (outermost_concat o) ∙ none_exactly g j es
    where
      none_exactly : (g : Expression) (j : ℕ) (es : Elements) → decided a (array_concat next g j es Arguments.no_arguments (taken_count Arguments.no_arguments)) ≡ Some (Expression.array j es)
      none_exactly g j es = unfold decided array_concat taken_count none_left when in refl
  rule_exactly (MethodBecomes.of_array_taking_all {l = l} {j = j} {n = n} {g = g} {es = es} {ts = ts} {xs = xs} m o t) =
      by_object l xs m ∙ when_decided a _ _ (outermost_concat o) ∙ taking_exactly g j n es ts xs _ t
  rule_exactly (MethodBecomes.of_array_taking_some {l = l} {j = j} {n = n} {g = g} {es = es} {ts = ts} {xs = xs} {ys = ys} m o t e) =
      by_object l xs m ∙ when_decided a _ _ (outermost_concat o) ∙ taking_exactly g j n es ts xs ys t ∙ left_exactly g (append_elements es ts) ys e
  rule_exactly (MethodBecomes.of_pow_with_number {l = l} {j = j} {g = g} {a = b} {b = c} m p h i) = by_object l _ m ∙ pow_decided j b c Number p h i g
  rule_exactly (MethodBecomes.of_pow {l = l} {j = j} {g = g} {a = b} {b = c} {t = t} m p h i e) =
      by_object l _ m ∙ pow_decided j b c t p h i g ∙ ap (λ z. Some (power next b c z)) (number_exactly t e)
  rule_exactly (MethodBecomes.of_array_of {l = l} {xs = xs} m h) =
      by_object l xs m
      ∙ cond_decided a _ _ _ _ (λ e. true_false (sym e ∙ ap (λ z. z && same_name of_name pow_name) array_no_math))
      (λ _. when_decided a _ _ (both_true (same_exactly array_name) (same_exactly of_name)) ∙ when_decided a _ _ h)

pub method_exactly : MethodRewritesExactlyWhen
method_exactly a s next r x y =
    (λ e. said_to (MethodBecomes (said a) s next r x) a (method_rule s next r x) (method_leads (said a) s next r x) y e, λ d. rule_exactly a s next r d)
