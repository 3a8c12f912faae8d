-- The rule method leads to what its relation says.
use Rattle.std.proofs.Common.{◌≡◌, ◌≢◌, ℕ, zero, suc, ◌≤◌, Bool, true, false, ◌&&◌, nat_le, refl, sym, subst, ap, arith}
use Rattle.std.specs.Cmp.{first_so, second_so}
use Rattle.std.proofs.lemmas.Slice.Eq.{bytes_eq-Decides}
use Rattle.host.specs.declared.value_type.ValueType.{ValueType}
use Rattle.host.specs.declared.value_type.ValueType.TheVariants.{Number}
use Rattle.meaning.specs.Expression.{Expression, Elements, Arguments, Units}
use Rattle.meaning.specs.Methods.{concat_name, pow_name, of_name, math_name, array_name}
use Rattle.meaning.specs.Parts.{Part}
use Rattle.rules.specs.Places.{Role, Settings, IsOutermost}
use Rattle.rules.specs.Deciding.{Deciding, when, same_name, outermost}
use Rattle.rules.specs.Facts.{Facts}
use Rattle.rules.specs.Building.{append_elements}
use Rattle.rules.specs.Interleaves.{argument_count}
use Rattle.rules.specs.Interleaving.{none_left, short, no_spread}
use Rattle.rules.specs.Takes.{Takes}
use Rattle.rules.specs.Taking.{taken, left, taken_count}
use Rattle.rules.specs.MethodBecomes.{Method, MethodBecomes}
use Rattle.rules.specs.Method.{Callee, keyed, callee_of, string_concat, array_left, array_concat, is_number, power, math_pow, array_of, global_method, method_of_object, method_called, method_rule}
use Rattle.rules.proofs.Leading.{Leads, when_leads, cond_leads}
use Rattle.rules.proofs.Interleaved.{interleaving_leads, short_says, at_end}
use Rattle.rules.proofs.Takings.{takes}

pub same_says : (u v : Units) → same_name u v ≡ true → u ≡ v
same_says u v e = (bytes_eq-Decides u v).0 e

pub outermost_says : (r : Role) → outermost r ≡ true → IsOutermost r
unfolding outermost
outermost_says Role.ordinary e = tt
outermost_says Role.concat_object e = let z : ◌≡◌ {A = ℕ} 0 1 = cc in absurd (omega arith)
outermost_says Role.referred e = tt

pub named : {f o : Expression} {k n : Units} → Method f o k → same_name k n ≡ true → Method f o n
named {f} {o} {k} {n} m e = subst (λ u. Method f o u) (same_says k n e) m

number_says : (t : ValueType) → is_number t ≡ true → t ≡ Number
unfolding is_number
number_says Number e = refl
number_says t e = let z : ◌≡◌ {A = ℕ} 0 1 = cc in absurd (omega arith)

same_method : (f o p : Expression) (k n : Units) → Callee.method p n ≡ Callee.method o k → Method f p n → Method f o k
same_method f o p k n e m =
    let i : p ≡ o = cc in
    let j : n ≡ k = cc in
    subst (λ z. Method f o z) j (subst (λ z. Method f z n) i m)

pub callee_says : (f o : Expression) (k : Units) → callee_of f ≡ Callee.method o k → Method f o k
unfolding callee_of keyed
callee_says (Expression.static_member m p n) o k e = same_method _ o p k n e Method.static
callee_says (Expression.computed_member m p (Expression.string i n)) o k e = same_method _ o p k n e Method.keyed
callee_says f o k e = let z : ◌≡◌ {A = ℕ} 0 1 = cc in absurd (omega arith)

not_number : (t : ValueType) → is_number t ≡ false → t ≢ Number
unfolding is_number
not_number t e i = let j : is_number t ≡ is_number Number = ap is_number i in let z : ◌≡◌ {A = ℕ} 0 1 = cc in absurd (omega arith)

module _ (f : Facts) (s : Settings) (next : ℕ) (r : Role) (l : ℕ) (g : Expression) (xs : Arguments) where
  abbrev Becomes : Expression → Type 0
  Becomes = MethodBecomes f s next r (Expression.call l g xs)

  string_leads : (j : ℕ) (u k : Units) → Method g (Expression.string j u) k → (same_name k concat_name && outermost r) ≡ true → Leads f Becomes (string_concat s next u xs)
  unfolding string_concat
  string_leads j u k m e =
      when_leads f Becomes _ _
      (λ h.
      let i = second_so s.templates (nat_le 1 (argument_count xs) && (no_spread xs && short 1 xs)) h in
      interleaving_leads f Becomes xs _ _
      (λ v.
      MethodBecomes.of_string (named m (first_so (same_name k concat_name) (outermost r) e)) (outermost_says r (second_so (same_name k concat_name) (outermost r) e))
      (first_so s.templates (nat_le 1 (argument_count xs) && (no_spread xs && short 1 xs)) h) (some (argument_count xs) (first_so (nat_le 1 (argument_count xs)) (no_spread xs && short 1 xs) i))
      (short_says 1 xs (second_so (no_spread xs) (short 1 xs) (second_so (nat_le 1 (argument_count xs)) (no_spread xs && short 1 xs) i))) v)
      tt)
    where
      some : (n : ℕ) → nat_le 1 n ≡ true → 1 ≤ n
      some n e = grind arith

  module _ (j : ℕ) (es : Elements) (m : Method g (Expression.array j es) concat_name) (o : IsOutermost r) where
    left_leads : (n : ℕ) (ts : Elements) (ys : Arguments) → Takes (suc n) xs ts ys → Leads f Becomes (array_left next g (append_elements es ts) ys)
    unfolding array_left argument_count
    left_leads n ts Arguments.no_arguments t = MethodBecomes.of_array_taking_all m o t
    left_leads n ts (Arguments.argument y ys) t = MethodBecomes.of_array_taking_some m o t (omega arith)
    left_leads n ts (Arguments.spread_argument i y ys) t = MethodBecomes.of_array_taking_some m o t (omega arith)

    array_leads : (n : ℕ) → Takes n xs (taken xs) (left xs) → Leads f Becomes (array_concat next g j es xs n)
    unfolding array_concat
    array_leads zero t = when_leads f Becomes (none_left xs) _ (λ e. subst (λ z. MethodBecomes f s next r (Expression.call l g z) (Expression.array j es)) (sym (at_end xs e)) (MethodBecomes.of_array m o))
    array_leads (suc n) t = left_leads n (taken xs) (left xs) t

module _ (f : Facts) (s : Settings) (next : ℕ) (r : Role) (l : ℕ) (g : Expression) where
  power_becomes : (j : ℕ) (a b : Expression) (t : ValueType) → Method g (Expression.name j math_name) pow_name → s.power ≡ true → f.global true (Part.expression (Expression.name j math_name))
      → f.of_type t (Part.expression b) → (n : Bool) → is_number t ≡ n
      → MethodBecomes f s next r (Expression.call l g (Arguments.argument a (Arguments.argument b Arguments.no_arguments))) (power next a b n)
  unfolding power
  power_becomes j a b t m p h i true e = MethodBecomes.of_pow_with_number m p h (subst (λ z. f.of_type z (Part.expression b)) (number_says t e) i)
  power_becomes j a b t m p h i false e = MethodBecomes.of_pow m p h i (not_number t e)

  when_global : (P : Expression → Type 0) (p : Part) (d : Deciding) → (f.global true p → Leads f P d) → Leads f P (Deciding.ask_global p (λ g. when g d))
  unfolding when
  when_global P p d h true i = h i
  when_global P p d h false i = tt

  pow_leads : (j : ℕ) (xs : Arguments) → Method g (Expression.name j math_name) pow_name → Leads f (MethodBecomes f s next r (Expression.call l g xs)) (math_pow s next (Expression.name j math_name) xs)
  unfolding math_pow
  pow_leads j (Arguments.argument a (Arguments.argument b Arguments.no_arguments)) m =
      when_leads f _ s.power _ (λ p. when_global _ _ _ (λ h t i. power_becomes j a b t m p h i (is_number t) refl))
  pow_leads j xs m = tt

  array_of_leads : (j : ℕ) (xs : Arguments) → Method g (Expression.name j array_name) of_name → Leads f (MethodBecomes f s next r (Expression.call l g xs)) (array_of next (Expression.name j array_name) xs)
  unfolding array_of
  array_of_leads j xs m = when_global _ _ _ (λ h. MethodBecomes.of_array_of m h)

  -- a method of a name that has to be another, and is
  at_name : (j : ℕ) (u v k n : Units) (D : Expression → Deciding) (P : Expression → Type 0) → (Method g (Expression.name j v) n → Leads f P (D (Expression.name j v)))
      → Method g (Expression.name j u) k → (same_name u v && same_name k n) ≡ true → Leads f P (D (Expression.name j u))
  at_name j u v k n D P h m e =
      let p : u ≡ v = same_says u v (first_so (same_name u v) (same_name k n) e) in
      subst (λ z. Leads f P (D (Expression.name j z))) (sym p) (h (subst (λ z. Method g (Expression.name j z) n) p (named m (second_so (same_name u v) (same_name k n) e))))

  object_leads : (xs : Arguments) (k : Units) (o : Expression) → Method g o k → Leads f (MethodBecomes f s next r (Expression.call l g xs)) (method_of_object s next r g xs k o)
  unfolding method_of_object global_method
  object_leads xs k (Expression.string j u) m = when_leads f _ _ _ (λ e. string_leads f s next r l g xs j u k m e)
  object_leads xs k (Expression.array j es) m =
      when_leads f _ _ _
      (λ e. array_leads f s next r l g xs j es (named m (first_so (same_name k concat_name) (outermost r) e)) (outermost_says r (second_so (same_name k concat_name) (outermost r) e)) (taken_count xs) (takes xs))
  object_leads xs k (Expression.name j u) m =
      cond_leads f _ _ _ _ (λ e. at_name j u math_name k pow_name (λ o. math_pow s next o xs) _ (pow_leads j xs) m e)
      (λ _. when_leads f _ _ _ (λ e. at_name j u array_name k of_name (λ o. array_of next o xs) _ (array_of_leads j xs) m e))
  object_leads xs k o m = tt

  called_leads : (xs : Arguments) (c : Callee) → callee_of g ≡ c → Leads f (MethodBecomes f s next r (Expression.call l g xs)) (method_called s next r g xs c)
  unfolding method_called
  called_leads xs (Callee.method o k) e = object_leads xs k o (callee_says g o k e)
  called_leads xs Callee.none e = tt

pub method_leads : (f : Facts) (s : Settings) (next : ℕ) (r : Role) (x : Expression) → Leads f (MethodBecomes f s next r x) (method_rule s next r x)
unfolding method_rule
method_leads f s next r (Expression.call l g xs) = called_leads f s next r l g xs (callee_of g) refl
method_leads f s next r x = tt
