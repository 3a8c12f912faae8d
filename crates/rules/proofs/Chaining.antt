-- The rule chain leads to one template, or one call.
use Rattle.std.proofs.Common.{◌≡◌, ℕ, ◌≤◌, Bool, true, false, cond, List, [], ◌∷◌, length, refl, sym, subst, arith}
use Rattle.meaning.specs.Expression.{Expression, Elements, Arguments, Units}
use Rattle.meaning.specs.Methods.{concat_name}
use Rattle.rules.specs.Places.{Role, Settings, IsOutermost}
use Rattle.rules.specs.Deciding.{same_name, outermost}
use Rattle.rules.specs.Facts.{Facts}
use Rattle.rules.specs.Building.{flat}
use Rattle.rules.specs.ChainBecomes.{Calls, ArraysApart}
use Rattle.rules.specs.Chain.{Chain, longer, called_on, chain_of, string_chain, array_chain, chained, chain_rule}
use Rattle.rules.proofs.Leading.{Leads, when_leads, leads_map}
use Rattle.rules.proofs.Calling.{same_says, outermost_says}
use Rattle.rules.proofs.Walking.{StringLed, string_leads}
use Rattle.rules.proofs.ReadLater.{apart_leads}

pub data ChainSays (x : Expression) : Chain → Type 0 where
  of_string : {m j : ℕ} {u : Units} {xss : List Arguments} → Calls (Expression.string j u) m x xss → ChainSays x (Chain.of_string (Expression.static_member m (Expression.string j u) concat_name) u xss)
  of_array : {m j : ℕ} {es : Elements} {xss : List Arguments} → Calls (Expression.array j es) m x xss → ChainSays x (Chain.of_array (Expression.static_member m (Expression.array j es) concat_name) xss)
  none : ChainSays x Chain.none

module _ (n m : ℕ) (xs : Arguments) where
  longer_says : {o : Expression} (c : Chain) → ChainSays o c → ChainSays (Expression.call n (Expression.static_member m o concat_name) xs) (longer c xs)
  unfolding longer
  longer_says c (ChainSays.of_string d) = ChainSays.of_string (Calls.outer d)
  longer_says c (ChainSays.of_array d) = ChainSays.of_array (Calls.outer d)
  longer_says c ChainSays.none = ChainSays.none

  called_says : (o : Expression) (c : Chain) → ChainSays o c → ChainSays (Expression.call n (Expression.static_member m o concat_name) xs) (called_on (Expression.static_member m o concat_name) o xs c)
  unfolding called_on
  called_says (Expression.string j u) c d = ChainSays.of_string Calls.innermost
  called_says (Expression.array j es) c d = ChainSays.of_array Calls.innermost
  called_says o c d = longer_says c d

  named_says : (o : Expression) (k : Units) (c : Chain) (b : Bool) → same_name k concat_name ≡ b → ChainSays o c
      → ChainSays (Expression.call n (Expression.static_member m o k) xs) (cond b (called_on (Expression.static_member m o k) o xs c) Chain.none)
  named_says o k c true e d =
      subst (λ z. ChainSays (Expression.call n (Expression.static_member m o z) xs) (called_on (Expression.static_member m o z) o xs c)) (sym (same_says k concat_name e)) (called_says o c d)
  named_says o k c false e d = ChainSays.none

pub chain_says : (x : Expression) → ChainSays x (chain_of x)
unfolding chain_of
chain_says (Expression.call n (Expression.static_member m o k) xs) = named_says n m xs o k (chain_of o) (same_name k concat_name) refl (chain_says o)
chain_says x = ChainSays.none

-- ---- the rule

pub data ChainLed (f : Facts) (s : Settings) (next : ℕ) (r : Role) (x : Expression) : Expression → Type 0 where
  of_string : {m j : ℕ} {u : Units} {xss : List Arguments} {y : Expression} → Calls (Expression.string j u) m x xss → 2 ≤ length xss → IsOutermost r
      → StringLed f s next (Expression.static_member m (Expression.string j u) concat_name) u xss y → ChainLed f s next r x y
  of_array : {m j : ℕ} {es : Elements} {xss : List Arguments} → Calls (Expression.array j es) m x xss → 2 ≤ length xss → IsOutermost r
      → ArraysApart f xss → ChainLed f s next r x (Expression.call next (Expression.static_member m (Expression.array j es) concat_name) (flat xss))

module _ (f : Facts) (s : Settings) (next : ℕ) (r : Role) (x : Expression) (o : IsOutermost r) where
  string_led : (m j : ℕ) (u : Units) (xss : List Arguments) → Calls (Expression.string j u) m x xss → Leads f (ChainLed f s next r x) (chained s next (Chain.of_string (Expression.static_member m (Expression.string j u) concat_name) u xss))
  unfolding chained
  string_led m j u [] d = tt
  string_led m j u (xs ∷ []) d = tt
  string_led m j u (xs ∷ (ys ∷ yss)) d =
      let g = Expression.static_member m (Expression.string j u) concat_name in
      leads_map f (StringLed f s next g u (xs ∷ (ys ∷ yss))) (ChainLed f s next r x) (λ y h. ChainLed.of_string d (omega arith) o h) (string_chain s next g u (xs ∷ (ys ∷ yss))) (string_leads f s next g u (xs ∷ (ys ∷ yss)))

  array_led : (m j : ℕ) (es : Elements) (xss : List Arguments) → Calls (Expression.array j es) m x xss → Leads f (ChainLed f s next r x) (chained s next (Chain.of_array (Expression.static_member m (Expression.array j es) concat_name) xss))
  unfolding chained array_chain
  array_led m j es [] d = tt
  array_led m j es (xs ∷ []) d = tt
  array_led m j es (xs ∷ (ys ∷ yss)) d = apart_leads f _ (xs ∷ (ys ∷ yss)) _ (λ i. ChainLed.of_array d (omega arith) o i)

  chained_leads : (c : Chain) → ChainSays x c → Leads f (ChainLed f s next r x) (chained s next c)
  unfolding chained
  chained_leads c (ChainSays.of_string {m = m} {j = j} {u = u} {xss = xss} d) = string_led m j u xss d
  chained_leads c (ChainSays.of_array {m = m} {j = j} {es = es} {xss = xss} d) = array_led m j es xss d
  chained_leads c ChainSays.none = tt

pub chain_leads : (f : Facts) (s : Settings) (next : ℕ) (r : Role) (x : Expression) → Leads f (ChainLed f s next r x) (chain_rule s next r x)
unfolding chain_rule
chain_leads f s next r x = when_leads f _ (outermost r) _ (λ e. chained_leads f s next r x (outermost_says r e) (chain_of x) (chain_says x))
