-- What the relation of the rule property says is decided.
use Rattle.std.proofs.Common.{◌≡◌, ℕ, zero, suc, ◌^◌, ◌<◌, true, [], ◌∷◌, Some, None, slice_get, nat_le, refl, ap, ◌∙◌, arith}
use Rattle.meaning.specs.Expression.{Expression, Elements, Units}
use Rattle.meaning.specs.Number.{Number, whole}
use Rattle.host.specs.Answers.{Answers}
use Rattle.rules.specs.Places.{Role, TakesValue}
use Rattle.rules.specs.Deciding.{decided}
use Rattle.rules.specs.Facts.{said}
use Rattle.rules.specs.Building.{void_zero}
use Rattle.rules.specs.Indexed.{UnitAt, ElementAt, PropertyBecomes}
use Rattle.rules.specs.Property.{unit_or_void, element_at, without_effects, at_index, at_whole, at_key, property_read, property_rule}
use Rattle.rules.specs.Laws.{PropertyRewritesExactlyWhen}
use Rattle.rules.proofs.Leading.{said_to, when_decided, unless_decided}
use Rattle.rules.proofs.Indexing.{property_leads}

unit_is : (next : ℕ) (u : Units) (k v : ℕ) → slice_get u k ≡ Some v → unit_or_void next u k ≡ Expression.string next (v ∷ [])
unfolding unit_or_void
unit_is next [] k v e = let z : ◌≡◌ {A = ℕ} 0 1 = cc in absurd (omega arith)
unit_is next (x ∷ u) zero v e = let i : x ≡ v = cc in ap (λ y. Expression.string next (y ∷ [])) i
unit_is next (x ∷ u) (suc k) v e = unit_is next u k v e

void_is : (next : ℕ) (u : Units) (k : ℕ) → slice_get u k ≡ None → unit_or_void next u k ≡ void_zero next
unfolding unit_or_void
void_is next [] k e = refl
void_is next (x ∷ u) zero e = let z : ◌≡◌ {A = ℕ} 0 1 = cc in absurd (omega arith)
void_is next (x ∷ u) (suc k) e = void_is next u k e

unit_exactly : (next : ℕ) (u : Units) (k : ℕ) {y : Expression} → UnitAt next u k y → unit_or_void next u k ≡ y
unit_exactly next u k (UnitAt.unit e) = unit_is next u k _ e
unit_exactly next u k (UnitAt.past_end e) = void_is next u k e

element_exactly : (next : ℕ) {xs : Elements} {k : ℕ} {y : Expression} → ElementAt next xs k y → element_at next xs k ≡ Some y
unfolding element_at
element_exactly next ElementAt.item_here = refl
element_exactly next ElementAt.hole_here = refl
element_exactly next (ElementAt.past_item d) = element_exactly next d
element_exactly next (ElementAt.past_hole d) = element_exactly next d

module _ (a : Answers) (next : ℕ) where
  small : (k : ℕ) → k < 2 ^ 32 → nat_le k 4294967295 ≡ true
  small k l = grind arith

  index_exactly : (o y : Expression) (n k : ℕ) → whole (Number.bits n) ≡ Some k → k < 2 ^ 32 → decided a (at_index next o k) ≡ Some y → decided a (at_whole next o (whole (Number.bits n))) ≡ Some y
  unfolding at_whole
  index_exactly o y n k e l h = ap (λ z. decided a (at_whole next o z)) e ∙ when_decided a (nat_le k 4294967295) (at_index next o k) (small k l) ∙ h

  read_exactly : {x y : Expression} → PropertyBecomes (said a) next x y → decided a (property_read next x) ≡ Some y
  unfolding decided property_read at_key at_index without_effects
  read_exactly (PropertyBecomes.of_string {i = i} {n = n} {k = k} {u = u} h e l q) =
      index_exactly (Expression.string i u) _ n k e l (unless_decided a _ _ _ h ∙ ap Some (unit_exactly next u k q))
  read_exactly (PropertyBecomes.of_array {i = i} {n = n} {k = k} {xs = xs} h e l q) =
      index_exactly (Expression.array i xs) _ n k e l (ap (λ z. decided a (without_effects (Expression.array i xs) z)) (element_exactly next q) ∙ unless_decided a _ _ _ h)

  rule_exactly : (r : Role) {x y : Expression} → TakesValue r → PropertyBecomes (said a) next x y → decided a (property_rule next r x) ≡ Some y
  unfolding property_rule
  rule_exactly Role.ordinary t d = read_exactly d
  rule_exactly Role.concat_object t d = read_exactly d
  rule_exactly Role.referred t d = absurd t

pub property_exactly : PropertyRewritesExactlyWhen
property_exactly a next r x y =
    (λ e. said_to (λ y. TakesValue r × PropertyBecomes (said a) next x y) a (property_rule next r x) (property_leads (said a) next r x) y e, λ d. rule_exactly a next r d.0 d.1)
