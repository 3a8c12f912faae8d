-- Reading a literal at an index, as the Rust does it.
use Rattle.std.proofs.Common.{◌≡◌, ℕ, zero, suc, Bool, true, false, cond, [], ◌∷◌, Some, None, Option, slice_get, nat_le, nat_lt, refl, subst, sym, arith}
use Rattle.std.proofs.lemmas.Bool.Decides.{nat_tests}
use Rattle.meaning.specs.Expression.{Expression, Elements, Units}
use Rattle.meaning.specs.Number.{Number, whole}
use Rattle.meaning.specs.Parts.{Part}
use Rattle.host.specs.Answers.{Answers}
use Rattle.rules.specs.Deciding.{Deciding, decided, when, unless_effects}
use Rattle.rules.specs.Places.{Role}
use Rattle.rules.specs.Property.{unit_or_void, element_at, without_effects, at_index, at_whole, at_key, property_read, property_rule}
use Rattle.oxc.specs.Functions.{Made, from_unit, length_until_spread, element, fold_access, try_fold_integer_index_access, to_integer_index, at_integer_index, by_member, replace_known_property_access}
use Rattle.oxc.specs.Laws.{SameButNumbers, Agree, TheRustAccessesAlike}

unit_alike : (next : ℕ) (u : Units) (k : ℕ) → SameButNumbers (unit_or_void next u k) (from_unit (slice_get u k))
unfolding unit_or_void from_unit
unit_alike next [] k = refl
unit_alike next (v ∷ u) zero = refl
unit_alike next (v ∷ u) (suc k) = unit_alike next u k

past : (k n : ℕ) → nat_lt k n ≡ nat_lt (suc k) (suc n)
past k n = grind (arith, nat_tests)

before : (n : ℕ) → true ≡ nat_lt 0 (suc n)
before n = grind (arith, nat_tests)

never : (k : ℕ) → false ≡ nat_lt k 0
never k = grind (arith, nat_tests)

element_alike : (next : ℕ) (xs : Elements) (k : ℕ) → Agree (element_at next xs k) (cond (nat_lt k (length_until_spread xs)) (element xs k) Made.left)
unfolding element_at length_until_spread element
element_alike next Elements.no_elements k = subst (λ b. Agree None (cond b Made.left Made.left)) (never k) tt
element_alike next (Elements.spread l x xs) k = subst (λ b. Agree None (cond b (element (Elements.spread l x xs) k) Made.left)) (never k) tt
element_alike next (Elements.item x xs) zero = subst (λ b. Agree (Some x) (cond b (Made.replaced x) Made.left)) (before (length_until_spread xs)) refl
element_alike next (Elements.hole l xs) zero = subst (λ b. Agree (element_at next (Elements.hole l xs) 0) (cond b (element (Elements.hole l xs) 0) Made.left)) (before (length_until_spread xs)) refl
element_alike next (Elements.item x xs) (suc k) = subst (λ b. Agree (element_at next xs k) (cond b (element xs k) Made.left)) (past k (length_until_spread xs)) (element_alike next xs k)
element_alike next (Elements.hole l xs) (suc k) = subst (λ b. Agree (element_at next xs k) (cond b (element xs k) Made.left)) (past k (length_until_spread xs)) (element_alike next xs k)

without : (a : Answers) (o : Expression) (y : Option Expression) (m : Made) (b : Bool) → a.effects (Part.expression o) ≡ b → Agree y m → Agree (decided a (without_effects o y)) (cond b Made.left m)
unfolding decided without_effects unless_effects
without a o None m true e h = tt
without a o None m false e h = h
without a o (Some y) m true e h = subst (λ b. Agree (decided a (unless_effects b (Deciding.becomes y) Deciding.keep)) Made.left) (sym e) tt
without a o (Some y) m false e h = subst (λ b. Agree (decided a (unless_effects b (Deciding.becomes y) Deciding.keep)) m) (sym e) h

index_alike : (next : ℕ) (a : Answers) (o : Expression) (k : ℕ) → Agree (decided a (at_index next o k)) (try_fold_integer_index_access a o k)
unfolding at_index fold_access decided
index_alike next a (Expression.string l u) k =
    without a (Expression.string l u) (Some (unit_or_void next u k)) (Made.replaced (from_unit (slice_get u k))) (a.effects (Part.expression (Expression.string l u))) refl (unit_alike next u k)
index_alike next a (Expression.array l xs) k =
    without a (Expression.array l xs) (element_at next xs k) (cond (nat_lt k (length_until_spread xs)) (element xs k) Made.left) (a.effects (Part.expression (Expression.array l xs))) refl (element_alike next xs k)
index_alike next a o k = kept (a.effects (Part.expression o))
  where
    kept : (b : Bool) → Agree None (cond b Made.left Made.left)
    kept true = tt
    kept false = tt

whole_alike : (next : ℕ) (a : Answers) (o : Expression) (w : Option ℕ) → Agree (decided a (at_whole next o w)) (at_integer_index a o (to_integer_index w))
unfolding decided at_whole at_integer_index when
whole_alike next a o None = tt
whole_alike next a o (Some k) = held (nat_le k 4294967295)
  where
    held : (b : Bool) → Agree (decided a (when b (at_index next o k))) (at_integer_index a o (cond b (Some k) None))
    held true = index_alike next a o k
    held false = tt

key_alike : (next : ℕ) (a : Answers) (m : ℕ) (o y : Expression) → Agree (decided a (at_key next o y)) (by_member a (Expression.computed_member m o y))
unfolding decided at_key by_member
key_alike next a m o (Expression.number l n) = whole_alike next a o (whole (Number.bits n))
key_alike next a m o y = tt

read_alike : (next : ℕ) (a : Answers) (x : Expression) → Agree (decided a (property_read next x)) (by_member a x)
unfolding decided property_read by_member
read_alike next a (Expression.computed_member m o y) = key_alike next a m o y
read_alike next a x = tt

pub accesses_alike : TheRustAccessesAlike
unfolding decided property_rule replace_known_property_access
accesses_alike next Role.referred a x = tt
accesses_alike next Role.ordinary a x = read_alike next a x
accesses_alike next Role.concat_object a x = read_alike next a x
