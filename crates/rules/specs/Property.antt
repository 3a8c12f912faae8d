-- The rule property: a string or an array literal at an index.
use Rattle.std.specs.Prelude.{ℕ, zero, suc, [], ◌∷◌, Some, None, Option, nat_le}
use Rattle.meaning.specs.Expression.{Expression, Elements, Units}
use Rattle.meaning.specs.Number.{Number, whole}
use Rattle.meaning.specs.Parts.{Part}
use Rattle.rules.specs.Places.{Role}
use Rattle.rules.specs.Deciding.{Deciding, when, unless_effects}
use Rattle.rules.specs.Building.{void_zero}

-- The one unit at an index as a string, or `void 0` past the end. oxc_minifier's `try_fold_integer_index_access`.
unfoldable pub unit_or_void : ℕ → Units → ℕ → Expression
unit_or_void next [] k = void_zero next
unit_or_void next (u ∷ us) zero = Expression.string next (u ∷ [])
unit_or_void next (u ∷ us) (suc k) = unit_or_void next us k

-- The element at an index, if no spread stands there or before it: `void 0` for a hole. oxc_minifier's
-- `try_fold_integer_index_access`.
unfoldable pub element_at : ℕ → Elements → ℕ → Option Expression
element_at next Elements.no_elements k = None
element_at next (Elements.spread l x xs) k = None
element_at next (Elements.item x xs) zero = Some x
element_at next (Elements.hole l xs) zero = Some (void_zero next)
element_at next (Elements.item x xs) (suc k) = element_at next xs k
element_at next (Elements.hole l xs) (suc k) = element_at next xs k

-- An object that must not have effects. oxc_minifier's `try_fold_integer_index_access`.
unfoldable pub without_effects : Expression → Option Expression → Deciding
without_effects o None = Deciding.keep
without_effects o (Some y) = Deciding.ask_effects (Part.expression o) (λ e. unless_effects e (Deciding.becomes y) Deciding.keep)

-- An object at an index. oxc_minifier's `try_fold_integer_index_access`.
unfoldable pub at_index : ℕ → Expression → ℕ → Deciding
at_index next (Expression.string l u) k = without_effects (Expression.string l u) (Some (unit_or_void next u k))
at_index next (Expression.array l xs) k = without_effects (Expression.array l xs) (element_at next xs k)
at_index next o k = Deciding.keep

-- A whole number that 32 bits hold. oxc_minifier's `to_integer_index`.
unfoldable pub at_whole : ℕ → Expression → Option ℕ → Deciding
at_whole next o None = Deciding.keep
at_whole next o (Some k) = when (nat_le k 4294967295) (at_index next o k)

-- A key. oxc_minifier's `replace_known_property_access`.
unfoldable pub at_key : ℕ → Expression → Expression → Deciding
at_key next o (Expression.number l n) = at_whole next o (whole (Number.bits n))
at_key next o y = Deciding.keep

-- A computed member. oxc_minifier's `replace_known_property_access`.
unfoldable pub property_read : ℕ → Expression → Deciding
property_read next (Expression.computed_member l o y) = at_key next o y
property_read next x = Deciding.keep

-- What is taken as a reference is kept. oxc_minifier's `replace_known_property_access`.
unfoldable pub property_rule : ℕ → Role → Expression → Deciding
property_rule next Role.referred x = Deciding.keep
property_rule next Role.ordinary x = property_read next x
property_rule next Role.concat_object x = property_read next x
