-- The conditions on arguments once more, for each argument and each later one, in what a host says of them.
use Rattle.std.specs.Prelude.{◌≡◌, ℕ, zero, suc, ◌<◌, false, List, Some, slice_get, ◌⊎◌, ◌↔◌}
use Rattle.host.specs.declared.value_type.ValueType.TheVariants.{Undetermined, Object}
use Rattle.meaning.specs.Expression.{Expression, Arguments}
use Rattle.meaning.specs.Parts.{Part}
use Rattle.host.specs.Answers.{Answers}
use Rattle.rules.specs.Facts.{said}
use Rattle.rules.specs.Interleaves.{Interleaves}
use Rattle.rules.specs.ChainBecomes.{IsArray, ArraysApart}

-- An argument is at an index, from 0 on. ECMA-262, "Argument Lists".
pub data ArgumentAt : Arguments → ℕ → Part → Type 0 where
  here : {x : Expression} {xs : Arguments} → ArgumentAt (Arguments.argument x xs) zero (Part.expression x)
  spread_here : {l : ℕ} {x : Expression} {xs : Arguments} → ArgumentAt (Arguments.spread_argument l x xs) zero (Part.spread l x)
  past : {x : Expression} {xs : Arguments} {i : ℕ} {p : Part} → ArgumentAt xs i p → ArgumentAt (Arguments.argument x xs) (suc i) p
  past_spread : {l : ℕ} {x : Expression} {xs : Arguments} {i : ℕ} {p : Part} → ArgumentAt xs i p → ArgumentAt (Arguments.spread_argument l x xs) (suc i) p

-- By what the host says it is of type Object or Undetermined. oxc_minifier's `string_concat_can_interleave`.
abbrev pub ObjectOrUndetermined : Answers → Part → Type 0
ObjectOrUndetermined a p = (a.value_type p ≡ Object) ⊎ (a.value_type p ≡ Undetermined)

-- What `concat` on an array reads only once it is called: a spread, and an argument of type Object or Undetermined
-- that is no array literal. ECMA-262, "Array.prototype.concat".
abbrev pub IsReadLate : Answers → Part → Type 0
IsReadLate a (Part.expression x) = (IsArray x → ⊥) × ObjectOrUndetermined a (Part.expression x)
IsReadLate a (Part.hole l) = ⊥
IsReadLate a (Part.spread l x) = Unit {0}
IsReadLate a (Part.quasi q) = ⊥

-- Arguments interleave exactly if none is a spread, and no argument behind one of type Object or Undetermined has
-- effects.
abbrev pub InterleavingIsPairwise : Type 0
InterleavingIsPairwise =
    (a : Answers) (xs : Arguments)
    → Interleaves (said a) xs
    ↔ (((i l : ℕ) (x : Expression) → ArgumentAt xs i (Part.spread l x) → ⊥)
    × ((i j : ℕ) (p q : Part) → i < j → ArgumentAt xs i p → ArgumentAt xs j q → ObjectOrUndetermined a p → a.effects q ≡ false))

-- A chain's calls on an array are apart exactly if no argument of a call that is later than that of one that is read
-- late has effects.
abbrev pub ArraysApartIsPairwise : Type 0
ArraysApartIsPairwise =
    (a : Answers) (xss : List Arguments)
    → ArraysApart (said a) xss
    ↔ ((i j k l : ℕ) (xs ys : Arguments) (p q : Part) → i < j → slice_get xss i ≡ Some xs → slice_get xss j ≡ Some ys
    → ArgumentAt xs k p → ArgumentAt ys l q → IsReadLate a p → a.effects q ≡ false)
