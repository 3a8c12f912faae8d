-- A number as an index.
use Rattle.std.specs.Prelude.{◌≡◌, ℕ, ◌^◌, ◌<◌, ◌≤◌, Some, Option, MatchOption}
use Rattle.meaning.specs.Number.{Number, whole}

-- The whole number that the bits stand for; or they stand for none, or for one that 32 bits do not hold. oxc_minifier's
-- `to_integer_index`.
abbrev pub IntegerIndex : ℕ → Option ℕ → Type 0
IntegerIndex bits r = MatchOption r ((k : ℕ) → whole (Number.bits bits) ≡ Some k → 2 ^ 32 ≤ k) (λ k. (whole (Number.bits bits) ≡ Some k) × (k < 2 ^ 32))
