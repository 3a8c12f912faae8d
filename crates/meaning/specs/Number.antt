-- Number values, as bits.
use Rattle.std.specs.Prelude.{ℕ, ◌+◌, ◌-◌, ◌*◌, ◌/◌, ◌%◌, ◌^◌, cond, Some, None, Option, ◌==◌, nat_le, nat_lt}

-- A Number: NaN, of which there is one, or the 64 bits of any other number in the format binary64 of IEEE 754, so that
-- there are two zeros and two infinities. ECMA-262, "The Number Type".
pub data Number : Type 0 where
  nan : Number
  bits : ℕ → Number

-- The numbers +0 and 1. ECMA-262, "The Number Type".
unfoldable pub positive_zero : Number
positive_zero = Number.bits 0

unfoldable pub one : Number
one = Number.bits 0x3FF0000000000000

-- The negative of a number: the sign, which is the highest bit, is flipped, and NaN stays NaN. ECMA-262,
-- "Number::unaryMinus".
unfoldable pub negative : Number → Number
negative Number.nan = Number.nan
negative (Number.bits n) = Number.bits (cond (nat_lt n (2 ^ 63)) (n + 2 ^ 63) (n - 2 ^ 63))

-- The exponent's field of 11 bits, and the fraction's of 52. ECMA-262, "The Number Type", and IEEE 754, "Binary
-- interchange format encodings".
unfoldable pub exponent_field : ℕ → ℕ
exponent_field n = n / 2 ^ 52 % 2 ^ 11

unfoldable pub fraction_field : ℕ → ℕ
fraction_field n = n % 2 ^ 52

-- (2 ^ 52 + f) * 2 ^ (e - 1075), if that is whole: the value of a positive number with these fields. The field 0 is
-- that of subnormal numbers, which are no whole numbers, and 2047 that of infinity. ECMA-262, "The Number Type".
unfoldable pub whole_of_fields : (e f : ℕ) → Option ℕ
whole_of_fields e f =
    cond (e == 0) None
    (cond (e == 2047) None
    (cond (nat_le 1075 e) (Some ((2 ^ 52 + f) * 2 ^ (e - 1075)))
    (cond ((2 ^ 52 + f) % 2 ^ (1075 - e) == 0) (Some ((2 ^ 52 + f) / 2 ^ (1075 - e))) None)))

-- A number that is whole and at least 0, −0 being 0; none for any other. ECMA-262, "The Number Type" and
-- "Number::toString", by which −0 names the property that 0 names.
unfoldable pub whole : Number → Option ℕ
whole Number.nan = None
whole (Number.bits n) =
    cond (n == 0) (Some 0)
    (cond (n == 2 ^ 63) (Some 0)
    (cond (nat_lt n (2 ^ 63)) (whole_of_fields (exponent_field n) (fraction_field n)) None))
