-- The bits of a row's byte.
use Rattle.std.proofs.Common.{◌≡◌, ℕ, zero, suc, ◌*◌, ◌%◌, ◌^◌, ◌<◌, not, nat_eq, refl, ap, bit_and, arith}
use Rattle.std.specs.Int.{bit_at}
use Rattle.std.proofs.Math.Dec.{eqb-suc-zero}
use Rattle.std.proofs.lemmas.Nat.{and_mask, pow_pos}
use Rattle.std.proofs.lemmas.Nat.Bits.{and_pow, bit_at-lt}

weighed : (b weight m : ℕ) → b < 2 → 0 < weight → m ≡ b * weight → not (nat_eq m 0) ≡ nat_eq b 1
weighed zero w m lt p e = let z : m ≡ 0 = omega arith in rw z refl
weighed (suc zero) w zero lt p e = absurd (omega arith)
weighed (suc zero) w (suc m) lt p e = ap not (eqb-suc-zero m)
weighed (suc (suc b)) w m lt p e = absurd (omega arith)

-- A mask of one bit tests that bit.
bit_tested : (n k : ℕ) → not (nat_eq (bit_and n (2 ^ k)) 0) ≡ nat_eq (bit_at n k) 1
bit_tested n k = weighed (bit_at n k) (2 ^ k) (bit_and n (2 ^ k)) (bit_at-lt n k) (pow_pos k) (and_pow n k)

pub effects_bit : (n : ℕ) → not (nat_eq (bit_and n 128) 0) ≡ nat_eq (bit_at n 7) 1
effects_bit n = bit_tested n 7

pub global_bit : (n : ℕ) → not (nat_eq (bit_and n 64) 0) ≡ nat_eq (bit_at n 6) 1
global_bit n = bit_tested n 6

pub number_bits : (n : ℕ) → bit_and n 63 ≡ n % 64
number_bits n = and_mask n 6
