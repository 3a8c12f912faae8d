-- Which numbers are whole, by the fields of their bits.
use Rattle.std.proofs.Common.{◌≡◌, ℕ, ◌+◌, ◌-◌, ◌*◌, ◌<◌, ◌≤◌, ◌/◌, ◌%◌, ◌^◌, Bool, true, false, cond, Some, None, Option, Ok, Err, Result, ◌==◌, nat_le, nat_lt, ◌⊎◌, ⊎_elim, refl, sym, subst, ap, ◌∙◌, arith}
use Rattle.std.specs.Result.{OkIff, result_ok}
use Rattle.std.proofs.lemmas.Bool.Decides.{nat_tests}
use Rattle.std.proofs.Math.Nat.{mod-eq_of_lt}
use Rattle.std.proofs.Math.Pow.{pow_mono, pow_pos}
use Rattle.deciding.specs.Index.{IntegerIndex}
use Rattle.meaning.specs.Number.{Number, exponent_field, fraction_field, whole_of_fields, whole}

pub zero_index : (n : ℕ) → (n ≡ 0) ⊎ ((n ≡ 0 → ⊥) × (n ≡ 9223372036854775808)) → (whole (Number.bits n) ≡ Some 0) × (0 < 2 ^ 32)
unfolding whole
zero_index n h = (⊎_elim (λ e. rw e refl) (λ e. rw e.1 refl) h, omega arith)

-- The fields of what is neither zero nor negative.
equal_no : (n k : ℕ) → (n ≡ k → ⊥) → (n == k) ≡ false
equal_no n k h = grind (arith, nat_tests)

less_so : (n k : ℕ) → n < k → nat_lt n k ≡ true
less_so n k h = grind (arith, nat_tests)

less_no : (n k : ℕ) → k ≤ n → nat_lt n k ≡ false
less_no n k h = grind (arith, nat_tests)

most_no : (n k : ℕ) → k < n → nat_le n k ≡ false
most_no n k h = grind (arith, nat_tests)

most_so : (n k : ℕ) → n ≤ k → nat_le n k ≡ true
most_so n k h = grind (arith, nat_tests)

is_less : (n k : ℕ) → nat_lt n k ≡ true → n < k
is_less n k h = grind (arith, nat_tests)

is_most : (n k : ℕ) → nat_lt n k ≡ false → k ≤ n
is_most n k h = grind (arith, nat_tests)

by_fields : (n : ℕ) → (n ≡ 0 → ⊥) → (n ≡ 9223372036854775808 → ⊥) → n < 2 ^ 63 → whole (Number.bits n) ≡ whole_of_fields (n / 2 ^ 52) (n % 2 ^ 52)
unfolding whole exponent_field fraction_field
by_fields n a b h =
    let e : n / 2 ^ 52 % 2 ^ 11 ≡ n / 2 ^ 52 = omega arith in
    rw (equal_no n 0 a, equal_no n 9223372036854775808 b, less_so n (2 ^ 63) h) (ap (λ z. whole_of_fields z (n % 2 ^ 52)) e)

-- An exponent below that of 1 is that of no whole number.
fields_small : (e f : ℕ) → e < 1023 → f < 2 ^ 52 → whole_of_fields e f ≡ None
unfolding whole_of_fields
fields_small e f l m = by (e == 0) refl
  where
    shifted : 2 ^ 53 ≤ 2 ^ (1075 - e)
    shifted = pow_mono {i = 53} {j = 1075 - e} (omega arith)

    same : (2 ^ 52 + f) % 2 ^ (1075 - e) ≡ 2 ^ 52 + f
    same = mod-eq_of_lt (omega (arith, shifted))

    no_rest : ((2 ^ 52 + f) % 2 ^ (1075 - e) == 0) ≡ false
    no_rest = ap (λ z. z == 0) same ∙ equal_no (2 ^ 52 + f) 0 (λ h. omega (arith, h))

    by : (b : Bool) → (e == 0) ≡ b
        → cond b None (cond (e == 2047) None (cond (nat_le 1075 e) (Some ((2 ^ 52 + f) * 2 ^ (e - 1075))) (cond ((2 ^ 52 + f) % 2 ^ (1075 - e) == 0) (Some ((2 ^ 52 + f) / 2 ^ (1075 - e))) None))) ≡ None
    by true h = refl
    by false h = rw (equal_no e 2047 (λ h. omega (arith, h)), most_no 1075 e (omega arith), no_rest) refl

-- An exponent from that of 2 ^ 52 on is that of large numbers, if of whole ones at all.
times_some : (m p : ℕ) → 1 ≤ p → m ≤ m * p
times_some m p h = grind arith

some_none : {A : Type 0} {k : ℕ} → None ≡ Some k → A
some_none e = let z : ◌≡◌ {A = ℕ} 0 1 = cc in absurd (omega arith)

some_same : {j k : ℕ} → Some j ≡ Some k → j ≡ k
some_same e = cc

fields_large : (e f k : ℕ) → 1075 ≤ e → whole_of_fields e f ≡ Some k → 2 ^ 52 ≤ k
unfolding whole_of_fields
fields_large e f k l h =
    by (e == 2047) (subst (λ b. cond b None (cond (e == 2047) None (cond (nat_le 1075 e) (Some ((2 ^ 52 + f) * 2 ^ (e - 1075))) (cond ((2 ^ 52 + f) % 2 ^ (1075 - e) == 0) (Some ((2 ^ 52 + f) / 2 ^ (1075 - e))) None))) ≡ Some k)
    (equal_no e 0 (λ i. omega (arith, i))) h)
  where
    large : (2 ^ 52 + f) * 2 ^ (e - 1075) ≡ k → 2 ^ 52 ≤ k
    large i = omega (arith, times_some (2 ^ 52 + f) (2 ^ (e - 1075)) (pow_pos (e - 1075)), i)

    by : (b : Bool)
        → cond b None (cond (nat_le 1075 e) (Some ((2 ^ 52 + f) * 2 ^ (e - 1075))) (cond ((2 ^ 52 + f) % 2 ^ (1075 - e) == 0) (Some ((2 ^ 52 + f) / 2 ^ (1075 - e))) None)) ≡ Some k
        → 2 ^ 52 ≤ k
    by true i = some_none i
    by false i =
        large (some_same (subst (λ b. cond b (Some ((2 ^ 52 + f) * 2 ^ (e - 1075))) (cond ((2 ^ 52 + f) % 2 ^ (1075 - e) == 0) (Some ((2 ^ 52 + f) / 2 ^ (1075 - e))) None) ≡ Some k) (most_so 1075 e l) i))

-- What is outside of these exponents stands for no whole number that 32 bits hold.
module _ (n : ℕ) (a : n ≡ 0 → ⊥) (b : n ≡ 9223372036854775808 → ⊥) where
  negative : 2 ^ 63 ≤ n → whole (Number.bits n) ≡ None
  unfolding whole
  negative h = rw (equal_no n 0 a, equal_no n 9223372036854775808 b, less_no n (2 ^ 63) h) refl

  pub outside : (n / 4503599627370496 < 1023) ⊎ ((1023 ≤ n / 4503599627370496) × (1075 ≤ n / 4503599627370496)) → (k : ℕ) → whole (Number.bits n) ≡ Some k → 2 ^ 32 ≤ k
  outside h k w = ⊎_elim (λ l. low l) (λ l. high l.1 (nat_lt n (2 ^ 63)) refl) h
    where
      low : n / 2 ^ 52 < 1023 → 2 ^ 32 ≤ k
      low l = some_none (sym (by_fields n a b (omega (arith, l)) ∙ fields_small (n / 2 ^ 52) (n % 2 ^ 52) l (omega arith)) ∙ w)

      high : 1075 ≤ n / 2 ^ 52 → (c : Bool) → nat_lt n (2 ^ 63) ≡ c → 2 ^ 32 ≤ k
      high l true e = let m = fields_large (n / 2 ^ 52) (n % 2 ^ 52) k l (sym (by_fields n a b (is_less n (2 ^ 63) e)) ∙ w) in omega (arith, m)
      high l false e = some_none (sym (negative (is_most n (2 ^ 63) e)) ∙ w)

  -- Between them it is whole where the division leaves no rest.
  pub between : 1023 ≤ n / 4503599627370496 → n / 4503599627370496 < 1075
      → whole (Number.bits n) ≡ cond ((4503599627370496 + n % 4503599627370496) % 2 ^ (1075 - n / 4503599627370496) == 0) (Some ((4503599627370496 + n % 4503599627370496) / 2 ^ (1075 - n / 4503599627370496))) None
  unfolding whole_of_fields
  between l m =
      let e = n / 2 ^ 52 in
      by_fields n a b (omega (arith, m)) ∙ rw (equal_no e 0 (λ i. omega (arith, i, l)), equal_no e 2047 (λ i. omega (arith, i, m)), most_no 1075 e m) refl

  -- The unit that the code divides by.
  shift_is : 1023 ≤ n / 4503599627370496 → 1 * 2 ^ (1075 - n / 4503599627370496) % 18446744073709551616 ≡ 2 ^ (1075 - n / 4503599627370496)
  shift_is l =
      let s = 1075 - n / 4503599627370496 in
      let small : 2 ^ s ≤ 2 ^ 52 = pow_mono {i = s} {j = 52} (omega arith) in
      let one : 1 * 2 ^ s ≡ 2 ^ s = omega arith in
      ap (λ z. z % 18446744073709551616) one ∙ mod-eq_of_lt (omega (arith, small))

  pub broken : 1023 ≤ n / 4503599627370496 → n / 4503599627370496 < 1075
      → ((4503599627370496 + n % 4503599627370496) % (1 * 2 ^ (1075 - n / 4503599627370496) % 18446744073709551616) ≡ 0 → ⊥)
      → (k : ℕ) → whole (Number.bits n) ≡ Some k → 2 ^ 32 ≤ k
  broken l m h k w =
      let rest = (4503599627370496 + n % 4503599627370496) % 2 ^ (1075 - n / 4503599627370496) in
      let no = equal_no rest 0 (λ e. h (ap (λ z. (4503599627370496 + n % 4503599627370496) % z) (shift_is l) ∙ e)) in
      some_none (sym (between l m ∙ ap (λ z. cond z (Some ((4503599627370496 + n % 4503599627370496) / 2 ^ (1075 - n / 4503599627370496))) None) no) ∙ w)

  pub unbroken : 1023 ≤ n / 4503599627370496 → n / 4503599627370496 < 1075
      → (4503599627370496 + n % 4503599627370496) % (1 * 2 ^ (1075 - n / 4503599627370496) % 18446744073709551616) ≡ 0
      → whole (Number.bits n) ≡ Some ((4503599627370496 + n % 4503599627370496) / (1 * 2 ^ (1075 - n / 4503599627370496) % 18446744073709551616))
  unbroken l m h =
      let zero : (4503599627370496 + n % 4503599627370496) % 2 ^ (1075 - n / 4503599627370496) ≡ 0 = ap (λ z. (4503599627370496 + n % 4503599627370496) % z) (sym (shift_is l)) ∙ h in
      between l m ∙ rw zero refl ∙ ap (λ z. Some ((4503599627370496 + n % 4503599627370496) / z)) (sym (shift_is l))

-- The cast, where 32 bits hold the number.
cast_says : {E : Type 0} (n m : ℕ) (r : Result ℕ E) → OkIff r (m < 4294967296) m → whole (Number.bits n) ≡ Some m → IntegerIndex n (result_ok r)
cast_says n m (Ok x) h w = (w ∙ ap Some (sym h.1), subst (λ z. z < 4294967296) (sym h.1) h.0)
cast_says n m (Err e) h w = λ k v. let same : m ≡ k = some_same (sym w ∙ v) in subst (λ z. 4294967296 ≤ z) same (not_less m h)
  where
    not_less : (m : ℕ) → (m < 4294967296 → ⊥) → 4294967296 ≤ m
    not_less m h = grind arith

pub index_held : {E : Type 0} (n m : ℕ) (r : Result ℕ E) (o : Option ℕ) → o ≡ result_ok r → OkIff r (m < 4294967296) m → whole (Number.bits n) ≡ Some m → IntegerIndex n o
index_held n m r o e h w = subst (IntegerIndex n) (sym e) (cast_says n m r h w)
