-- The words of a section: how many they are, and each.
use Rattle.std.proofs.Common.{◌≡◌, ℕ, zero, suc, ◌+◌, ◌*◌, ◌<◌, List, length, Some, refl, ap, ◌∙◌, arith}
use Rattle.std.specs.List.{slice_get}
use Rattle.file.specs.Format.{word, words}

pub length_words : (bytes : List ℕ) (k n : ℕ) → length (words bytes k n) ≡ n
length_words bytes k zero = refl
length_words bytes k (suc n) = ap suc (length_words bytes (suc k) n)

pub nth_words : (bytes : List ℕ) (j n k : ℕ) → k < n → slice_get (words bytes j n) k ≡ Some (word bytes (4 * (j + k)))
nth_words bytes j zero k lt = absurd (omega arith)
nth_words bytes j (suc n) zero lt = let e : j ≡ j + 0 = omega arith in ap (λ i. Some (word bytes (4 * i))) e
nth_words bytes j (suc n) (suc k) lt = let e : suc j + k ≡ j + suc k = omega arith in nth_words bytes (suc j) n k (omega arith) ∙ ap (λ i. Some (word bytes (4 * i))) e
