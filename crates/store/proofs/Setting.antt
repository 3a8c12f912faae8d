-- An item at the front of some memory is replaced.
use Rattle.std.proofs.Common.{◌≡◌, ℕ, zero, suc, ◌<◌, ◌≤◌, List, [], ◌∷◌, ◌++◌, length, take, drop, set, refl, ap, sym, arith}

module _ {X : Type 0} where
  take_rest : (n : ℕ) (xs : List X) → take n xs ++ drop (length (take n xs)) xs ≡ xs
  take_rest zero xs = refl
  take_rest (suc n) [] = refl
  take_rest (suc n) (x ∷ xs) = ap (λ ys. x ∷ ys) (take_rest n xs)

  pub set_front : (n : ℕ) (xs : List X) (i : ℕ) (y : X) → i < n → n ≤ length xs → take n (set xs i y) ≡ set (take n xs) i y
  set_front zero xs i y lt le = absurd (omega arith)
  set_front (suc n) [] i y lt le = absurd (omega arith)
  set_front (suc n) (x ∷ xs) zero y lt le = refl
  set_front (suc n) (x ∷ xs) (suc i) y lt le = ap (λ ys. x ∷ ys) (set_front n xs i y (omega arith) (omega arith))

  pub set_whole : (n : ℕ) (xs : List X) (i : ℕ) (y : X) → i < n → n ≤ length xs → set xs i y ≡ set (take n xs) i y ++ drop (length (set (take n xs) i y)) xs
  set_whole zero xs i y lt le = absurd (omega arith)
  set_whole (suc n) [] i y lt le = absurd (omega arith)
  set_whole (suc n) (x ∷ xs) zero y lt le = ap (λ ys. y ∷ ys) (sym (take_rest n xs))
  set_whole (suc n) (x ∷ xs) (suc i) y lt le = ap (λ ys. x ∷ ys) (set_whole n xs i y (omega arith) (omega arith))
