-- Items of lists, and cuts of lists that are changed or longer.
use Rattle.std.proofs.Common.{◌≡◌, ℕ, zero, suc, ◌+◌, ◌-◌, ◌<◌, ◌≤◌, ◌⊎◌, List, [], ◌∷◌, ◌++◌, length, get_or, take, drop, set, Some, refl, ap, ◌∙◌, inl, inr, arith, length-drop, length-take, get_or-drop, get_or-take, drop-set-lt}
use lib.Seq.{drop-set-add, take-set-lt, take-set-le, take-append-le, drop-append-le}
use Rattle.std.specs.List.{slice_get}
use Rattle.tree.specs.Heap.{cut}

pub nth_low : {X : Type 0} (xs : List X) (i : ℕ) (x : X) → slice_get xs i ≡ Some x → i < length xs
nth_low [] i x e = absurd (let z : ◌≡◌ {A = ℕ} 0 1 = cc in omega arith)
nth_low (y ∷ xs) zero x e = omega arith
nth_low (y ∷ xs) (suc i) x e = omega (arith, nth_low xs i x e)

pub nth_set_same : {X : Type 0} (xs : List X) (i : ℕ) (x : X) → i < length xs → slice_get (set xs i x) i ≡ Some x
nth_set_same [] i x lt = absurd (omega arith)
nth_set_same (y ∷ xs) zero x lt = refl
nth_set_same (y ∷ xs) (suc i) x lt = nth_set_same xs i x (omega arith)

pub nth_set_other : {X : Type 0} (xs : List X) (i j : ℕ) (x : X) → (j ≡ i → ⊥) → slice_get (set xs i x) j ≡ slice_get xs j
nth_set_other [] i j x ne = refl
nth_set_other (y ∷ xs) zero zero x ne = absurd (ne refl)
nth_set_other (y ∷ xs) zero (suc j) x ne = refl
nth_set_other (y ∷ xs) (suc i) zero x ne = refl
nth_set_other (y ∷ xs) (suc i) (suc j) x ne = nth_set_other xs i j x (λ e. ne (ap suc e))

pub nth_append_left : {X : Type 0} (xs ys : List X) (i : ℕ) (x : X) → slice_get xs i ≡ Some x → slice_get (xs ++ ys) i ≡ Some x
nth_append_left [] ys i x e = absurd (let z : ◌≡◌ {A = ℕ} 0 1 = cc in omega arith)
nth_append_left (y ∷ xs) ys zero x e = e
nth_append_left (y ∷ xs) ys (suc i) x e = nth_append_left xs ys i x e

-- ---- cuts

module _ {X : Type 0} (xs : List X) (start len : ℕ) where
  pub length_cut : start + len ≤ length xs → length (cut xs start len) ≡ len
  length_cut le = simp (length-take, length-drop) (omega arith)

  pub getD_cut : (i : ℕ) (d : X) → i < len → get_or (cut xs start len) i d ≡ get_or xs (start + i) d
  getD_cut i d lt = get_or-take len (drop start xs) i d lt ∙ get_or-drop start xs i d

  -- A change within the cut, and one outside of it.
  pub cut_set : (i : ℕ) (x : X) → i < len → cut (set xs (start + i) x) start len ≡ set (cut xs start len) i x
  cut_set i x lt = ap (take len) (drop-set-add start xs i x) ∙ take-set-lt len (drop start xs) i x lt

  pub cut_kept : (at : ℕ) (x : X) → (at < start) ⊎ (start + len ≤ at) → cut (set xs at x) start len ≡ cut xs start len
  cut_kept at x (inl lt) = ap (take len) (drop-set-lt start xs at x lt)
  cut_kept at x (inr le) =
      let f : at ≡ start + (at - start) = omega arith in
      ap (λ k. cut (set xs k x) start len) f ∙ ap (take len) (drop-set-add start xs (at - start) x) ∙ take-set-le len (drop start xs) (at - start) x (omega arith)

  -- More items behind.
  pub cut_more : (ys : List X) → start + len ≤ length xs → cut (xs ++ ys) start len ≡ cut xs start len
  cut_more ys le = ap (take len) (drop-append-le start xs ys (omega arith)) ∙ take-append-le len (drop start xs) ys (simp length-drop (omega arith))
