-- Sums over numbers and over the nodes of a tree.
use Rattle.std.proofs.Common.{◌≡◌, ℕ, zero, suc, ◌+◌, ◌*◌, ◌<◌, ◌≤◌, cond, List, [], ◌∷◌, length, get_or, sym, refl, ap, ◌∙◌, inl, inr, add-mul, one-mul, zero-mul, arith}
use Rattle.std.proofs.lemmas.Bool.{cases_eq, cases_lt, eq-eqb, ne_eqb}
use Rattle.tree.specs.Tree.{Tree, Trees, tree, none, more, same, uses, uses_all}
use Rattle.tree.specs.Laws.{count, total}

pub same_self : (x : ℕ) → same x x ≡ 1
same_self x = ap (λ b. cond b 1 0) (eq-eqb x x refl)

pub same_other : (x y : ℕ) → (x ≡ y → ⊥) → same x y ≡ 0
same_other x y n = ap (λ b. cond b 1 0) (ne_eqb x y n)

pub count_getD : (ks : List ℕ) (j : ℕ) → j < length ks → 1 ≤ count (get_or ks j 0) ks
count_getD [] j lt = absurd (omega arith)
count_getD (k ∷ ks) zero lt = omega (arith, same_self k)
count_getD (k ∷ ks) (suc j) lt = omega (arith, count_getD ks j (omega arith))

-- ---- sums over the numbers below n

pub total_same : (n : ℕ) (f g : ℕ → ℕ) → ((x : ℕ) → x < n → f x ≡ g x) → total n f ≡ total n g
total_same zero f g e = refl
total_same (suc n) f g e = omega (arith, e n (omega arith), total_same n f g (λ x lt. e x (omega arith)))

pub total_zero : (n : ℕ) (f : ℕ → ℕ) → ((x : ℕ) → x < n → f x ≡ 0) → total n f ≡ 0
total_zero zero f z = refl
total_zero (suc n) f z = omega (arith, z n (omega arith), total_zero n f (λ x lt. z x (omega arith)))

-- A weight at one number.
total_at : (n l : ℕ) (w : ℕ → ℕ) → l < n → total n (λ x. same x l * w x) ≡ w l
total_at zero l w lt = absurd (omega arith)
total_at (suc n) l w lt =
    elim (cases_eq n l) [
      | inl e ↦
          let z = total_zero n (λ x. same x l * w x) (λ x lo. ap (λ b. b * w x) (same_other x l (λ f. omega arith)) ∙ zero-mul (w x)) in
          omega (arith, z, ap (λ b. b * w n) (ap (same n) (sym e) ∙ same_self n) ∙ one-mul (w n), ap w e)
      | inr ne ↦ omega (arith, total_at n l w (omega arith), ap (λ b. b * w n) (same_other n l ne) ∙ zero-mul (w n))
    ]

total_split : (n : ℕ) (f g w : ℕ → ℕ) → total n (λ x. (f x + g x) * w x) ≡ total n (λ x. f x * w x) + total n (λ x. g x * w x)
total_split zero f g w = refl
total_split (suc n) f g w = omega (arith, total_split n f g w, add-mul (f n) (g n) (w n))

-- ---- sums over the nodes of a tree

abbrev mutual
  pub weigh : (ℕ → ℕ) → Tree → ℕ
  weigh w (tree l o ts) = w l + weigh_all w ts

  pub weigh_all : (ℕ → ℕ) → Trees → ℕ
  weigh_all w none = 0
  weigh_all w (more t ts) = weigh w t + weigh_all w ts

-- It is a sum over the numbers, each as often as it is used.
mutual
  pub weigh_total : (n : ℕ) (w : ℕ → ℕ) (t : Tree) → ((x : ℕ) → 1 ≤ uses x t → x < n) → weigh w t ≡ total n (λ x. uses x t * w x)
  weigh_total n w (tree l o ts) low =
      omega (arith, total_split n (λ x. same x l) (λ x. uses_all x ts) w, total_at n l w (low l (omega (arith, same_self l))), weighs_total n w ts (λ x u. low x (omega arith)))

  weighs_total : (n : ℕ) (w : ℕ → ℕ) (ts : Trees) → ((x : ℕ) → 1 ≤ uses_all x ts → x < n) → weigh_all w ts ≡ total n (λ x. uses_all x ts * w x)
  weighs_total n w none low = sym (total_zero n (λ x. 0 * w x) (λ x lt. zero-mul (w x)))
  weighs_total n w (more t ts) low =
      omega (arith, total_split n (λ x. uses x t) (λ x. uses_all x ts) w, weigh_total n w t (λ x u. low x (omega arith)), weighs_total n w ts (λ x u. low x (omega arith)))

-- One number of a tree weighs no more than the tree.
mutual
  pub one : (w : ℕ → ℕ) (x : ℕ) (t : Tree) → 1 ≤ uses x t → w x ≤ weigh w t
  one w x (tree l o ts) u = elim (cases_eq x l) [ inl e ↦ omega (arith, ap w e) | inr n ↦ omega (arith, ones w x ts (omega (arith, same_other x l n))) ]

  ones : (w : ℕ → ℕ) (x : ℕ) (ts : Trees) → 1 ≤ uses_all x ts → w x ≤ weigh_all w ts
  ones w x none u = absurd (omega arith)
  ones w x (more t ts) u = elim (cases_lt 0 (uses x t)) [ inl y ↦ omega (arith, one w x t y) | inr n ↦ omega (arith, ones w x ts (omega arith)) ]

-- Two numbers of a tree weigh no more than the tree.
mutual
  pub two : (w : ℕ → ℕ) (x y : ℕ) (t : Tree) → (x ≡ y → ⊥) → 1 ≤ uses x t → 1 ≤ uses y t → w x + w y ≤ weigh w t
  two w x y (tree l o ts) ne u v =
      elim (cases_eq x l) [
        | inl e ↦ omega (arith, ap w e, ones w y ts (omega (arith, same_other y l (λ f. ne (e ∙ sym f)))))
        | inr n ↦ elim (cases_eq y l) [
          | inl e ↦ omega (arith, ap w e, ones w x ts (omega (arith, same_other x l n)))
          | inr m ↦ omega (arith, twos w x y ts ne (omega (arith, same_other x l n)) (omega (arith, same_other y l m)))
        ]
      ]

  twos : (w : ℕ → ℕ) (x y : ℕ) (ts : Trees) → (x ≡ y → ⊥) → 1 ≤ uses_all x ts → 1 ≤ uses_all y ts → w x + w y ≤ weigh_all w ts
  twos w x y none ne u v = absurd (omega arith)
  twos w x y (more t ts) ne u v =
      elim (cases_lt 0 (uses x t)) [
        | inl a ↦ elim (cases_lt 0 (uses y t)) [
          | inl b ↦ omega (arith, two w x y t ne a b)
          | inr b ↦ omega (arith, one w x t a, ones w y ts (omega arith))
        ]
        | inr a ↦ elim (cases_lt 0 (uses y t)) [
          | inl b ↦ omega (arith, ones w x ts (omega arith), one w y t b)
          | inr b ↦ omega (arith, twos w x y ts ne (omega arith) (omega arith))
        ]
      ]
