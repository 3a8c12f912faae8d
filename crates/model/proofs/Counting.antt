-- How many nodes are new.
use Rattle.std.proofs.Common.{◌≡◌, ℕ, zero, suc, ◌+◌, ◌*◌, ◌<◌, ◌≤◌, cond, inl, inr, refl, ap, ◌∙◌, mul-zero, arith}
use Rattle.std.specs.Prelude.{nat_le}
use Rattle.std.proofs.lemmas.Bool.{cases_lt, le-leb, lt-leb}
use Rattle.tree.specs.Tree.{Tree, Trees, tree, none, more, uses}
use Rattle.tree.specs.Laws.{total}
use Rattle.tree.proofs.Counting.{weigh, weigh_all, weigh_total, total_zero}
use Rattle.rules.specs.Space.{new_nodes, new_nodes_of}

-- A node weighs one where it is new.
abbrev weight : ℕ → ℕ → ℕ
weight next l = cond (nat_le next l) 1 0

weight_new : (next l : ℕ) → next ≤ l → weight next l ≡ 1
weight_new next l h = ap (λ b. cond b 1 0) (le-leb next l h)

weight_old : (next l : ℕ) → l < next → weight next l ≡ 0
weight_old next l h = ap (λ b. cond b 1 0) (lt-leb next l h)

mutual
  unfolding new_nodes

  nodes_weigh : (next : ℕ) (t : Tree) → new_nodes next t ≡ weigh (weight next) t
  nodes_weigh next (tree l o ts) = ap (λ z. weight next l + z) (all_nodes_weigh next ts)

  all_nodes_weigh : (next : ℕ) (ts : Trees) → new_nodes_of next ts ≡ weigh_all (weight next) ts
  all_nodes_weigh next none = refl
  all_nodes_weigh next (more t ts) = omega (arith, nodes_weigh next t, all_nodes_weigh next ts)

-- Where each number from `next` on and below n is used once, so many nodes are new as there are such numbers.
total_new : (next n : ℕ) (f : ℕ → ℕ) → next ≤ n → ((x : ℕ) → next ≤ x → x < n → f x ≡ 1) → total n (λ x. f x * weight next x) + next ≡ n
total_new next zero f le h = omega arith
total_new next (suc n) f le h =
    elim (cases_lt n next) [
      | inl lt ↦
          let z = total_zero (suc n) (λ x. f x * weight next x) (λ x i. ap (λ z. f x * z) (weight_old next x (omega arith)) ∙ mul-zero (f x)) in
          omega (arith, z)
      | inr ge ↦
          let one : f n * weight next n ≡ 1 = ap (λ z. z * weight next n) (h n ge (omega arith)) ∙ ap (λ z. 1 * z) (weight_new next n ge) in
          omega (arith, one, total_new next n f ge (λ x i j. h x i (omega arith)))
    ]

pub new_counted : (next k : ℕ) (t : Tree) → ((n : ℕ) → next ≤ n → n < next + k → uses n t ≡ 1) → ((n : ℕ) → next + k ≤ n → uses n t ≡ 0) → new_nodes next t ≡ k
new_counted next k t once out =
    let low : (x : ℕ) → 1 ≤ uses x t → x < next + k = λ x u. elim (cases_lt x (next + k)) [ inl i ↦ i | inr i ↦ absurd (omega (arith, out x i)) ] in
    omega (arith, nodes_weigh next t, weigh_total (next + k) (weight next) t low, total_new next (next + k) (λ x. uses x t) (omega arith) once)
