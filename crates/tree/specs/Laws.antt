-- The laws of stored trees.
use Rattle.std.specs.Prelude.{◌≡◌, ℕ, zero, suc, ◌+◌, ◌<◌, ◌≤◌, true, List, [], ◌∷◌, ◌++◌, is_some, Some}
use Rattle.tree.specs.Tree.{Own, Tree, Trees, tree, label, same, uses, Distinct, Look, children_of, Denotes, at_place, among, replace}
use Rattle.tree.specs.Heap.{Held, look, relinked, grown}
use Rattle.tree.specs.Lawful.{LawfulTree, OwnRow, ChildrenRow}

-- A number denotes one tree at most.
abbrev pub OneTree : Type 0
OneTree = (h : Look) (t s : Tree) → Denotes h t → Denotes h s → label t ≡ label s → t ≡ s

-- How often x stands in a list, and a sum over the numbers below n.
abbrev pub count : ℕ → List ℕ → ℕ
count x [] = 0
count x (y ∷ ys) = same x y + count x ys

abbrev pub total : ℕ → (ℕ → ℕ) → ℕ
total zero f = 0
total (suc n) f = f n + total n f

-- How many links from the numbers below n go to k.
abbrev pub parents : Look → ℕ → ℕ → ℕ
parents h n k = total n (λ x. count k (children_of (h x)))

-- Below n + 1 all is stored, each link goes to a lower number, and each number but n is linked once.
pub record LinkedOnce (h : Look) (n : ℕ) : Type 0 where
  pub there : (x : ℕ) → x ≤ n → is_some (h x) ≡ true
  pub lower : (x k : ℕ) → x ≤ n → 1 ≤ count k (children_of (h x)) → k < x
  pub once : (k : ℕ) → k < n → parents h (suc n) k ≡ 1

-- Then n denotes a tree in which each of these numbers is used once, and no other.
abbrev pub LowerLinksMakeOneTree : Type 0
LowerLinksMakeOneTree =
    (h : Look) (n : ℕ) → LinkedOnce h n
    → (t : Tree) × (label t ≡ n) × Denotes h t × ((x : ℕ) → x ≤ n → uses x t ≡ 1) × ((x : ℕ) → n < x → uses x t ≡ 0)

-- The root denotes t, and q is the node at the place p of t, whose child i is s. The stores grow, and the link to that
-- child is changed to the number of a tree u, which is then denoted. Its numbers are new, or those of s. Then the root
-- denotes t with u at that one place, all numbers are still distinct, and what s had is stored as it was.
abbrev pub OneLinkOnePlace : Type 0
OneLinkOnePlace =
    (h extra : Held) (t : Tree) (p : List ℕ) (q : ℕ) (o : Own) (ts : Trees) (i : ℕ) (s u : Tree)
    → Denotes (look h) t → Distinct t → at_place t p ≡ Some (tree q o ts) → among ts i [] ≡ Some s
    → Denotes (look (relinked (grown h extra) q i (label u))) u → Distinct u → ((x : ℕ) → 1 ≤ uses x t → uses x u ≤ uses x s)
    → Denotes (look (relinked (grown h extra) q i (label u))) (replace t (p ++ i ∷ []) u)
    × Distinct (replace t (p ++ i ∷ []) u)
    × ((x : ℕ) → 1 ≤ uses x s → look (relinked (grown h extra) q i (label u)) x ≡ look h x)

-- A tree is lawful where each of its numbers is stored lawfully.
abbrev pub LawfulNumbersMakeALawfulTree : Type 0
LawfulNumbersMakeALawfulTree =
    (h : Look) (t : Tree) → Denotes h t → ((x : ℕ) → 1 ≤ uses x t → OwnRow (h x) × ChildrenRow h (h x)) → LawfulTree t
