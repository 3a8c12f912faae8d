-- Labelled trees: every node has its number, its own part, and its children.
use Rattle.std.specs.Prelude.{◌≡◌, ℕ, zero, suc, ◌+◌, ◌≤◌, Bool, cond, List, [], ◌∷◌, Some, None, Option, ◌==◌}
use Rattle.tree.specs.declared.node.UnaryOperator.{UnaryOperator}
use Rattle.tree.specs.declared.node.BinaryOperator.{BinaryOperator}
use Rattle.tree.specs.declared.node.FirstChild.{FirstChild}

-- What a node says besides its children. A text stands in its stored form.
pub data Own : Type 0 where
  string : (text : List ℕ) → Own
  number : (bits : ℕ) → Own
  boolean : Bool → Own
  null : Own
  name : (text : List ℕ) → Own
  hole : Own
  spread : Own
  array : Own
  static_member : (property : List ℕ) → Own
  computed_member : Own
  call : Own
  template : Own
  quasi : (raw cooked : List ℕ) → Own
  unary : UnaryOperator → Own
  binary : BinaryOperator → Own
  opaque : (mark : ℕ) → FirstChild → Own

mutual
  pub data Tree : Type 0 where
    tree : ℕ → Own → Trees → Tree

  pub data Trees : Type 0 where
    none : Trees
    more : Tree → Trees → Trees

-- The number and the own part of the topmost node, and its children.
abbrev pub label : Tree → ℕ
label (tree l o ts) = l

abbrev pub own_of : Tree → Own
own_of (tree l o ts) = o

abbrev pub below : Tree → Trees
below (tree l o ts) = ts

abbrev pub labels : Trees → List ℕ
labels none = []
labels (more t ts) = label t ∷ labels ts

-- 1 where two numbers are one, else 0.
abbrev pub same : ℕ → ℕ → ℕ
same x y = cond (x == y) 1 0

-- How many nodes have the number x.
abbrev mutual
  pub uses : ℕ → Tree → ℕ
  uses x (tree l o ts) = same x l + uses_all x ts

  pub uses_all : ℕ → Trees → ℕ
  uses_all x none = 0
  uses_all x (more t ts) = uses x t + uses_all x ts

-- No two nodes have one number.
abbrev pub Distinct : Tree → Type 0
Distinct t = (x : ℕ) → uses x t ≤ 1

-- What is stored at each number: a node's own part and its children's numbers.
abbrev pub Look : Type 0
Look = ℕ → Option (Own × List ℕ)

-- The children's numbers.
abbrev pub children_of : Option (Own × List ℕ) → List ℕ
children_of None = []
children_of (Some r) = r.1

-- The number of the tree's topmost node denotes the tree: each of its nodes is stored at its number, with its
-- children's numbers.
abbrev mutual
  pub Denotes : Look → Tree → Type 0
  Denotes h (tree l o ts) = (h l ≡ Some (o, labels ts)) × DenoteAll h ts

  pub DenoteAll : Look → Trees → Type 0
  DenoteAll h none = Unit {0}
  DenoteAll h (more t ts) = Denotes h t × DenoteAll h ts

-- The subtree at a place, which is a list of child indexes from the root.
abbrev mutual
  pub at_place : Tree → List ℕ → Option Tree
  at_place (tree l o ts) [] = Some (tree l o ts)
  at_place (tree l o ts) (i ∷ p) = among ts i p

  pub among : Trees → ℕ → List ℕ → Option Tree
  among none i p = None
  among (more t ts) zero p = at_place t p
  among (more t ts) (suc i) p = among ts i p

-- The tree with u at the place p.
abbrev mutual
  pub replace : Tree → List ℕ → Tree → Tree
  replace (tree l o ts) [] u = u
  replace (tree l o ts) (i ∷ p) u = tree l o (replace_among ts i p u)

  pub replace_among : Trees → ℕ → List ℕ → Tree → Trees
  replace_among none i p u = none
  replace_among (more t ts) zero p u = more (replace t p u) ts
  replace_among (more t ts) (suc i) p u = more t (replace_among ts i p u)
