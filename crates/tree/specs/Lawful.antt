-- Which labelled trees are payoffs.
use Rattle.std.specs.Prelude.{◌≡◌, ℕ, zero, suc, ◌/◌, ◌%◌, ◌^◌, ◌<◌, ◌≤◌, Bool, true, false, cond, List, [], ◌∷◌, length, Some, None, Option, ◌==◌, ◌≢◌}
use Rattle.text.specs.Stored.{Lawful}
use Rattle.template.specs.Cooked.{CooksTo}
use Rattle.tree.specs.declared.role.Sort.{Sort}
use Rattle.tree.specs.declared.role.Sort.TheVariants.{IsExpression, IsHole, IsSpread, IsQuasi}
use Rattle.tree.specs.declared.role.Role.{Role}
use Rattle.tree.specs.declared.role.Role.TheVariants.{Operand, Element, Argument, QuasiPart}
use Rattle.tree.specs.declared.node.FirstChild.TheVariants.{Value, Reference}
use Rattle.tree.specs.Tree.{Own, string, number, boolean, null, name, hole, spread, array, static_member, computed_member, call, template, quasi, unary, binary, opaque, Tree, Trees, tree, none, more, labels, own_of, Look}

-- What a node is to its parent.
abbrev pub sort_of : Own → Sort
sort_of (string t) = IsExpression
sort_of (number n) = IsExpression
sort_of (boolean b) = IsExpression
sort_of null = IsExpression
sort_of (name t) = IsExpression
sort_of hole = IsHole
sort_of spread = IsSpread
sort_of array = IsExpression
sort_of (static_member p) = IsExpression
sort_of computed_member = IsExpression
sort_of call = IsExpression
sort_of template = IsExpression
sort_of (quasi r c) = IsQuasi
sort_of (unary op) = IsExpression
sort_of (binary op) = IsExpression
sort_of (opaque m f) = IsExpression

-- The role of child k. A call's first child is its callee. A template's children are quasis and expressions in turn.
abbrev pub call_role : ℕ → Role
call_role zero = Operand
call_role (suc k) = Argument

abbrev pub role : Own → ℕ → Role
role (string t) k = Operand
role (number n) k = Operand
role (boolean b) k = Operand
role null k = Operand
role (name t) k = Operand
role hole k = Operand
role spread k = Operand
role array k = Element
role (static_member p) k = Operand
role computed_member k = Operand
role call k = call_role k
role template k = cond (k % 2 == 0) QuasiPart Operand
role (quasi r c) k = Operand
role (unary op) k = Operand
role (binary op) k = Operand
role (opaque m f) k = Operand

-- Holes stand only in arrays, spreads only in arrays and arguments, quasis only in templates.
abbrev pub admits : Role → Sort → Bool
admits Operand IsExpression = true
admits Operand IsHole = false
admits Operand IsSpread = false
admits Operand IsQuasi = false
admits Element IsExpression = true
admits Element IsHole = true
admits Element IsSpread = true
admits Element IsQuasi = false
admits Argument IsExpression = true
admits Argument IsHole = false
admits Argument IsSpread = true
admits Argument IsQuasi = false
admits QuasiPart IsExpression = false
admits QuasiPart IsHole = false
admits QuasiPart IsSpread = false
admits QuasiPart IsQuasi = true

-- The 64 bits of a finite number: the exponent is not all ones. IEEE 754, "Binary interchange format encodings".
abbrev pub Finite : ℕ → Type 0
Finite bits = (bits < 2 ^ 64) × (bits / 2 ^ 52 % 2 ^ 11 ≢ 0x7FF)

-- What a node with n children owes on its own: lawful texts, a finite number, a quasi's cooked text, and how many
-- children it has.
abbrev pub LawfulOwn : Own → ℕ → Type 0
LawfulOwn (string t) n = Lawful t × (n ≡ 0)
LawfulOwn (number bits) n = Finite bits × (n ≡ 0)
LawfulOwn (boolean b) n = n ≡ 0
LawfulOwn null n = n ≡ 0
LawfulOwn (name t) n = Lawful t × (n ≡ 0)
LawfulOwn hole n = n ≡ 0
LawfulOwn spread n = n ≡ 1
LawfulOwn array n = Unit {0}
LawfulOwn (static_member p) n = Lawful p × (n ≡ 1)
LawfulOwn computed_member n = n ≡ 2
LawfulOwn call n = 1 ≤ n
LawfulOwn template n = n % 2 ≡ 1
LawfulOwn (quasi raw cooked) n = CooksTo raw cooked × (n ≡ 0)
LawfulOwn (unary op) n = n ≡ 1
LawfulOwn (binary op) n = n ≡ 2
LawfulOwn (opaque m Value) n = Unit {0}
LawfulOwn (opaque m Reference) n = 1 ≤ n

-- Each node of the tree is lawful on its own, and each child may stand where it stands.
abbrev mutual
  pub LawfulTree : Tree → Type 0
  LawfulTree (tree l o ts) = LawfulOwn o (length (labels ts)) × LawfulBelow o 0 ts

  pub LawfulBelow : Own → ℕ → Trees → Type 0
  LawfulBelow o k none = Unit {0}
  LawfulBelow o k (more t ts) = (admits (role o k) (sort_of (own_of t)) ≡ true) × LawfulTree t × LawfulBelow o (suc k) ts

-- A payoff is such a tree whose topmost node is an expression.
abbrev pub Payoff : Tree → Type 0
Payoff t = LawfulTree t × (sort_of (own_of t) ≡ IsExpression)

-- The same of what is stored at numbers: the node at c may stand as child k of a node with the own part o, and so may
-- each of a list of children from child k on.
abbrev pub AdmitsRow : Role → Option (Own × List ℕ) → Type 0
AdmitsRow r None = ⊥
AdmitsRow r (Some p) = admits r (sort_of p.0) ≡ true

abbrev pub AdmitsAll : Look → Own → ℕ → List ℕ → Type 0
AdmitsAll h o k [] = Unit {0}
AdmitsAll h o k (c ∷ cs) = AdmitsRow (role o k) (h c) × AdmitsAll h o (suc k) cs

-- What is stored is lawful on its own.
abbrev pub OwnRow : Option (Own × List ℕ) → Type 0
OwnRow None = ⊥
OwnRow (Some p) = LawfulOwn p.0 (length p.1)

-- Its children may stand where they stand.
abbrev pub ChildrenRow : Look → Option (Own × List ℕ) → Type 0
ChildrenRow h None = ⊥
ChildrenRow h (Some p) = AdmitsAll h p.0 0 p.1
