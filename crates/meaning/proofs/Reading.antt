-- The expression that a lawful tree stores.
use Rattle.std.proofs.Common.{◌≡◌, ℕ, suc, ◌≤◌, ◌%◌, ◌==◌, cond, List, true, false, [], length, sym, refl, ap, ◌∙◌, subst, arith}
use Rattle.text.specs.Utf16.{Text}
use Rattle.text.specs.Stored.{stored, Stores}
use Rattle.text.proofs.Pairing.{stored_once}
use Rattle.tree.specs.declared.role.Role.TheVariants.{Operand, Element, Argument, QuasiPart}
use Rattle.tree.specs.declared.role.Sort.{Sort}
use Rattle.tree.specs.declared.role.Sort.TheVariants.{IsExpression, IsHole, IsSpread, IsQuasi}
use Rattle.tree.specs.declared.node.FirstChild.{FirstChild}
use Rattle.tree.specs.Tree.{Own, Tree, Trees, tree, none, more, labels, own_of, below}
use Rattle.tree.specs.Lawful.{LawfulTree, LawfulBelow, sort_of, role, admits}
use Rattle.meaning.specs.Expression.{Expression, Elements, Arguments, Pieces, Children, Quasi}
use Rattle.meaning.specs.Trees.{tree_of, element_trees, argument_trees, piece_trees, child_trees, quasi_tree}
use Rattle.meaning.specs.Payoffs.{Spelled, SpelledElements, SpelledArguments, SpelledPieces, SpelledChildren, SpelledQuasi, StoredAs, APayoffIsOneExpression}

-- What a child adds to elements and to arguments: itself, as the expression x, or, of a spread, what it spreads, y.
abbrev element_in : Tree → (x y : Expression) → Elements → Elements
element_in (tree l (Own.string b) ts) x y xs = Elements.item x xs
element_in (tree l (Own.number b) ts) x y xs = Elements.item x xs
element_in (tree l (Own.boolean b) ts) x y xs = Elements.item x xs
element_in (tree l Own.null ts) x y xs = Elements.item x xs
element_in (tree l (Own.name b) ts) x y xs = Elements.item x xs
element_in (tree l Own.array ts) x y xs = Elements.item x xs
element_in (tree l (Own.static_member b) ts) x y xs = Elements.item x xs
element_in (tree l Own.computed_member ts) x y xs = Elements.item x xs
element_in (tree l Own.call ts) x y xs = Elements.item x xs
element_in (tree l Own.template ts) x y xs = Elements.item x xs
element_in (tree l (Own.unary b) ts) x y xs = Elements.item x xs
element_in (tree l (Own.binary b) ts) x y xs = Elements.item x xs
element_in (tree l (Own.opaque b f) ts) x y xs = Elements.item x xs
element_in (tree l (Own.quasi r c) ts) x y xs = Elements.item x xs
element_in (tree l Own.hole ts) x y xs = Elements.hole l xs
element_in (tree l Own.spread ts) x y xs = Elements.spread l y xs

abbrev argument_in : Tree → (x y : Expression) → Arguments → Arguments
argument_in (tree l (Own.string b) ts) x y xs = Arguments.argument x xs
argument_in (tree l (Own.number b) ts) x y xs = Arguments.argument x xs
argument_in (tree l (Own.boolean b) ts) x y xs = Arguments.argument x xs
argument_in (tree l Own.null ts) x y xs = Arguments.argument x xs
argument_in (tree l (Own.name b) ts) x y xs = Arguments.argument x xs
argument_in (tree l Own.array ts) x y xs = Arguments.argument x xs
argument_in (tree l (Own.static_member b) ts) x y xs = Arguments.argument x xs
argument_in (tree l Own.computed_member ts) x y xs = Arguments.argument x xs
argument_in (tree l Own.call ts) x y xs = Arguments.argument x xs
argument_in (tree l Own.template ts) x y xs = Arguments.argument x xs
argument_in (tree l (Own.unary b) ts) x y xs = Arguments.argument x xs
argument_in (tree l (Own.binary b) ts) x y xs = Arguments.argument x xs
argument_in (tree l (Own.opaque b f) ts) x y xs = Arguments.argument x xs
argument_in (tree l (Own.quasi r c) ts) x y xs = Arguments.argument x xs
argument_in (tree l Own.hole ts) x y xs = Arguments.argument x xs
argument_in (tree l Own.spread ts) x y xs = Arguments.spread_argument l y xs

abbrev quasi_in : (t : Tree) → LawfulTree t → Quasi
quasi_in (tree l (Own.string b) ts) p = Quasi.quasi l [] []
quasi_in (tree l (Own.number b) ts) p = Quasi.quasi l [] []
quasi_in (tree l (Own.boolean b) ts) p = Quasi.quasi l [] []
quasi_in (tree l Own.null ts) p = Quasi.quasi l [] []
quasi_in (tree l (Own.name b) ts) p = Quasi.quasi l [] []
quasi_in (tree l Own.array ts) p = Quasi.quasi l [] []
quasi_in (tree l (Own.static_member b) ts) p = Quasi.quasi l [] []
quasi_in (tree l Own.computed_member ts) p = Quasi.quasi l [] []
quasi_in (tree l Own.call ts) p = Quasi.quasi l [] []
quasi_in (tree l Own.template ts) p = Quasi.quasi l [] []
quasi_in (tree l (Own.unary b) ts) p = Quasi.quasi l [] []
quasi_in (tree l (Own.binary b) ts) p = Quasi.quasi l [] []
quasi_in (tree l (Own.opaque b f) ts) p = Quasi.quasi l [] []
quasi_in (tree l Own.hole ts) p = Quasi.quasi l [] []
quasi_in (tree l Own.spread ts) p = Quasi.quasi l [] []
quasi_in (tree l (Own.quasi r c) ts) p = Quasi.quasi l r p.0.0.0

abbrev mutual
  -- The expression. What a lawful payoff never has is made null.
  expression_of : (t : Tree) → LawfulTree t → Expression
  expression_of (tree l (Own.string b) ts) p = Expression.string l p.0.0.0
  expression_of (tree l (Own.number n) ts) p = Expression.number l n
  expression_of (tree l (Own.boolean b) ts) p = Expression.boolean l b
  expression_of (tree l Own.null ts) p = Expression.null l
  expression_of (tree l (Own.name b) ts) p = Expression.name l p.0.0.0
  expression_of (tree l Own.hole ts) p = Expression.null l
  expression_of (tree l Own.spread ts) p = Expression.null l
  expression_of (tree l Own.array ts) p = Expression.array l (elements_of Own.array 0 ts p.1)
  expression_of (tree l (Own.static_member b) ts) p = Expression.static_member l (first_of (Own.static_member b) 0 ts p.1) p.0.0.0
  expression_of (tree l Own.computed_member ts) p = Expression.computed_member l (first_of Own.computed_member 0 ts p.1) (second_of Own.computed_member 0 ts p.1)
  expression_of (tree l Own.call ts) p = Expression.call l (first_of Own.call 0 ts p.1) (arguments_behind Own.call 0 ts p.1)
  expression_of (tree l Own.template ts) p = Expression.template l (pieces_of Own.template 0 ts p.1)
  expression_of (tree l (Own.quasi r c) ts) p = Expression.null l
  expression_of (tree l (Own.unary o) ts) p = Expression.unary l o (first_of (Own.unary o) 0 ts p.1)
  expression_of (tree l (Own.binary o) ts) p = Expression.binary l o (first_of (Own.binary o) 0 ts p.1) (second_of (Own.binary o) 0 ts p.1)
  expression_of (tree l (Own.opaque m f) ts) p = Expression.opaque l f m (children_of (Own.opaque m f) 0 ts p.1)

  -- The first child of a tree, of a row, and the second one.
  inner_of : (t : Tree) → LawfulTree t → Expression
  inner_of (tree l o ts) p = first_of o 0 ts p.1

  first_of : (o : Own) (k : ℕ) (ts : Trees) → LawfulBelow o k ts → Expression
  first_of o k none p = Expression.null 0
  first_of o k (more t ts) p = expression_of t p.1

  second_of : (o : Own) (k : ℕ) (ts : Trees) → LawfulBelow o k ts → Expression
  second_of o k none p = Expression.null 0
  second_of o k (more t ts) p = first_of o (suc k) ts p.2

  elements_of : (o : Own) (k : ℕ) (ts : Trees) → LawfulBelow o k ts → Elements
  elements_of o k none p = Elements.no_elements
  elements_of o k (more t ts) p = element_in t (expression_of t p.1) (inner_of t p.1) (elements_of o (suc k) ts p.2)

  arguments_of : (o : Own) (k : ℕ) (ts : Trees) → LawfulBelow o k ts → Arguments
  arguments_of o k none p = Arguments.no_arguments
  arguments_of o k (more t ts) p = argument_in t (expression_of t p.1) (inner_of t p.1) (arguments_of o (suc k) ts p.2)

  arguments_behind : (o : Own) (k : ℕ) (ts : Trees) → LawfulBelow o k ts → Arguments
  arguments_behind o k none p = Arguments.no_arguments
  arguments_behind o k (more t ts) p = arguments_of o (suc k) ts p.2

  pieces_of : (o : Own) (k : ℕ) (ts : Trees) → LawfulBelow o k ts → Pieces
  pieces_of o k none p = Pieces.last (Quasi.quasi 0 [] [])
  pieces_of o k (more t ts) p = pieces_behind (quasi_in t p.1) o (suc k) ts p.2

  pieces_behind : Quasi → (o : Own) (k : ℕ) (ts : Trees) → LawfulBelow o k ts → Pieces
  pieces_behind q o k none p = Pieces.last q
  pieces_behind q o k (more t ts) p = Pieces.piece q (expression_of t p.1) (pieces_of o (suc k) ts p.2)

  children_of : (o : Own) (k : ℕ) (ts : Trees) → LawfulBelow o k ts → Children
  children_of o k none p = Children.no_children
  children_of o k (more t ts) p = Children.child (expression_of t p.1) (children_of o (suc k) ts p.2)

-- The rows of no child, and what may stand where.
no_trees : (ts : Trees) → length (labels ts) ≡ 0 → ts ≡ none
no_trees none e = refl
no_trees (more t ts) e = absurd (omega arith)

false_true : {A : Type 0} → false ≡ true → A
false_true e = let z : ◌≡◌ {A = ℕ} 0 1 = cc in absurd (omega arith)

operand : (s : Sort) → admits Operand s ≡ true → s ≡ IsExpression
operand IsExpression e = refl
operand IsHole e = false_true e
operand IsSpread e = false_true e
operand IsQuasi e = false_true e

hole_expression : {A : Type 0} → IsHole ≡ IsExpression → A
hole_expression e = let z : ◌≡◌ {A = ℕ} 0 1 = cc in absurd (omega arith)

spread_expression : {A : Type 0} → IsSpread ≡ IsExpression → A
spread_expression e = let z : ◌≡◌ {A = ℕ} 0 1 = cc in absurd (omega arith)

quasi_expression : {A : Type 0} → IsQuasi ≡ IsExpression → A
quasi_expression e = let z : ◌≡◌ {A = ℕ} 0 1 = cc in absurd (omega arith)

quasi_role : (k : ℕ) → k % 2 ≡ 0 → role Own.template k ≡ QuasiPart
quasi_role k e = ap (λ z. cond (z == 0) QuasiPart Operand) e

expression_role : (k : ℕ) → k % 2 ≡ 1 → role Own.template k ≡ Operand
expression_role k e = ap (λ z. cond (z == 0) QuasiPart Operand) e

quasi_read : (t : Tree) (p : LawfulTree t) → admits QuasiPart (sort_of (own_of t)) ≡ true → SpelledQuasi (quasi_in t p) × (quasi_tree (quasi_in t p) ≡ t)
quasi_read (tree l (Own.string b) ts) p e = false_true e
quasi_read (tree l (Own.number b) ts) p e = false_true e
quasi_read (tree l (Own.boolean b) ts) p e = false_true e
quasi_read (tree l Own.null ts) p e = false_true e
quasi_read (tree l (Own.name b) ts) p e = false_true e
quasi_read (tree l Own.array ts) p e = false_true e
quasi_read (tree l (Own.static_member b) ts) p e = false_true e
quasi_read (tree l Own.computed_member ts) p e = false_true e
quasi_read (tree l Own.call ts) p e = false_true e
quasi_read (tree l Own.template ts) p e = false_true e
quasi_read (tree l (Own.unary b) ts) p e = false_true e
quasi_read (tree l (Own.binary b) ts) p e = false_true e
quasi_read (tree l (Own.opaque b f) ts) p e = false_true e
quasi_read (tree l Own.hole ts) p e = false_true e
quasi_read (tree l Own.spread ts) p e = false_true e
quasi_read (tree l (Own.quasi r c) ts) p e =
    (p.0.0.2.0, ap (λ z. tree l (Own.quasi r z) none) p.0.0.2.1 ∙ ap (λ z. tree l (Own.quasi r c) z) (sym (no_trees ts p.0.1)))

-- The expression of a tree stores it, and so does that of its one child.
abbrev ReadsAlone : (t : Tree) → LawfulTree t → Type 0
ReadsAlone t p = sort_of (own_of t) ≡ IsExpression → StoredAs t (expression_of t p)

abbrev ReadsInner : (t : Tree) → LawfulTree t → Type 0
ReadsInner t p =
    role (own_of t) 0 ≡ Operand → length (labels (below t)) ≡ 1 → Spelled (inner_of t p) × (more (tree_of (inner_of t p)) none ≡ below t)

element_read : (t : Tree) (p : LawfulTree t) (xs : Elements) (ts : Trees) → ReadsAlone t p → ReadsInner t p → admits Element (sort_of (own_of t)) ≡ true → SpelledElements xs → element_trees xs ≡ ts
    → SpelledElements (element_in t (expression_of t p) (inner_of t p) xs) × (element_trees (element_in t (expression_of t p) (inner_of t p) xs) ≡ more t ts)
element_read (tree l (Own.string b) us) p xs ts here inner e s q = let r = here refl in ((r.0, s), ap (λ z. more z (element_trees xs)) r.1 ∙ ap (λ z. more (tree l (Own.string b) us) z) q)
element_read (tree l (Own.number b) us) p xs ts here inner e s q = let r = here refl in ((r.0, s), ap (λ z. more z (element_trees xs)) r.1 ∙ ap (λ z. more (tree l (Own.number b) us) z) q)
element_read (tree l (Own.boolean b) us) p xs ts here inner e s q = let r = here refl in ((r.0, s), ap (λ z. more z (element_trees xs)) r.1 ∙ ap (λ z. more (tree l (Own.boolean b) us) z) q)
element_read (tree l Own.null us) p xs ts here inner e s q = let r = here refl in ((r.0, s), ap (λ z. more z (element_trees xs)) r.1 ∙ ap (λ z. more (tree l Own.null us) z) q)
element_read (tree l (Own.name b) us) p xs ts here inner e s q = let r = here refl in ((r.0, s), ap (λ z. more z (element_trees xs)) r.1 ∙ ap (λ z. more (tree l (Own.name b) us) z) q)
element_read (tree l Own.array us) p xs ts here inner e s q = let r = here refl in ((r.0, s), ap (λ z. more z (element_trees xs)) r.1 ∙ ap (λ z. more (tree l Own.array us) z) q)
element_read (tree l (Own.static_member b) us) p xs ts here inner e s q = let r = here refl in ((r.0, s), ap (λ z. more z (element_trees xs)) r.1 ∙ ap (λ z. more (tree l (Own.static_member b) us) z) q)
element_read (tree l Own.computed_member us) p xs ts here inner e s q = let r = here refl in ((r.0, s), ap (λ z. more z (element_trees xs)) r.1 ∙ ap (λ z. more (tree l Own.computed_member us) z) q)
element_read (tree l Own.call us) p xs ts here inner e s q = let r = here refl in ((r.0, s), ap (λ z. more z (element_trees xs)) r.1 ∙ ap (λ z. more (tree l Own.call us) z) q)
element_read (tree l Own.template us) p xs ts here inner e s q = let r = here refl in ((r.0, s), ap (λ z. more z (element_trees xs)) r.1 ∙ ap (λ z. more (tree l Own.template us) z) q)
element_read (tree l (Own.unary b) us) p xs ts here inner e s q = let r = here refl in ((r.0, s), ap (λ z. more z (element_trees xs)) r.1 ∙ ap (λ z. more (tree l (Own.unary b) us) z) q)
element_read (tree l (Own.binary b) us) p xs ts here inner e s q = let r = here refl in ((r.0, s), ap (λ z. more z (element_trees xs)) r.1 ∙ ap (λ z. more (tree l (Own.binary b) us) z) q)
element_read (tree l (Own.opaque b f) us) p xs ts here inner e s q = let r = here refl in ((r.0, s), ap (λ z. more z (element_trees xs)) r.1 ∙ ap (λ z. more (tree l (Own.opaque b f) us) z) q)
element_read (tree l Own.hole us) p xs ts here inner e s q = (s, ap (λ z. more (tree l Own.hole none) z) q ∙ ap (λ z. more (tree l Own.hole z) ts) (sym (no_trees us p.0)))
element_read (tree l Own.spread us) p xs ts here inner e s q =
    let r = inner refl p.0 in
    ((r.0, s), ap (λ z. more (tree l Own.spread z) (element_trees xs)) r.1 ∙ ap (λ z. more (tree l Own.spread us) z) q)
element_read (tree l (Own.quasi r c) us) p xs ts here inner e s q = false_true e

argument_read : (t : Tree) (p : LawfulTree t) (xs : Arguments) (ts : Trees) → ReadsAlone t p → ReadsInner t p → admits Argument (sort_of (own_of t)) ≡ true → SpelledArguments xs → argument_trees xs ≡ ts
    → SpelledArguments (argument_in t (expression_of t p) (inner_of t p) xs) × (argument_trees (argument_in t (expression_of t p) (inner_of t p) xs) ≡ more t ts)
argument_read (tree l (Own.string b) us) p xs ts here inner e s q = let r = here refl in ((r.0, s), ap (λ z. more z (argument_trees xs)) r.1 ∙ ap (λ z. more (tree l (Own.string b) us) z) q)
argument_read (tree l (Own.number b) us) p xs ts here inner e s q = let r = here refl in ((r.0, s), ap (λ z. more z (argument_trees xs)) r.1 ∙ ap (λ z. more (tree l (Own.number b) us) z) q)
argument_read (tree l (Own.boolean b) us) p xs ts here inner e s q = let r = here refl in ((r.0, s), ap (λ z. more z (argument_trees xs)) r.1 ∙ ap (λ z. more (tree l (Own.boolean b) us) z) q)
argument_read (tree l Own.null us) p xs ts here inner e s q = let r = here refl in ((r.0, s), ap (λ z. more z (argument_trees xs)) r.1 ∙ ap (λ z. more (tree l Own.null us) z) q)
argument_read (tree l (Own.name b) us) p xs ts here inner e s q = let r = here refl in ((r.0, s), ap (λ z. more z (argument_trees xs)) r.1 ∙ ap (λ z. more (tree l (Own.name b) us) z) q)
argument_read (tree l Own.array us) p xs ts here inner e s q = let r = here refl in ((r.0, s), ap (λ z. more z (argument_trees xs)) r.1 ∙ ap (λ z. more (tree l Own.array us) z) q)
argument_read (tree l (Own.static_member b) us) p xs ts here inner e s q = let r = here refl in ((r.0, s), ap (λ z. more z (argument_trees xs)) r.1 ∙ ap (λ z. more (tree l (Own.static_member b) us) z) q)
argument_read (tree l Own.computed_member us) p xs ts here inner e s q = let r = here refl in ((r.0, s), ap (λ z. more z (argument_trees xs)) r.1 ∙ ap (λ z. more (tree l Own.computed_member us) z) q)
argument_read (tree l Own.call us) p xs ts here inner e s q = let r = here refl in ((r.0, s), ap (λ z. more z (argument_trees xs)) r.1 ∙ ap (λ z. more (tree l Own.call us) z) q)
argument_read (tree l Own.template us) p xs ts here inner e s q = let r = here refl in ((r.0, s), ap (λ z. more z (argument_trees xs)) r.1 ∙ ap (λ z. more (tree l Own.template us) z) q)
argument_read (tree l (Own.unary b) us) p xs ts here inner e s q = let r = here refl in ((r.0, s), ap (λ z. more z (argument_trees xs)) r.1 ∙ ap (λ z. more (tree l (Own.unary b) us) z) q)
argument_read (tree l (Own.binary b) us) p xs ts here inner e s q = let r = here refl in ((r.0, s), ap (λ z. more z (argument_trees xs)) r.1 ∙ ap (λ z. more (tree l (Own.binary b) us) z) q)
argument_read (tree l (Own.opaque b f) us) p xs ts here inner e s q = let r = here refl in ((r.0, s), ap (λ z. more z (argument_trees xs)) r.1 ∙ ap (λ z. more (tree l (Own.opaque b f) us) z) q)
argument_read (tree l Own.hole us) p xs ts here inner e s q = false_true e
argument_read (tree l Own.spread us) p xs ts here inner e s q =
    let r = inner refl p.0 in
    ((r.0, s), ap (λ z. more (tree l Own.spread z) (argument_trees xs)) r.1 ∙ ap (λ z. more (tree l Own.spread us) z) q)
argument_read (tree l (Own.quasi r c) us) p xs ts here inner e s q = false_true e

mutual
  reads : (t : Tree) (p : LawfulTree t) → ReadsAlone t p
  reads (tree l (Own.string b) ts) p e = (p.0.0.1.0, ap (λ z. tree l (Own.string z) none) p.0.0.1.1 ∙ ap (λ z. tree l (Own.string b) z) (sym (no_trees ts p.0.1)))
  reads (tree l (Own.number n) ts) p e = (tt, ap (λ z. tree l (Own.number n) z) (sym (no_trees ts p.0.1)))
  reads (tree l (Own.boolean b) ts) p e = (tt, ap (λ z. tree l (Own.boolean b) z) (sym (no_trees ts p.0)))
  reads (tree l Own.null ts) p e = (tt, ap (λ z. tree l Own.null z) (sym (no_trees ts p.0)))
  reads (tree l (Own.name b) ts) p e = (p.0.0.1.0, ap (λ z. tree l (Own.name z) none) p.0.0.1.1 ∙ ap (λ z. tree l (Own.name b) z) (sym (no_trees ts p.0.1)))
  reads (tree l Own.hole ts) p e = hole_expression e
  reads (tree l Own.spread ts) p e = spread_expression e
  reads (tree l Own.array ts) p e = let r = elements_read 0 ts p.1 in (r.0, ap (λ z. tree l Own.array z) r.1)
  reads (tree l (Own.static_member b) ts) p e =
      let r = one_read (Own.static_member b) 0 ts p.1 refl p.0.1 in
      ((r.0, p.0.0.1.0), ap (λ z. tree l (Own.static_member z) (more (tree_of (first_of (Own.static_member b) 0 ts p.1)) none)) p.0.0.1.1 ∙ ap (λ z. tree l (Own.static_member b) z) r.1)
  reads (tree l Own.computed_member ts) p e = let r = two_read Own.computed_member 0 ts p.1 refl refl p.0 in ((r.0, r.1), ap (λ z. tree l Own.computed_member z) r.2)
  reads (tree l Own.call ts) p e = let r = call_read ts p.1 p.0 in ((r.0, r.1), ap (λ z. tree l Own.call z) r.2)
  reads (tree l Own.template ts) p e = let r = pieces_read 0 ts p.1 refl p.0 in (r.0, ap (λ z. tree l Own.template z) r.1)
  reads (tree l (Own.quasi r c) ts) p e = quasi_expression e
  reads (tree l (Own.unary o) ts) p e = let r = one_read (Own.unary o) 0 ts p.1 refl p.0 in (r.0, ap (λ z. tree l (Own.unary o) z) r.1)
  reads (tree l (Own.binary o) ts) p e = let r = two_read (Own.binary o) 0 ts p.1 refl refl p.0 in ((r.0, r.1), ap (λ z. tree l (Own.binary o) z) r.2)
  reads (tree l (Own.opaque m f) ts) p e = let r = children_read m f 0 ts p.1 in (r.0, ap (λ z. tree l (Own.opaque m f) z) r.1)

  inner_reads : (t : Tree) (p : LawfulTree t) → ReadsInner t p
  inner_reads (tree l o ts) p e n = one_read o 0 ts p.1 e n

  one_read : (o : Own) (k : ℕ) (ts : Trees) (p : LawfulBelow o k ts) → role o k ≡ Operand → length (labels ts) ≡ 1
      → Spelled (first_of o k ts p) × (more (tree_of (first_of o k ts p)) none ≡ ts)
  one_read o k none p e n = absurd (omega arith)
  one_read o k (more t ts) p e n =
      let r = reads t p.1 (operand (sort_of (own_of t)) (subst (λ z. admits z (sort_of (own_of t)) ≡ true) e p.0)) in
      (r.0, ap (λ z. more z none) r.1 ∙ ap (λ z. more t z) (sym (no_trees ts (omega arith))))

  two_read : (o : Own) (k : ℕ) (ts : Trees) (p : LawfulBelow o k ts) → role o k ≡ Operand → role o (suc k) ≡ Operand → length (labels ts) ≡ 2
      → Spelled (first_of o k ts p) × Spelled (second_of o k ts p) × (more (tree_of (first_of o k ts p)) (more (tree_of (second_of o k ts p)) none) ≡ ts)
  two_read o k none p e f n = absurd (omega arith)
  two_read o k (more t ts) p e f n =
      let r = reads t p.1 (operand (sort_of (own_of t)) (subst (λ z. admits z (sort_of (own_of t)) ≡ true) e p.0)) in
      let s = one_read o (suc k) ts p.2 f (omega arith) in
      (r.0, s.0, ap (λ z. more z (more (tree_of (first_of o (suc k) ts p.2)) none)) r.1 ∙ ap (λ z. more t z) s.1)

  call_read : (ts : Trees) (p : LawfulBelow Own.call 0 ts) → 1 ≤ length (labels ts)
      → Spelled (first_of Own.call 0 ts p) × SpelledArguments (arguments_behind Own.call 0 ts p) × (more (tree_of (first_of Own.call 0 ts p)) (argument_trees (arguments_behind Own.call 0 ts p)) ≡ ts)
  call_read none p n = absurd (omega arith)
  call_read (more t ts) p n =
      let r = reads t p.1 (operand (sort_of (own_of t)) p.0) in
      let s = arguments_read 0 ts p.2 in
      (r.0, s.0, ap (λ z. more z (argument_trees (arguments_of Own.call 1 ts p.2))) r.1 ∙ ap (λ z. more t z) s.1)

  elements_read : (k : ℕ) (ts : Trees) (p : LawfulBelow Own.array k ts) → SpelledElements (elements_of Own.array k ts p) × (element_trees (elements_of Own.array k ts p) ≡ ts)
  elements_read k none p = (tt, refl)
  elements_read k (more t ts) p = let r = elements_read (suc k) ts p.2 in element_read t p.1 (elements_of Own.array (suc k) ts p.2) ts (reads t p.1) (inner_reads t p.1) p.0 r.0 r.1

  arguments_read : (k : ℕ) (ts : Trees) (p : LawfulBelow Own.call (suc k) ts) → SpelledArguments (arguments_of Own.call (suc k) ts p) × (argument_trees (arguments_of Own.call (suc k) ts p) ≡ ts)
  arguments_read k none p = (tt, refl)
  arguments_read k (more t ts) p = let r = arguments_read (suc k) ts p.2 in argument_read t p.1 (arguments_of Own.call (suc (suc k)) ts p.2) ts (reads t p.1) (inner_reads t p.1) p.0 r.0 r.1

  pieces_read : (k : ℕ) (ts : Trees) (p : LawfulBelow Own.template k ts) → k % 2 ≡ 0 → length (labels ts) % 2 ≡ 1
      → SpelledPieces (pieces_of Own.template k ts p) × (piece_trees (pieces_of Own.template k ts p) ≡ ts)
  pieces_read k none p e n = absurd (omega arith)
  pieces_read k (more t ts) p e n =
      let q = quasi_read t p.1 (subst (λ z. admits z (sort_of (own_of t)) ≡ true) (quasi_role k e) p.0) in
      let r = behind_read (quasi_in t p.1) k ts p.2 e (omega arith) q.0 in
      (r.0, r.1 ∙ ap (λ z. more z ts) q.1)

  behind_read : (q : Quasi) (k : ℕ) (ts : Trees) (p : LawfulBelow Own.template (suc k) ts) → k % 2 ≡ 0 → length (labels ts) % 2 ≡ 0 → SpelledQuasi q
      → SpelledPieces (pieces_behind q Own.template (suc k) ts p) × (piece_trees (pieces_behind q Own.template (suc k) ts p) ≡ more (quasi_tree q) ts)
  behind_read q k none p e n s = (s, refl)
  behind_read q k (more t ts) p e n s =
      let r = reads t p.1 (operand (sort_of (own_of t)) (subst (λ z. admits z (sort_of (own_of t)) ≡ true) (expression_role (suc k) (omega arith)) p.0)) in
      let more_read = pieces_read (suc (suc k)) ts p.2 (omega arith) (omega arith) in
      ((s, r.0, more_read.0), ap (λ z. more (quasi_tree q) (more z (piece_trees (pieces_of Own.template (suc (suc k)) ts p.2)))) r.1 ∙ ap (λ z. more (quasi_tree q) (more t z)) more_read.1)

  children_read : (m : ℕ) (f : FirstChild) (k : ℕ) (ts : Trees) (p : LawfulBelow (Own.opaque m f) k ts) → SpelledChildren (children_of (Own.opaque m f) k ts p) × (child_trees (children_of (Own.opaque m f) k ts p) ≡ ts)
  children_read m f k none p = (tt, refl)
  children_read m f k (more t ts) p =
      let r = reads t p.1 (operand (sort_of (own_of t)) p.0) in
      let s = children_read m f (suc k) ts p.2 in
      ((r.0, s.0), ap (λ z. more z (child_trees (children_of (Own.opaque m f) (suc k) ts p.2))) r.1 ∙ ap (λ z. more t z) s.1)

-- An expression's own tree is among elements and arguments an expression.
item_in : (x y z : Expression) (xs : Elements) → element_in (tree_of x) y z xs ≡ Elements.item y xs
item_in (Expression.string l u) y z xs0 = refl
item_in (Expression.number l n) y z xs0 = refl
item_in (Expression.boolean l b) y z xs0 = refl
item_in (Expression.null l) y z xs0 = refl
item_in (Expression.name l u) y z xs0 = refl
item_in (Expression.array l xs) y z xs0 = refl
item_in (Expression.static_member l x p) y z xs0 = refl
item_in (Expression.computed_member l x k) y z xs0 = refl
item_in (Expression.call l f xs) y z xs0 = refl
item_in (Expression.template l ps) y z xs0 = refl
item_in (Expression.unary l o x) y z xs0 = refl
item_in (Expression.binary l o x w) y z xs0 = refl
item_in (Expression.opaque l f m xs) y z xs0 = refl

argument_itself : (x y z : Expression) (xs : Arguments) → argument_in (tree_of x) y z xs ≡ Arguments.argument y xs
argument_itself (Expression.string l u) y z xs0 = refl
argument_itself (Expression.number l n) y z xs0 = refl
argument_itself (Expression.boolean l b) y z xs0 = refl
argument_itself (Expression.null l) y z xs0 = refl
argument_itself (Expression.name l u) y z xs0 = refl
argument_itself (Expression.array l xs) y z xs0 = refl
argument_itself (Expression.static_member l x p) y z xs0 = refl
argument_itself (Expression.computed_member l x k) y z xs0 = refl
argument_itself (Expression.call l f xs) y z xs0 = refl
argument_itself (Expression.template l ps) y z xs0 = refl
argument_itself (Expression.unary l o x) y z xs0 = refl
argument_itself (Expression.binary l o x w) y z xs0 = refl
argument_itself (Expression.opaque l f m xs) y z xs0 = refl

same_text : (u v : List ℕ) → Text u → Stores (stored u) v → v ≡ u
same_text u v t s = stored_once (stored u) v u s (t, refl)

mutual
  unread : (x : Expression) → Spelled x → (p : LawfulTree (tree_of x)) → expression_of (tree_of x) p ≡ x
  unread (Expression.string l u) s p = ap (λ z. Expression.string l z) (same_text u p.0.0.0 s p.0.0.1)
  unread (Expression.number l n) s p = refl
  unread (Expression.boolean l b) s p = refl
  unread (Expression.null l) s p = refl
  unread (Expression.name l u) s p = ap (λ z. Expression.name l z) (same_text u p.0.0.0 s p.0.0.1)
  unread (Expression.array l xs) s p = ap (λ z. Expression.array l z) (elements_unread 0 xs s p.1)
  unread (Expression.static_member l x k) s p =
      ap (λ z. Expression.static_member l z p.0.0.0) (unread x s.0 p.1.1) ∙ ap (λ z. Expression.static_member l x z) (same_text k p.0.0.0 s.1 p.0.0.1)
  unread (Expression.computed_member l x k) s p =
      ap (λ z. Expression.computed_member l z (expression_of (tree_of k) p.1.2.1)) (unread x s.0 p.1.1) ∙ ap (λ z. Expression.computed_member l x z) (unread k s.1 p.1.2.1)
  unread (Expression.call l f xs) s p =
      ap (λ z. Expression.call l z (arguments_of Own.call 1 (argument_trees xs) p.1.2)) (unread f s.0 p.1.1) ∙ ap (λ z. Expression.call l f z) (arguments_unread 1 xs s.1 p.1.2)
  unread (Expression.template l ps) s p = ap (λ z. Expression.template l z) (pieces_unread 0 ps s p.1)
  unread (Expression.unary l o x) s p = ap (λ z. Expression.unary l o z) (unread x s p.1.1)
  unread (Expression.binary l o x y) s p =
      ap (λ z. Expression.binary l o z (expression_of (tree_of y) p.1.2.1)) (unread x s.0 p.1.1) ∙ ap (λ z. Expression.binary l o x z) (unread y s.1 p.1.2.1)
  unread (Expression.opaque l f m xs) s p = ap (λ z. Expression.opaque l f m z) (children_unread m f 0 xs s p.1)

  elements_unread : (k : ℕ) (xs : Elements) → SpelledElements xs → (p : LawfulBelow Own.array k (element_trees xs)) → elements_of Own.array k (element_trees xs) p ≡ xs
  elements_unread k Elements.no_elements s p = refl
  elements_unread k (Elements.item x xs) s p =
      item_in x (expression_of (tree_of x) p.1) (inner_of (tree_of x) p.1) (elements_of Own.array (suc k) (element_trees xs) p.2)
      ∙ ap (λ z. Elements.item z (elements_of Own.array (suc k) (element_trees xs) p.2)) (unread x s.0 p.1)
      ∙ ap (λ z. Elements.item x z) (elements_unread (suc k) xs s.1 p.2)
  elements_unread k (Elements.hole l xs) s p = ap (λ z. Elements.hole l z) (elements_unread (suc k) xs s p.2)
  elements_unread k (Elements.spread l x xs) s p =
      ap (λ z. Elements.spread l z (elements_of Own.array (suc k) (element_trees xs) p.2)) (unread x s.0 p.1.1.1)
      ∙ ap (λ z. Elements.spread l x z) (elements_unread (suc k) xs s.1 p.2)

  arguments_unread : (k : ℕ) (xs : Arguments) → SpelledArguments xs → (p : LawfulBelow Own.call k (argument_trees xs)) → arguments_of Own.call k (argument_trees xs) p ≡ xs
  arguments_unread k Arguments.no_arguments s p = refl
  arguments_unread k (Arguments.argument x xs) s p =
      argument_itself x (expression_of (tree_of x) p.1) (inner_of (tree_of x) p.1) (arguments_of Own.call (suc k) (argument_trees xs) p.2)
      ∙ ap (λ z. Arguments.argument z (arguments_of Own.call (suc k) (argument_trees xs) p.2)) (unread x s.0 p.1)
      ∙ ap (λ z. Arguments.argument x z) (arguments_unread (suc k) xs s.1 p.2)
  arguments_unread k (Arguments.spread_argument l x xs) s p =
      ap (λ z. Arguments.spread_argument l z (arguments_of Own.call (suc k) (argument_trees xs) p.2)) (unread x s.0 p.1.1.1)
      ∙ ap (λ z. Arguments.spread_argument l x z) (arguments_unread (suc k) xs s.1 p.2)

  pieces_unread : (k : ℕ) (ps : Pieces) → SpelledPieces ps → (p : LawfulBelow Own.template k (piece_trees ps)) → pieces_of Own.template k (piece_trees ps) p ≡ ps
  pieces_unread k (Pieces.last (Quasi.quasi l r c)) s p = ap (λ z. Pieces.last (Quasi.quasi l r z)) (same_text c p.1.0.0.0 s p.1.0.0.2)
  pieces_unread k (Pieces.piece (Quasi.quasi l r c) x ps) s p =
      ap (λ z. Pieces.piece (Quasi.quasi l r z) (expression_of (tree_of x) p.2.1) (pieces_of Own.template (suc (suc k)) (piece_trees ps) p.2.2)) (same_text c p.1.0.0.0 s.0 p.1.0.0.2)
      ∙ ap (λ z. Pieces.piece (Quasi.quasi l r c) z (pieces_of Own.template (suc (suc k)) (piece_trees ps) p.2.2)) (unread x s.1 p.2.1)
      ∙ ap (λ z. Pieces.piece (Quasi.quasi l r c) x z) (pieces_unread (suc (suc k)) ps s.2 p.2.2)

  children_unread : (m : ℕ) (f : FirstChild) (k : ℕ) (xs : Children) → SpelledChildren xs → (p : LawfulBelow (Own.opaque m f) k (child_trees xs)) → children_of (Own.opaque m f) k (child_trees xs) p ≡ xs
  children_unread m f k Children.no_children s p = refl
  children_unread m f k (Children.child x xs) s p =
      ap (λ z. Children.child z (children_of (Own.opaque m f) (suc k) (child_trees xs) p.2)) (unread x s.0 p.1)
      ∙ ap (λ z. Children.child x z) (children_unread m f (suc k) xs s.1 p.2)

pub one_expression : APayoffIsOneExpression
one_expression t p = (
  expression_of t p.0,
  reads t p.0 p.1,
  λ y s. subst (λ z. (q : LawfulTree z) → expression_of z q ≡ y) s.1 (unread y s.0) p.0,
)
