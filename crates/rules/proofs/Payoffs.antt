-- The tree of a lawful expression is that of a payoff.
use Rattle.std.proofs.Common.{◌≡◌, ℕ, suc, ◌%◌, true, cond, length, refl, ap, ◌∙◌, arith}
use Rattle.std.proofs.lemmas.Bool.{eq-eqb, ne_eqb}
use Rattle.tree.specs.declared.role.Sort.TheVariants.{IsExpression, IsQuasi}
use Rattle.tree.specs.declared.role.Role.TheVariants.{Operand, Element, Argument, QuasiPart}
use Rattle.tree.specs.declared.node.FirstChild.{FirstChild}
use Rattle.tree.specs.Tree.{Own, labels, own_of}
use Rattle.tree.specs.Lawful.{sort_of, admits, role, LawfulTree, LawfulBelow}
use Rattle.meaning.specs.Expression.{Expression, Elements, Arguments, Quasi, Pieces, Children}
use Rattle.meaning.specs.Trees.{tree_of, quasi_tree, element_trees, argument_trees, piece_trees, child_trees}
use Rattle.rules.specs.Lawful.{LawfulQuasi, LawfulExpression, LawfulElements, LawfulArguments, LawfulPieces, LawfulChildren, ALawfulExpressionIsAPayoff}

pub sort_is : (x : Expression) → sort_of (own_of (tree_of x)) ≡ IsExpression
sort_is (Expression.string l u) = refl
sort_is (Expression.number l n) = refl
sort_is (Expression.boolean l b) = refl
sort_is (Expression.null l) = refl
sort_is (Expression.name l u) = refl
sort_is (Expression.array l xs) = refl
sort_is (Expression.static_member l x p) = refl
sort_is (Expression.computed_member l x k) = refl
sort_is (Expression.call l f xs) = refl
sort_is (Expression.template l ps) = refl
sort_is (Expression.unary l o x) = refl
sort_is (Expression.binary l o x y) = refl
sort_is (Expression.opaque l f m xs) = refl

operand : (x : Expression) → admits Operand (sort_of (own_of (tree_of x))) ≡ true
operand x = ap (admits Operand) (sort_is x)

-- quasis and expressions in turn
even_role : (k : ℕ) → k % 2 ≡ 0 → role Own.template k ≡ QuasiPart
even_role k e = ap (λ b. cond b QuasiPart Operand) (eq-eqb (k % 2) 0 e)

odd_role : (k : ℕ) → k % 2 ≡ 0 → role Own.template (suc k) ≡ Operand
odd_role k e = ap (λ b. cond b QuasiPart Operand) (ne_eqb (suc k % 2) 0 (λ i. omega arith))

quasi_sort : (q : Quasi) → sort_of (own_of (quasi_tree q)) ≡ IsQuasi
quasi_sort (Quasi.quasi l raw u) = refl

quasi_lawful : (q : Quasi) → LawfulQuasi q → LawfulTree (quasi_tree q)
quasi_lawful (Quasi.quasi l raw u) h = (((u, h.0, (h.1, refl)), refl), tt)

piece_count : (ps : Pieces) → length (labels (piece_trees ps)) % 2 ≡ 1
piece_count (Pieces.last q) = refl
piece_count (Pieces.piece q x ps) = let i = piece_count ps in omega arith

mutual
  tree_lawful : (x : Expression) → LawfulExpression x → LawfulTree (tree_of x)
  tree_lawful (Expression.string l u) h = (((u, (h, refl)), refl), tt)
  tree_lawful (Expression.number l n) h = ((h, refl), tt)
  tree_lawful (Expression.boolean l b) h = (refl, tt)
  tree_lawful (Expression.null l) h = (refl, tt)
  tree_lawful (Expression.name l u) h = (((u, (h, refl)), refl), tt)
  tree_lawful (Expression.array l xs) h = (tt, elements_lawful xs h 0)
  tree_lawful (Expression.static_member l x p) h = (((p, (h.1, refl)), refl), (operand x, tree_lawful x h.0, tt))
  tree_lawful (Expression.computed_member l x k) h = (refl, (operand x, tree_lawful x h.0, (operand k, tree_lawful k h.1, tt)))
  tree_lawful (Expression.call l f xs) h = (omega arith, (operand f, tree_lawful f h.0, arguments_lawful xs h.1 0))
  tree_lawful (Expression.template l ps) h = (piece_count ps, pieces_lawful ps h 0 refl)
  tree_lawful (Expression.unary l o x) h = (refl, (operand x, tree_lawful x h, tt))
  tree_lawful (Expression.binary l o x y) h = (refl, (operand x, tree_lawful x h.0, (operand y, tree_lawful y h.1, tt)))
  tree_lawful (Expression.opaque l FirstChild.Value m xs) h = (tt, children_lawful m FirstChild.Value xs h.1 0)
  tree_lawful (Expression.opaque l FirstChild.Reference m Children.no_children) h = absurd h.0
  tree_lawful (Expression.opaque l FirstChild.Reference m (Children.child x xs)) h = (omega arith, children_lawful m FirstChild.Reference (Children.child x xs) h.1 0)

  elements_lawful : (xs : Elements) → LawfulElements xs → (k : ℕ) → LawfulBelow Own.array k (element_trees xs)
  elements_lawful Elements.no_elements h k = tt
  elements_lawful (Elements.item x xs) h k = (ap (admits Element) (sort_is x), tree_lawful x h.0, elements_lawful xs h.1 (suc k))
  elements_lawful (Elements.hole l xs) h k = (refl, (refl, tt), elements_lawful xs h (suc k))
  elements_lawful (Elements.spread l x xs) h k = (refl, (refl, (operand x, tree_lawful x h.0, tt)), elements_lawful xs h.1 (suc k))

  arguments_lawful : (xs : Arguments) → LawfulArguments xs → (k : ℕ) → LawfulBelow Own.call (suc k) (argument_trees xs)
  arguments_lawful Arguments.no_arguments h k = tt
  arguments_lawful (Arguments.argument x xs) h k = (ap (admits Argument) (sort_is x), tree_lawful x h.0, arguments_lawful xs h.1 (suc k))
  arguments_lawful (Arguments.spread_argument l x xs) h k = (refl, (refl, (operand x, tree_lawful x h.0, tt)), arguments_lawful xs h.1 (suc k))

  pieces_lawful : (ps : Pieces) → LawfulPieces ps → (k : ℕ) → k % 2 ≡ 0 → LawfulBelow Own.template k (piece_trees ps)
  pieces_lawful (Pieces.last q) h k e = (ap (λ r. admits r (sort_of (own_of (quasi_tree q)))) (even_role k e) ∙ ap (admits QuasiPart) (quasi_sort q), quasi_lawful q h, tt)
  pieces_lawful (Pieces.piece q x ps) h k e = (
    ap (λ r. admits r (sort_of (own_of (quasi_tree q)))) (even_role k e) ∙ ap (admits QuasiPart) (quasi_sort q),
    quasi_lawful q h.0,
    (ap (λ r. admits r (sort_of (own_of (tree_of x)))) (odd_role k e) ∙ operand x, tree_lawful x h.1, pieces_lawful ps h.2 (suc (suc k)) (omega arith)),
  )

  children_lawful : (m : ℕ) (f : FirstChild) (xs : Children) → LawfulChildren xs → (k : ℕ) → LawfulBelow (Own.opaque m f) k (child_trees xs)
  children_lawful m f Children.no_children h k = tt
  children_lawful m f (Children.child x xs) h k = (operand x, tree_lawful x h.0, children_lawful m f xs h.1 (suc k))

pub lawful_payoff : ALawfulExpressionIsAPayoff
lawful_payoff x h = (tree_lawful x h, sort_is x)
