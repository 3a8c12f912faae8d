-- Lawful trees: at a place, with another tree at a place, and the expressions that they store.
use Rattle.std.proofs.Common.{◌≡◌, ℕ, zero, suc, List, [], ◌∷◌, length, Some, sym, refl, ap, ◌∙◌, subst, arith}
use Rattle.text.specs.Stored.{stored}
use Rattle.text.proofs.Pairing.{stored_once}
use Rattle.template.specs.Cooked.{Cooks}
use Rattle.tree.specs.declared.node.FirstChild.{FirstChild}
use Rattle.tree.specs.declared.role.Sort.{Sort}
use Rattle.tree.specs.Tree.{Own, Tree, Trees, tree, none, more, labels, own_of, at_place, among, replace, replace_among}
use Rattle.tree.specs.Lawful.{LawfulTree, LawfulBelow, LawfulOwn, Payoff, sort_of, admits, role}
use Rattle.meaning.specs.Expression.{Expression, Elements, Arguments, Quasi, Pieces, Children}
use Rattle.meaning.specs.Trees.{tree_of, quasi_tree, element_trees, argument_trees, piece_trees, child_trees}
use Rattle.meaning.specs.Payoffs.{Spelled, SpelledElements, SpelledArguments, SpelledPieces, SpelledChildren, SpelledQuasi, StoredAs}
use Rattle.meaning.proofs.Reading.{one_expression}
use Rattle.rules.specs.Lawful.{LawfulQuasi, HasFirst, LawfulExpression, LawfulElements, LawfulArguments, LawfulPieces, LawfulChildren}
use Rattle.rules.proofs.Absurd.{none_some}

-- ---- at a place

mutual
  pub lawful_place : (t : Tree) (p : List ℕ) (s : Tree) → at_place t p ≡ Some s → LawfulTree t → LawfulTree s
  lawful_place (tree l o ts) [] s e h = let f : tree l o ts ≡ s = cc in subst LawfulTree f h
  lawful_place (tree l o ts) (i ∷ p) s e h = lawful_among o 0 ts i p s e h.1

  lawful_among : (o : Own) (k : ℕ) (ts : Trees) (i : ℕ) (p : List ℕ) (s : Tree) → among ts i p ≡ Some s → LawfulBelow o k ts → LawfulTree s
  lawful_among o k none i p s e h = none_some e
  lawful_among o k (more t ts) zero p s e h = lawful_place t p s e h.1
  lawful_among o k (more t ts) (suc i) p s e h = lawful_among o (suc k) ts i p s e h.2

-- ---- with another tree of the same sort at a place

abbrev sort : Tree → Sort
sort t = sort_of (own_of t)

pub sort_replaced : (t : Tree) (p : List ℕ) (s u : Tree) → at_place t p ≡ Some s → sort u ≡ sort s → sort (replace t p u) ≡ sort t
sort_replaced (tree l o ts) [] s u e q = let f : tree l o ts ≡ s = cc in q ∙ ap sort (sym f)
sort_replaced (tree l o ts) (i ∷ p) s u e q = refl

count_replaced : (ts : Trees) (i : ℕ) (p : List ℕ) (u : Tree) → length (labels (replace_among ts i p u)) ≡ length (labels ts)
count_replaced none i p u = refl
count_replaced (more t ts) zero p u = refl
count_replaced (more t ts) (suc i) p u = ap suc (count_replaced ts i p u)

mutual
  pub lawful_replaced : (t : Tree) (p : List ℕ) (s u : Tree) → at_place t p ≡ Some s → sort u ≡ sort s → LawfulTree u → LawfulTree t → LawfulTree (replace t p u)
  lawful_replaced (tree l o ts) [] s u e q k h = k
  lawful_replaced (tree l o ts) (i ∷ p) s u e q k h = (subst (LawfulOwn o) (sym (count_replaced ts i p u)) h.0, among_replaced o 0 ts i p s u e q k h.1)

  among_replaced : (o : Own) (n : ℕ) (ts : Trees) (i : ℕ) (p : List ℕ) (s u : Tree) → among ts i p ≡ Some s → sort u ≡ sort s → LawfulTree u → LawfulBelow o n ts
      → LawfulBelow o n (replace_among ts i p u)
  among_replaced o n none i p s u e q k h = tt
  among_replaced o n (more t ts) zero p s u e q k h = (ap (admits (role o n)) (sort_replaced t p s u e q) ∙ h.0, lawful_replaced t p s u e q k h.1, h.2)
  among_replaced o n (more t ts) (suc i) p s u e q k h = (h.0, h.1, among_replaced o (suc n) ts i p s u e q k h.2)

-- ---- the expressions that they store

-- One at most.
pub stored_alike : (t : Tree) (x y : Expression) → Payoff t → StoredAs t x → StoredAs t y → x ≡ y
stored_alike t x y h a b = let one = one_expression t h in sym (one.2 x a) ∙ one.2 y b

quasi_is_lawful : (q : Quasi) → SpelledQuasi q → LawfulTree (quasi_tree q) → LawfulQuasi q
quasi_is_lawful (Quasi.quasi l raw u) s h =
    let c = h.0.0 in
    (subst (Cooks raw) (stored_once (stored u) c.0 u c.2 (s, refl)) c.1, s)

has_first : (m : ℕ) (f : FirstChild) (xs : Children) → LawfulOwn (Own.opaque m f) (length (labels (child_trees xs))) → HasFirst f xs
has_first m FirstChild.Value xs h = tt
has_first m FirstChild.Reference Children.no_children h = omega arith
has_first m FirstChild.Reference (Children.child x xs) h = tt

-- The expression of a lawful tree is lawful.
mutual
  pub expression_lawful : (x : Expression) → Spelled x → LawfulTree (tree_of x) → LawfulExpression x
  expression_lawful (Expression.string l u) s h = s
  expression_lawful (Expression.number l n) s h = h.0.0
  expression_lawful (Expression.boolean l b) s h = tt
  expression_lawful (Expression.null l) s h = tt
  expression_lawful (Expression.name l u) s h = s
  expression_lawful (Expression.array l xs) s h = elements_lawful xs 0 s h.1
  expression_lawful (Expression.static_member l x p) s h = (expression_lawful x s.0 h.1.1, s.1)
  expression_lawful (Expression.computed_member l x k) s h = (expression_lawful x s.0 h.1.1, expression_lawful k s.1 h.1.2.1)
  expression_lawful (Expression.call l f xs) s h = (expression_lawful f s.0 h.1.1, arguments_lawful xs 1 s.1 h.1.2)
  expression_lawful (Expression.template l ps) s h = pieces_lawful ps 0 s h.1
  expression_lawful (Expression.unary l o x) s h = expression_lawful x s h.1.1
  expression_lawful (Expression.binary l o x y) s h = (expression_lawful x s.0 h.1.1, expression_lawful y s.1 h.1.2.1)
  expression_lawful (Expression.opaque l f m xs) s h = (has_first m f xs h.0, children_lawful m f xs 0 s h.1)

  elements_lawful : (xs : Elements) (k : ℕ) → SpelledElements xs → LawfulBelow Own.array k (element_trees xs) → LawfulElements xs
  elements_lawful Elements.no_elements k s h = tt
  elements_lawful (Elements.item x xs) k s h = (expression_lawful x s.0 h.1, elements_lawful xs (suc k) s.1 h.2)
  elements_lawful (Elements.hole l xs) k s h = elements_lawful xs (suc k) s h.2
  elements_lawful (Elements.spread l x xs) k s h = (expression_lawful x s.0 h.1.1.1, elements_lawful xs (suc k) s.1 h.2)

  arguments_lawful : (xs : Arguments) (k : ℕ) → SpelledArguments xs → LawfulBelow Own.call k (argument_trees xs) → LawfulArguments xs
  arguments_lawful Arguments.no_arguments k s h = tt
  arguments_lawful (Arguments.argument x xs) k s h = (expression_lawful x s.0 h.1, arguments_lawful xs (suc k) s.1 h.2)
  arguments_lawful (Arguments.spread_argument l x xs) k s h = (expression_lawful x s.0 h.1.1.1, arguments_lawful xs (suc k) s.1 h.2)

  pieces_lawful : (ps : Pieces) (k : ℕ) → SpelledPieces ps → LawfulBelow Own.template k (piece_trees ps) → LawfulPieces ps
  pieces_lawful (Pieces.last q) k s h = quasi_is_lawful q s h.1
  pieces_lawful (Pieces.piece q x ps) k s h = (quasi_is_lawful q s.0 h.1, expression_lawful x s.1 h.2.1, pieces_lawful ps (suc (suc k)) s.2 h.2.2)

  children_lawful : (m : ℕ) (f : FirstChild) (xs : Children) (k : ℕ) → SpelledChildren xs → LawfulBelow (Own.opaque m f) k (child_trees xs) → LawfulChildren xs
  children_lawful m f Children.no_children k s h = tt
  children_lawful m f (Children.child x xs) k s h = (expression_lawful x s.0 h.1, children_lawful m f xs (suc k) s.1 h.2)

quasi_spelled : (q : Quasi) → LawfulQuasi q → SpelledQuasi q
quasi_spelled (Quasi.quasi l raw u) h = h.1

-- And a lawful expression is spelled.
mutual
  pub lawful_spelled : (x : Expression) → LawfulExpression x → Spelled x
  lawful_spelled (Expression.string l u) h = h
  lawful_spelled (Expression.number l n) h = tt
  lawful_spelled (Expression.boolean l b) h = tt
  lawful_spelled (Expression.null l) h = tt
  lawful_spelled (Expression.name l u) h = h
  lawful_spelled (Expression.array l xs) h = elements_spelled xs h
  lawful_spelled (Expression.static_member l x p) h = (lawful_spelled x h.0, h.1)
  lawful_spelled (Expression.computed_member l x k) h = (lawful_spelled x h.0, lawful_spelled k h.1)
  lawful_spelled (Expression.call l f xs) h = (lawful_spelled f h.0, arguments_spelled xs h.1)
  lawful_spelled (Expression.template l ps) h = pieces_spelled ps h
  lawful_spelled (Expression.unary l o x) h = lawful_spelled x h
  lawful_spelled (Expression.binary l o x y) h = (lawful_spelled x h.0, lawful_spelled y h.1)
  lawful_spelled (Expression.opaque l f m xs) h = children_spelled xs h.1

  elements_spelled : (xs : Elements) → LawfulElements xs → SpelledElements xs
  elements_spelled Elements.no_elements h = tt
  elements_spelled (Elements.item x xs) h = (lawful_spelled x h.0, elements_spelled xs h.1)
  elements_spelled (Elements.hole l xs) h = elements_spelled xs h
  elements_spelled (Elements.spread l x xs) h = (lawful_spelled x h.0, elements_spelled xs h.1)

  arguments_spelled : (xs : Arguments) → LawfulArguments xs → SpelledArguments xs
  arguments_spelled Arguments.no_arguments h = tt
  arguments_spelled (Arguments.argument x xs) h = (lawful_spelled x h.0, arguments_spelled xs h.1)
  arguments_spelled (Arguments.spread_argument l x xs) h = (lawful_spelled x h.0, arguments_spelled xs h.1)

  pieces_spelled : (ps : Pieces) → LawfulPieces ps → SpelledPieces ps
  pieces_spelled (Pieces.last q) h = quasi_spelled q h
  pieces_spelled (Pieces.piece q x ps) h = (quasi_spelled q h.0, lawful_spelled x h.1, pieces_spelled ps h.2)

  children_spelled : (xs : Children) → LawfulChildren xs → SpelledChildren xs
  children_spelled Children.no_children h = tt
  children_spelled (Children.child x xs) h = (lawful_spelled x h.0, children_spelled xs h.1)
