-- The parts of an expression are what stands at its places.
use Rattle.std.proofs.Common.{◌≡◌, ℕ, zero, suc, ◌<◌, List, [], ◌∷◌, Some, sym, refl, ◌∙◌, subst, arith}
use Rattle.tree.specs.Tree.{Own, Tree, tree, none, more, label, at_place, among}
use Rattle.tree.proofs.Places.{place_top}
use Rattle.meaning.specs.Expression.{Expression, Elements, Arguments, Quasi, Pieces, Children}
use Rattle.meaning.specs.Trees.{tree_of, quasi_tree, element_trees, argument_trees, piece_trees, child_trees}
use Rattle.meaning.specs.Parts.{Part, part_tree}
use Rattle.host.specs.Answers.{Answers}
use Rattle.rules.specs.Deciding.{Deciding, asked}
use Rattle.rules.specs.OwnParts.{StandsIn, AllAbout, OnlyPartsAreAskedOf, OldIn, OldPartsStay}
use Rattle.rules.proofs.Absurd.{none_some}
use Rattle.rules.proofs.Parts.{EachPart, EachElement, EachArgument, EachPiece, EachChild, top_part}
use Rattle.rules.proofs.AskedParts.{AsksOf, chain_asks, method_asks, property_asks}
use Rattle.rules.proofs.OldParts.{parts_made}

quasi_top : (q : Quasi) → at_place (quasi_tree q) [] ≡ Some (quasi_tree q)
quasi_top (Quasi.quasi l raw u) = refl

-- ---- what holds of whatever stands at a place holds of each part

module _ (P : Part → Type 0) where
  mutual
    pub standing : (x : Expression) → ((q : List ℕ) (p : Part) → at_place (tree_of x) q ≡ Some (part_tree p) → P p) → EachPart P x
    standing (Expression.string l u) h = h [] (Part.expression (Expression.string l u)) refl
    standing (Expression.number l n) h = h [] (Part.expression (Expression.number l n)) refl
    standing (Expression.boolean l b) h = h [] (Part.expression (Expression.boolean l b)) refl
    standing (Expression.null l) h = h [] (Part.expression (Expression.null l)) refl
    standing (Expression.name l u) h = h [] (Part.expression (Expression.name l u)) refl
    standing (Expression.array l xs) h = (h [] (Part.expression (Expression.array l xs)) refl, elements_standing xs (λ i q. h (i ∷ q)))
    standing (Expression.static_member l x k) h = (h [] (Part.expression (Expression.static_member l x k)) refl, standing x (λ q. h (zero ∷ q)))
    standing (Expression.computed_member l x k) h =
        (h [] (Part.expression (Expression.computed_member l x k)) refl, standing x (λ q. h (zero ∷ q)), standing k (λ q. h (suc zero ∷ q)))
    standing (Expression.call l f xs) h = (h [] (Part.expression (Expression.call l f xs)) refl, standing f (λ q. h (zero ∷ q)), arguments_standing xs (λ i q. h (suc i ∷ q)))
    standing (Expression.template l ps) h = (h [] (Part.expression (Expression.template l ps)) refl, pieces_standing ps (λ i q. h (i ∷ q)))
    standing (Expression.unary l o x) h = (h [] (Part.expression (Expression.unary l o x)) refl, standing x (λ q. h (zero ∷ q)))
    standing (Expression.binary l o x y) h =
        (h [] (Part.expression (Expression.binary l o x y)) refl, standing x (λ q. h (zero ∷ q)), standing y (λ q. h (suc zero ∷ q)))
    standing (Expression.opaque l f m xs) h = (h [] (Part.expression (Expression.opaque l f m xs)) refl, children_standing xs (λ i q. h (i ∷ q)))

    elements_standing : (xs : Elements) → ((i : ℕ) (q : List ℕ) (p : Part) → among (element_trees xs) i q ≡ Some (part_tree p) → P p) → EachElement P xs
    elements_standing Elements.no_elements h = tt
    elements_standing (Elements.item x xs) h = (standing x (λ q. h zero q), elements_standing xs (λ i q. h (suc i) q))
    elements_standing (Elements.hole l xs) h = (h zero [] (Part.hole l) refl, elements_standing xs (λ i q. h (suc i) q))
    elements_standing (Elements.spread l x xs) h = (h zero [] (Part.spread l x) refl, standing x (λ q. h zero (zero ∷ q)), elements_standing xs (λ i q. h (suc i) q))

    arguments_standing : (xs : Arguments) → ((i : ℕ) (q : List ℕ) (p : Part) → among (argument_trees xs) i q ≡ Some (part_tree p) → P p) → EachArgument P xs
    arguments_standing Arguments.no_arguments h = tt
    arguments_standing (Arguments.argument x xs) h = (standing x (λ q. h zero q), arguments_standing xs (λ i q. h (suc i) q))
    arguments_standing (Arguments.spread_argument l x xs) h =
        (h zero [] (Part.spread l x) refl, standing x (λ q. h zero (zero ∷ q)), arguments_standing xs (λ i q. h (suc i) q))

    pieces_standing : (ps : Pieces) → ((i : ℕ) (q : List ℕ) (p : Part) → among (piece_trees ps) i q ≡ Some (part_tree p) → P p) → EachPiece P ps
    pieces_standing (Pieces.last q) h = h zero [] (Part.quasi q) (quasi_top q)
    pieces_standing (Pieces.piece q x ps) h = (h zero [] (Part.quasi q) (quasi_top q), standing x (λ q. h (suc zero) q), pieces_standing ps (λ i q. h (suc (suc i)) q))

    children_standing : (xs : Children) → ((i : ℕ) (q : List ℕ) (p : Part) → among (child_trees xs) i q ≡ Some (part_tree p) → P p) → EachChild P xs
    children_standing Children.no_children h = tt
    children_standing (Children.child x xs) h = (standing x (λ q. h zero q), children_standing xs (λ i q. h (suc i) q))

-- ---- and the other way round

module _ (Q : Tree → Type 0) where
  abbrev Tells : Part → Type 0
  Tells p = Q (part_tree p)

  at_top : (s t : Tree) → at_place s [] ≡ Some t → Q s → Q t
  at_top s t e h =
      let f : Some s ≡ Some t = sym (place_top s) ∙ e in
      let g : s ≡ t = cc in
      subst Q g h

  at_leaf : (l : ℕ) (o : Own) (q : List ℕ) (t : Tree) → at_place (tree l o none) q ≡ Some t → Q (tree l o none) → Q t
  at_leaf l o [] t e h = at_top (tree l o none) t e h
  at_leaf l o (i ∷ q) t e h = none_some e

  at_quasi : (q : Quasi) (p : List ℕ) (t : Tree) → at_place (quasi_tree q) p ≡ Some t → Q (quasi_tree q) → Q t
  at_quasi (Quasi.quasi l raw u) p t e h = at_leaf l _ p t e h

  mutual
    pub stood : (x : Expression) (q : List ℕ) (t : Tree) → at_place (tree_of x) q ≡ Some t → EachPart Tells x → Q t
    stood x [] t e h = at_top (tree_of x) t e (top_part Tells x h)
    stood (Expression.string l u) (i ∷ q) t e h = none_some e
    stood (Expression.number l n) (i ∷ q) t e h = none_some e
    stood (Expression.boolean l b) (i ∷ q) t e h = none_some e
    stood (Expression.null l) (i ∷ q) t e h = none_some e
    stood (Expression.name l u) (i ∷ q) t e h = none_some e
    stood (Expression.array l xs) (i ∷ q) t e h = elements_stood xs i q t e h.1
    stood (Expression.static_member l x k) (zero ∷ q) t e h = stood x q t e h.1
    stood (Expression.static_member l x k) (suc i ∷ q) t e h = none_some e
    stood (Expression.computed_member l x k) (zero ∷ q) t e h = stood x q t e h.1
    stood (Expression.computed_member l x k) (suc zero ∷ q) t e h = stood k q t e h.2
    stood (Expression.computed_member l x k) (suc (suc i) ∷ q) t e h = none_some e
    stood (Expression.call l f xs) (zero ∷ q) t e h = stood f q t e h.1
    stood (Expression.call l f xs) (suc i ∷ q) t e h = arguments_stood xs i q t e h.2
    stood (Expression.template l ps) (i ∷ q) t e h = pieces_stood ps i q t e h.1
    stood (Expression.unary l o x) (zero ∷ q) t e h = stood x q t e h.1
    stood (Expression.unary l o x) (suc i ∷ q) t e h = none_some e
    stood (Expression.binary l o x y) (zero ∷ q) t e h = stood x q t e h.1
    stood (Expression.binary l o x y) (suc zero ∷ q) t e h = stood y q t e h.2
    stood (Expression.binary l o x y) (suc (suc i) ∷ q) t e h = none_some e
    stood (Expression.opaque l f m xs) (i ∷ q) t e h = children_stood xs i q t e h.1

    elements_stood : (xs : Elements) (i : ℕ) (q : List ℕ) (t : Tree) → among (element_trees xs) i q ≡ Some t → EachElement Tells xs → Q t
    elements_stood Elements.no_elements i q t e h = none_some e
    elements_stood (Elements.item x xs) zero q t e h = stood x q t e h.0
    elements_stood (Elements.item x xs) (suc i) q t e h = elements_stood xs i q t e h.1
    elements_stood (Elements.hole l xs) zero q t e h = at_leaf l Own.hole q t e h.0
    elements_stood (Elements.hole l xs) (suc i) q t e h = elements_stood xs i q t e h.1
    elements_stood (Elements.spread l x xs) zero [] t e h = at_top (tree l Own.spread (more (tree_of x) none)) t e h.0
    elements_stood (Elements.spread l x xs) zero (zero ∷ q) t e h = stood x q t e h.1
    elements_stood (Elements.spread l x xs) zero (suc j ∷ q) t e h = none_some e
    elements_stood (Elements.spread l x xs) (suc i) q t e h = elements_stood xs i q t e h.2

    arguments_stood : (xs : Arguments) (i : ℕ) (q : List ℕ) (t : Tree) → among (argument_trees xs) i q ≡ Some t → EachArgument Tells xs → Q t
    arguments_stood Arguments.no_arguments i q t e h = none_some e
    arguments_stood (Arguments.argument x xs) zero q t e h = stood x q t e h.0
    arguments_stood (Arguments.argument x xs) (suc i) q t e h = arguments_stood xs i q t e h.1
    arguments_stood (Arguments.spread_argument l x xs) zero [] t e h = at_top (tree l Own.spread (more (tree_of x) none)) t e h.0
    arguments_stood (Arguments.spread_argument l x xs) zero (zero ∷ q) t e h = stood x q t e h.1
    arguments_stood (Arguments.spread_argument l x xs) zero (suc j ∷ q) t e h = none_some e
    arguments_stood (Arguments.spread_argument l x xs) (suc i) q t e h = arguments_stood xs i q t e h.2

    pieces_stood : (ps : Pieces) (i : ℕ) (q : List ℕ) (t : Tree) → among (piece_trees ps) i q ≡ Some t → EachPiece Tells ps → Q t
    pieces_stood (Pieces.last s) zero q t e h = at_quasi s q t e h
    pieces_stood (Pieces.last s) (suc i) q t e h = none_some e
    pieces_stood (Pieces.piece s x ps) zero q t e h = at_quasi s q t e h.0
    pieces_stood (Pieces.piece s x ps) (suc zero) q t e h = stood x q t e h.1
    pieces_stood (Pieces.piece s x ps) (suc (suc i)) q t e h = pieces_stood ps i q t e h.2

    children_stood : (xs : Children) (i : ℕ) (q : List ℕ) (t : Tree) → among (child_trees xs) i q ≡ Some t → EachChild Tells xs → Q t
    children_stood Children.no_children i q t e h = none_some e
    children_stood (Children.child x xs) zero q t e h = stood x q t e h.0
    children_stood (Children.child x xs) (suc i) q t e h = children_stood xs i q t e h.1

-- ---- what is asked

parts_stand : (x : Expression) → EachPart (λ p. StandsIn (part_tree p) x) x
parts_stand x = standing (λ p. StandsIn (part_tree p) x) x (λ q p e. (q, e))

about_parts : (x : Expression) (a : Answers) (d : Deciding) → AsksOf (λ p. StandsIn (part_tree p) x) d → AllAbout x (asked a d)
unfolding asked
about_parts x a Deciding.keep h = tt
about_parts x a (Deciding.becomes y) h = tt
about_parts x a (Deciding.ask_effects p k) h = (h.0, about_parts x a (k (a.effects p)) (h.1 (a.effects p)))
about_parts x a (Deciding.ask_type p k) h = (h.0, about_parts x a (k (a.value_type p)) (h.1 (a.value_type p)))
about_parts x a (Deciding.ask_global p k) h = (h.0, about_parts x a (k (a.global p)) (h.1 (a.global p)))

pub only_parts : OnlyPartsAreAskedOf
only_parts a s next r x =
    let P = λ (p : Part). StandsIn (part_tree p) x in (
      about_parts x a _ (chain_asks P s next r x (parts_stand x)),
      about_parts x a _ (method_asks P s next r x (parts_stand x)),
      about_parts x a _ (property_asks P next r x (parts_stand x)),
    )

-- ---- what is old

module _ (next : ℕ) (x y : Expression) where
  abbrev OldHere : Tree → Type 0
  OldHere t = label t < next → StandsIn t x

  old_in : EachPart (λ p. OldHere (part_tree p)) y → OldIn next x y
  old_in h t s = stood OldHere y s.0 t s.1 h

pub old_stay : OldPartsStay
old_stay a s next r x y =
    let made =
    parts_made (λ p. OldHere next x y (part_tree p)) next (λ p le lt. absurd (omega arith)) a s r x y (standing (λ p. OldHere next x y (part_tree p)) x (λ q p e lt. (q, e)))
    in
    (λ e. old_in next x y (made.0 e), λ e. old_in next x y (made.1 e), λ e. old_in next x y (made.2 e))
