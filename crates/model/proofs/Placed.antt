-- What holds of whatever stands at a place of a payoff's tree holds of each part of the payoff.
use Rattle.std.proofs.Common.{◌≡◌, ℕ, zero, suc, List, [], ◌∷◌, Some, refl}
use Rattle.tree.specs.Tree.{at_place, among}
use Rattle.meaning.specs.Expression.{Expression, Elements, Arguments, Quasi, Pieces, Children}
use Rattle.meaning.specs.Trees.{tree_of, element_trees, argument_trees, piece_trees, child_trees}
use Rattle.meaning.specs.Parts.{Part, part_tree}
use Rattle.meaning.specs.Payoffs.{Spelled, SpelledElements, SpelledArguments, SpelledPieces, SpelledChildren}
use Rattle.rules.proofs.Parts.{EachPart, EachElement, EachArgument, EachPiece, EachChild}
use Rattle.model.specs.Hosts.{SpelledPart}

quasi_top : (q : Quasi) → at_place (part_tree (Part.quasi q)) [] ≡ Some (part_tree (Part.quasi q))
quasi_top (Quasi.quasi l raw u) = refl

module _ (P : Part → Type 0) where
  mutual
    pub placed : (x : Expression) → Spelled x → ((q : List ℕ) (p : Part) → SpelledPart p → at_place (tree_of x) q ≡ Some (part_tree p) → P p) → EachPart P x
    placed (Expression.string l u) s h = h [] (Part.expression (Expression.string l u)) s refl
    placed (Expression.number l n) s h = h [] (Part.expression (Expression.number l n)) s refl
    placed (Expression.boolean l b) s h = h [] (Part.expression (Expression.boolean l b)) s refl
    placed (Expression.null l) s h = h [] (Part.expression (Expression.null l)) s refl
    placed (Expression.name l u) s h = h [] (Part.expression (Expression.name l u)) s refl
    placed (Expression.array l xs) s h = (h [] (Part.expression (Expression.array l xs)) s refl, elements_placed xs s (λ i q. h (i ∷ q)))
    placed (Expression.static_member l x k) s h = (h [] (Part.expression (Expression.static_member l x k)) s refl, placed x s.0 (λ q. h (zero ∷ q)))
    placed (Expression.computed_member l x k) s h =
        (h [] (Part.expression (Expression.computed_member l x k)) s refl, placed x s.0 (λ q. h (zero ∷ q)), placed k s.1 (λ q. h (suc zero ∷ q)))
    placed (Expression.call l f xs) s h =
        (h [] (Part.expression (Expression.call l f xs)) s refl, placed f s.0 (λ q. h (zero ∷ q)), arguments_placed xs s.1 (λ i q. h (suc i ∷ q)))
    placed (Expression.template l ps) s h = (h [] (Part.expression (Expression.template l ps)) s refl, pieces_placed ps s (λ i q. h (i ∷ q)))
    placed (Expression.unary l o x) s h = (h [] (Part.expression (Expression.unary l o x)) s refl, placed x s (λ q. h (zero ∷ q)))
    placed (Expression.binary l o x y) s h =
        (h [] (Part.expression (Expression.binary l o x y)) s refl, placed x s.0 (λ q. h (zero ∷ q)), placed y s.1 (λ q. h (suc zero ∷ q)))
    placed (Expression.opaque l f m xs) s h = (h [] (Part.expression (Expression.opaque l f m xs)) s refl, children_placed xs s (λ i q. h (i ∷ q)))

    elements_placed : (xs : Elements) → SpelledElements xs → ((i : ℕ) (q : List ℕ) (p : Part) → SpelledPart p → among (element_trees xs) i q ≡ Some (part_tree p) → P p) → EachElement P xs
    elements_placed Elements.no_elements s h = tt
    elements_placed (Elements.item x xs) s h = (placed x s.0 (λ q. h zero q), elements_placed xs s.1 (λ i q. h (suc i) q))
    elements_placed (Elements.hole l xs) s h = (h zero [] (Part.hole l) tt refl, elements_placed xs s (λ i q. h (suc i) q))
    elements_placed (Elements.spread l x xs) s h =
        (h zero [] (Part.spread l x) s.0 refl, placed x s.0 (λ q. h zero (zero ∷ q)), elements_placed xs s.1 (λ i q. h (suc i) q))

    arguments_placed : (xs : Arguments) → SpelledArguments xs → ((i : ℕ) (q : List ℕ) (p : Part) → SpelledPart p → among (argument_trees xs) i q ≡ Some (part_tree p) → P p) → EachArgument P xs
    arguments_placed Arguments.no_arguments s h = tt
    arguments_placed (Arguments.argument x xs) s h = (placed x s.0 (λ q. h zero q), arguments_placed xs s.1 (λ i q. h (suc i) q))
    arguments_placed (Arguments.spread_argument l x xs) s h =
        (h zero [] (Part.spread l x) s.0 refl, placed x s.0 (λ q. h zero (zero ∷ q)), arguments_placed xs s.1 (λ i q. h (suc i) q))

    pieces_placed : (ps : Pieces) → SpelledPieces ps → ((i : ℕ) (q : List ℕ) (p : Part) → SpelledPart p → among (piece_trees ps) i q ≡ Some (part_tree p) → P p) → EachPiece P ps
    pieces_placed (Pieces.last q) s h = h zero [] (Part.quasi q) s (quasi_top q)
    pieces_placed (Pieces.piece q x ps) s h =
        (h zero [] (Part.quasi q) s.0 (quasi_top q), placed x s.1 (λ q. h (suc zero) q), pieces_placed ps s.2 (λ i q. h (suc (suc i)) q))

    children_placed : (xs : Children) → SpelledChildren xs → ((i : ℕ) (q : List ℕ) (p : Part) → SpelledPart p → among (child_trees xs) i q ≡ Some (part_tree p) → P p) → EachChild P xs
    children_placed Children.no_children s h = tt
    children_placed (Children.child x xs) s h = (placed x s.0 (λ q. h zero q), children_placed xs s.1 (λ i q. h (suc i) q))
