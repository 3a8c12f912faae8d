-- The sizes of what the rules build, and of a whole with a smaller part.
use Rattle.std.proofs.Common.{◌≡◌, ℕ, suc, ◌+◌, ◌*◌, ◌<◌, ◌≤◌, List, [], ◌∷◌, ◌++◌, length, Some, None, Option, refl, ap, arith}
use Rattle.tree.specs.declared.node.FirstChild.{FirstChild}
use Rattle.meaning.specs.Expression.{Expression, Elements, Arguments, Quasi, Pieces, Children, Units}
use Rattle.meaning.specs.Replacing.{Swap, SwapElements, SwapArguments, SwapPieces, SwapChildren}
use Rattle.rules.specs.Building.{elements_of, append_elements, append_arguments, text_of, add_piece, pieces_of, template_of, with_object, flat}
use Rattle.rules.specs.Takes.{Takes}
use Rattle.rules.specs.Indexed.{UnitAt, ElementAt}
use Rattle.rules.specs.MethodBecomes.{Method}
use Rattle.rules.specs.ChainBecomes.{Calls}
use Rattle.rules.specs.Size.{size, elements_size, arguments_size, pieces_size, children_size}
use Rattle.rules.specs.Laws.{ASmallerPartMakesTheWholeSmaller}

module _ (old new : Expression) (h : size new < size old) where
  mutual
    unfolding size

    smaller : {b : FirstChild} {x y : Expression} → Swap old new b x y → size y < size x
    smaller Swap.here = h
    smaller (Swap.here_referred p q) = h
    smaller (Swap.here_itself e) = h
    smaller (Swap.in_array d) = smaller_elements d
    smaller (Swap.in_static d) = let i = smaller d in omega arith
    smaller (Swap.in_object d) = let i = smaller d in omega arith
    smaller (Swap.in_key d) = let i = smaller d in omega arith
    smaller (Swap.in_callee d) = let i = smaller d in omega arith
    smaller (Swap.in_arguments d) = let i = smaller_arguments d in omega arith
    smaller (Swap.in_template d) = smaller_pieces d
    smaller (Swap.in_unary d) = smaller d
    smaller (Swap.in_left d) = let i = smaller d in omega arith
    smaller (Swap.in_right d) = let i = smaller d in omega arith
    smaller (Swap.in_opaque d) = smaller_children d

    smaller_elements : {x y : Elements} → SwapElements old new x y → elements_size y < elements_size x
    smaller_elements (SwapElements.past_hole d) = smaller_elements d
    smaller_elements (SwapElements.past_spread d) = let i = smaller_elements d in omega arith
    smaller_elements (SwapElements.past_item d) = let i = smaller_elements d in omega arith
    smaller_elements (SwapElements.in_spread d) = let i = smaller d in omega arith
    smaller_elements (SwapElements.in_item d) = let i = smaller d in omega arith

    smaller_arguments : {x y : Arguments} → SwapArguments old new x y → arguments_size y < arguments_size x
    smaller_arguments (SwapArguments.past_spread_argument d) = let i = smaller_arguments d in omega arith
    smaller_arguments (SwapArguments.past_argument d) = let i = smaller_arguments d in omega arith
    smaller_arguments (SwapArguments.in_spread_argument d) = let i = smaller d in omega arith
    smaller_arguments (SwapArguments.in_argument d) = let i = smaller d in omega arith

    smaller_pieces : {x y : Pieces} → SwapPieces old new x y → pieces_size y < pieces_size x
    smaller_pieces (SwapPieces.past_piece d) = let i = smaller_pieces d in omega arith
    smaller_pieces (SwapPieces.in_piece d) = let i = smaller d in omega arith

    smaller_children : {b : FirstChild} {x y : Children} → SwapChildren old new b x y → children_size y < children_size x
    smaller_children (SwapChildren.past_child d) = let i = smaller_children d in omega arith
    smaller_children (SwapChildren.in_child d) = let i = smaller d in omega arith

pub whole_smaller : ASmallerPartMakesTheWholeSmaller
whole_smaller old new x y taken h d = smaller old new h d

pub elements_of_size : (xs : Arguments) → elements_size (elements_of xs) ≤ arguments_size xs
unfolding size elements_of
elements_of_size Arguments.no_arguments = omega arith
elements_of_size (Arguments.argument x xs) = let i = elements_of_size xs in omega arith
elements_of_size (Arguments.spread_argument l x xs) = let i = elements_of_size xs in omega arith

pieces_of_size : (n : ℕ) (q : Units) (xs : Arguments) → pieces_size (pieces_of n q xs) ≤ arguments_size xs
unfolding size pieces_of add_piece
pieces_of_size n q Arguments.no_arguments = omega arith
pieces_of_size n q (Arguments.spread_argument l x xs) = let i = pieces_of_size n q xs in omega arith
pieces_of_size n q (Arguments.argument x xs) = by (text_of x) (λ n p. pieces_of_size n p xs)
  where
    by : (o : Option Units) → ((n : ℕ) (p : Units) → pieces_size (pieces_of n p xs) ≤ arguments_size xs) → pieces_size (add_piece n q x (λ n p. pieces_of n p xs) o) ≤ 1 + size x + arguments_size xs
    by (Some u) h = let i = h n (q ++ u) in omega arith
    by None h = let i = h (suc n) [] in omega arith

template_of_size : (n : ℕ) (ps : Pieces) → size (template_of n ps) ≤ pieces_size ps
unfolding size template_of
template_of_size n (Pieces.last (Quasi.quasi l raw u)) = omega arith
template_of_size n (Pieces.piece q x ps) = omega arith

pub joined_size : (n : ℕ) (u : Units) (xs : Arguments) → size (template_of n (pieces_of n u xs)) ≤ arguments_size xs
joined_size n u xs = let i = template_of_size n (pieces_of n u xs) in let j = pieces_of_size n u xs in omega arith

pub append_elements_size : (xs ys : Elements) → elements_size (append_elements xs ys) ≡ elements_size xs + elements_size ys
unfolding size append_elements
append_elements_size Elements.no_elements ys = omega arith
append_elements_size (Elements.hole l xs) ys = append_elements_size xs ys
append_elements_size (Elements.spread l x xs) ys = let i = append_elements_size xs ys in omega arith
append_elements_size (Elements.item x xs) ys = let i = append_elements_size xs ys in omega arith

append_arguments_size : (xs ys : Arguments) → arguments_size (append_arguments xs ys) ≡ arguments_size xs + arguments_size ys
unfolding size append_arguments
append_arguments_size Arguments.no_arguments ys = omega arith
append_arguments_size (Arguments.spread_argument l x xs) ys = let i = append_arguments_size xs ys in omega arith
append_arguments_size (Arguments.argument x xs) ys = let i = append_arguments_size xs ys in omega arith

pub takes_size : {n : ℕ} {xs ys : Arguments} {es : Elements} → Takes n xs es ys → elements_size es + n + arguments_size ys ≡ arguments_size xs
unfolding size
takes_size (Takes.literal i t) = let j = takes_size t in omega arith
takes_size (Takes.array {fs = fs} {es = es} t) = let j = takes_size t in let k = append_elements_size fs es in omega arith
takes_size (Takes.at_other i) = omega arith
takes_size Takes.at_spread = omega arith
takes_size Takes.at_end = refl

pub object_size : {g o : Expression} {k : Units} → Method g o k → 1 + size o ≤ size g
unfolding size
object_size Method.static = omega arith
object_size Method.keyed = omega arith

pub with_object_size : (l : ℕ) {g o : Expression} {k : Units} → Method g o k → (y : Expression) → size (with_object l g y) + size o ≡ size g + size y
unfolding size with_object
with_object_size l Method.static y = omega arith
with_object_size l Method.keyed y = omega arith

pub unit_size : {n k : ℕ} {u : Units} {y : Expression} → UnitAt n u k y → size y ≡ 0
unfolding size
unit_size (UnitAt.unit e) = refl
unit_size (UnitAt.past_end e) = refl

pub element_size : {n k : ℕ} {xs : Elements} {y : Expression} → ElementAt n xs k y → size y ≤ elements_size xs
unfolding size
element_size ElementAt.item_here = omega arith
element_size ElementAt.hole_here = omega arith
element_size (ElementAt.past_item d) = let i = element_size d in omega arith
element_size (ElementAt.past_hole d) = let i = element_size d in omega arith

flat_longer : (xss : List Arguments) (xs : Arguments) → arguments_size (flat (xss ++ (xs ∷ []))) ≡ arguments_size (flat xss) + arguments_size xs
unfolding size flat
flat_longer [] xs = let i = append_arguments_size xs Arguments.no_arguments in omega arith
flat_longer (ys ∷ yss) xs =
    let i = append_arguments_size ys (flat (yss ++ (xs ∷ []))) in
    let j = append_arguments_size ys (flat yss) in
    let k = flat_longer yss xs in
    omega arith

length_longer : (xss : List Arguments) (xs : Arguments) → length (xss ++ (xs ∷ [])) ≡ suc (length xss)
length_longer [] xs = refl
length_longer (ys ∷ yss) xs = ap suc (length_longer yss xs)

-- of each call itself and its member, and the arguments
pub calls_size : {b : Expression} {m : ℕ} {x : Expression} {xss : List Arguments} → Calls b m x xss → size x ≡ size b + 2 * length xss + arguments_size (flat xss)
unfolding size flat
calls_size (Calls.innermost {xs = xs}) = let i = append_arguments_size xs Arguments.no_arguments in omega arith
calls_size (Calls.outer {xs = xs} {xss = xss} d) =
    let i = calls_size d in
    let j = flat_longer xss xs in
    let k = length_longer xss xs in
    omega arith
