-- Where one expression replaces another at one place, what holds of each part of the whole goes on to hold.
use Rattle.std.proofs.Common.{◌≡◌, refl}
use Rattle.tree.specs.declared.node.FirstChild.{FirstChild}
use Rattle.tree.specs.Tree.{label}
use Rattle.meaning.specs.Expression.{Expression, Elements, Arguments, Pieces, Children}
use Rattle.meaning.specs.Trees.{tree_of}
use Rattle.meaning.specs.Parts.{Part}
use Rattle.meaning.specs.World.{World}
use Rattle.meaning.specs.Replacing.{Keeps, Swap, SwapElements, SwapArguments, SwapPieces, SwapChildren}
use Rattle.meaning.proofs.Replacing.{alike}
use Rattle.rules.proofs.Parts.{EachPart, EachElement, EachArgument, EachPiece, EachChild}

-- ---- the parts of what is replaced are parts of the whole

module _ (P : Part → Type 0) (old new : Expression) where
  mutual
    pub parts_within : {b : FirstChild} {x y : Expression} → Swap old new b x y → EachPart P x → EachPart P old
    parts_within Swap.here h = h
    parts_within (Swap.here_referred n m) h = h
    parts_within (Swap.here_itself e) h = h
    parts_within (Swap.in_array d) h = elements_within d h.1
    parts_within (Swap.in_static d) h = parts_within d h.1
    parts_within (Swap.in_object d) h = parts_within d h.1
    parts_within (Swap.in_key d) h = parts_within d h.2
    parts_within (Swap.in_callee d) h = parts_within d h.1
    parts_within (Swap.in_arguments d) h = arguments_within d h.2
    parts_within (Swap.in_template d) h = pieces_within d h.1
    parts_within (Swap.in_unary d) h = parts_within d h.1
    parts_within (Swap.in_left d) h = parts_within d h.1
    parts_within (Swap.in_right d) h = parts_within d h.2
    parts_within (Swap.in_opaque d) h = children_within d h.1

    elements_within : {xs ys : Elements} → SwapElements old new xs ys → EachElement P xs → EachPart P old
    elements_within (SwapElements.past_hole d) h = elements_within d h.1
    elements_within (SwapElements.past_spread d) h = elements_within d h.2
    elements_within (SwapElements.past_item d) h = elements_within d h.1
    elements_within (SwapElements.in_spread d) h = parts_within d h.1
    elements_within (SwapElements.in_item d) h = parts_within d h.0

    arguments_within : {xs ys : Arguments} → SwapArguments old new xs ys → EachArgument P xs → EachPart P old
    arguments_within (SwapArguments.past_spread_argument d) h = arguments_within d h.2
    arguments_within (SwapArguments.past_argument d) h = arguments_within d h.1
    arguments_within (SwapArguments.in_spread_argument d) h = parts_within d h.1
    arguments_within (SwapArguments.in_argument d) h = parts_within d h.0

    pieces_within : {xs ys : Pieces} → SwapPieces old new xs ys → EachPiece P xs → EachPart P old
    pieces_within (SwapPieces.past_piece d) h = pieces_within d h.2
    pieces_within (SwapPieces.in_piece d) h = parts_within d h.1

    children_within : {b : FirstChild} {xs ys : Children} → SwapChildren old new b xs ys → EachChild P xs → EachPart P old
    children_within (SwapChildren.past_child d) h = children_within d h.1
    children_within (SwapChildren.in_child d) h = parts_within d h.0

-- ---- what is no name

abbrev pub NoName : Expression → Type 0
NoName (Expression.name l u) = ⊥
NoName x = Unit {0}

-- What holds of an expression that is no name, or of a spread, holds as well of one of the same number that does the
-- same.
pub record Lasts (w : World) (P : Part → Type 0) : Type 0 where
  pub stays : (x y : Expression) → label (tree_of x) ≡ label (tree_of y) → NoName x → Keeps w x y → P (Part.expression x) → P (Part.expression y)
  pub spread_stays : (l : _) (x y : Expression) → Keeps w x y → P (Part.spread l x) → P (Part.spread l y)

-- ---- the whole

module _ (w : World) (P : Part → Type 0) (lasts : Lasts w P) (old new : Expression) (keeps : Keeps w old new) (made : EachPart P new) where
  above : (x y : Expression) → label (tree_of x) ≡ label (tree_of y) → NoName x → Swap old new FirstChild.Value x y → P (Part.expression x) → P (Part.expression y)
  above x y e n d h = lasts.stays x y e n (alike w old new x y FirstChild.Value keeps d) h

  mutual
    pub parts_kept : {b : FirstChild} {x y : Expression} → Swap old new b x y → EachPart P x → EachPart P y
    parts_kept Swap.here h = made
    parts_kept (Swap.here_referred n m) h = made
    parts_kept (Swap.here_itself e) h = made
    parts_kept (Swap.in_array d) h = (above _ _ refl tt (Swap.in_array d) h.0, elements_kept d h.1)
    parts_kept (Swap.in_static d) h = (above _ _ refl tt (Swap.in_static d) h.0, parts_kept d h.1)
    parts_kept (Swap.in_object d) h = (above _ _ refl tt (Swap.in_object d) h.0, parts_kept d h.1, h.2)
    parts_kept (Swap.in_key d) h = (above _ _ refl tt (Swap.in_key d) h.0, h.1, parts_kept d h.2)
    parts_kept (Swap.in_callee d) h = (above _ _ refl tt (Swap.in_callee d) h.0, parts_kept d h.1, h.2)
    parts_kept (Swap.in_arguments d) h = (above _ _ refl tt (Swap.in_arguments d) h.0, h.1, arguments_kept d h.2)
    parts_kept (Swap.in_template d) h = (above _ _ refl tt (Swap.in_template d) h.0, pieces_kept d h.1)
    parts_kept (Swap.in_unary d) h = (above _ _ refl tt (Swap.in_unary d) h.0, parts_kept d h.1)
    parts_kept (Swap.in_left d) h = (above _ _ refl tt (Swap.in_left d) h.0, parts_kept d h.1, h.2)
    parts_kept (Swap.in_right d) h = (above _ _ refl tt (Swap.in_right d) h.0, h.1, parts_kept d h.2)
    parts_kept (Swap.in_opaque d) h = (above _ _ refl tt (Swap.in_opaque d) h.0, children_kept d h.1)

    elements_kept : {xs ys : Elements} → SwapElements old new xs ys → EachElement P xs → EachElement P ys
    elements_kept (SwapElements.past_hole d) h = (h.0, elements_kept d h.1)
    elements_kept (SwapElements.past_spread d) h = (h.0, h.1, elements_kept d h.2)
    elements_kept (SwapElements.past_item d) h = (h.0, elements_kept d h.1)
    elements_kept (SwapElements.in_spread d) h = (lasts.spread_stays _ _ _ (alike w old new _ _ FirstChild.Value keeps d) h.0, parts_kept d h.1, h.2)
    elements_kept (SwapElements.in_item d) h = (parts_kept d h.0, h.1)

    arguments_kept : {xs ys : Arguments} → SwapArguments old new xs ys → EachArgument P xs → EachArgument P ys
    arguments_kept (SwapArguments.past_spread_argument d) h = (h.0, h.1, arguments_kept d h.2)
    arguments_kept (SwapArguments.past_argument d) h = (h.0, arguments_kept d h.1)
    arguments_kept (SwapArguments.in_spread_argument d) h = (lasts.spread_stays _ _ _ (alike w old new _ _ FirstChild.Value keeps d) h.0, parts_kept d h.1, h.2)
    arguments_kept (SwapArguments.in_argument d) h = (parts_kept d h.0, h.1)

    pieces_kept : {xs ys : Pieces} → SwapPieces old new xs ys → EachPiece P xs → EachPiece P ys
    pieces_kept (SwapPieces.past_piece d) h = (h.0, h.1, pieces_kept d h.2)
    pieces_kept (SwapPieces.in_piece d) h = (h.0, parts_kept d h.1, h.2)

    children_kept : {b : FirstChild} {xs ys : Children} → SwapChildren old new b xs ys → EachChild P xs → EachChild P ys
    children_kept (SwapChildren.past_child d) h = (h.0, children_kept d h.1)
    children_kept (SwapChildren.in_child d) h = (parts_kept d h.0, h.1)
