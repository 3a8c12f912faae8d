-- A replacement the other way round.
use Rattle.std.proofs.Common.{sym}
use Rattle.tree.specs.declared.node.FirstChild.{FirstChild}
use Rattle.meaning.specs.Expression.{Expression, Elements, Arguments, Pieces, Children}
use Rattle.meaning.specs.Replacing.{Swap, SwapElements, SwapArguments, SwapPieces, SwapChildren}

mutual
  pub swap_back : {old new : Expression} {b : FirstChild} {x y : Expression} → Swap old new b x y → Swap new old b y x
  swap_back Swap.here = Swap.here
  swap_back (Swap.here_referred p q) = Swap.here_referred q p
  swap_back (Swap.here_itself e) = Swap.here_itself (sym e)
  swap_back (Swap.in_array d) = Swap.in_array (elements_back d)
  swap_back (Swap.in_static d) = Swap.in_static (swap_back d)
  swap_back (Swap.in_object d) = Swap.in_object (swap_back d)
  swap_back (Swap.in_key d) = Swap.in_key (swap_back d)
  swap_back (Swap.in_callee d) = Swap.in_callee (swap_back d)
  swap_back (Swap.in_arguments d) = Swap.in_arguments (arguments_back d)
  swap_back (Swap.in_template d) = Swap.in_template (pieces_back d)
  swap_back (Swap.in_unary d) = Swap.in_unary (swap_back d)
  swap_back (Swap.in_left d) = Swap.in_left (swap_back d)
  swap_back (Swap.in_right d) = Swap.in_right (swap_back d)
  swap_back (Swap.in_opaque d) = Swap.in_opaque (children_back d)

  elements_back : {old new : Expression} {x y : Elements} → SwapElements old new x y → SwapElements new old y x
  elements_back (SwapElements.past_hole d) = SwapElements.past_hole (elements_back d)
  elements_back (SwapElements.past_spread d) = SwapElements.past_spread (elements_back d)
  elements_back (SwapElements.past_item d) = SwapElements.past_item (elements_back d)
  elements_back (SwapElements.in_spread d) = SwapElements.in_spread (swap_back d)
  elements_back (SwapElements.in_item d) = SwapElements.in_item (swap_back d)

  arguments_back : {old new : Expression} {x y : Arguments} → SwapArguments old new x y → SwapArguments new old y x
  arguments_back (SwapArguments.past_spread_argument d) = SwapArguments.past_spread_argument (arguments_back d)
  arguments_back (SwapArguments.past_argument d) = SwapArguments.past_argument (arguments_back d)
  arguments_back (SwapArguments.in_spread_argument d) = SwapArguments.in_spread_argument (swap_back d)
  arguments_back (SwapArguments.in_argument d) = SwapArguments.in_argument (swap_back d)

  pieces_back : {old new : Expression} {x y : Pieces} → SwapPieces old new x y → SwapPieces new old y x
  pieces_back (SwapPieces.past_piece d) = SwapPieces.past_piece (pieces_back d)
  pieces_back (SwapPieces.in_piece d) = SwapPieces.in_piece (swap_back d)

  children_back : {old new : Expression} {b : FirstChild} {x y : Children} → SwapChildren old new b x y → SwapChildren new old b y x
  children_back (SwapChildren.past_child d) = SwapChildren.past_child (children_back d)
  children_back (SwapChildren.in_child d) = SwapChildren.in_child (swap_back d)
