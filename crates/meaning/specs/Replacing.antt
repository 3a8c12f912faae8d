-- Replacing one expression by another at one place. ("No section" below says that ECMA-262 has no such notion.)
use Rattle.std.specs.Prelude.{◌≡◌, ℕ}
use Rattle.tree.specs.declared.node.UnaryOperator.{UnaryOperator}
use Rattle.tree.specs.declared.node.BinaryOperator.{BinaryOperator}
use Rattle.tree.specs.declared.node.FirstChild.{FirstChild}
use Rattle.meaning.specs.Expression.{Expression, Elements, Arguments, Pieces, Children, Quasi, Units, NoMember}
use Rattle.meaning.specs.World.{World, ValueIn, Result}
use Rattle.meaning.specs.Runs.{Runs, Calm}

-- Two expressions have the same runs both ways, and what is calm of the first is calm of the second. (No section.)
pub record Keeps (w : World) (x y : Expression) : Type 0 where
  pub forth : (s : w.State) (r : Result (ValueIn w)) (t : w.State) → Runs w x s r t → Runs w y s r t
  pub back : (s : w.State) (r : Result (ValueIn w)) (t : w.State) → Runs w y s r t → Runs w x s r t
  pub stays_calm : (s : w.State) (v : ValueIn w) → Calm w x s v → Calm w y s v

mutual
  -- The second expression is the first with `old` replaced by `new` at one place. The flag says how the whole is taken:
  -- for its value, or as a reference, as a callee is and the first child of some opaque expressions. What is taken as a
  -- reference may be replaced where neither is a member, or both are the same. (No section.)
  pub data Swap (old new : Expression) : FirstChild → Expression → Expression → Type 0 where
    here : Swap old new FirstChild.Value old new
    here_referred : NoMember old → NoMember new → Swap old new FirstChild.Reference old new
    here_itself : old ≡ new → Swap old new FirstChild.Reference old new
    in_array : {l : ℕ} {b : FirstChild} {xs ys : Elements} → SwapElements old new xs ys → Swap old new b (Expression.array l xs) (Expression.array l ys)
    in_static : {l : ℕ} {b : FirstChild} {x y : Expression} {p : Units} → Swap old new FirstChild.Value x y → Swap old new b (Expression.static_member l x p) (Expression.static_member l y p)
    in_object : {l : ℕ} {b : FirstChild} {x y k : Expression} → Swap old new FirstChild.Value x y → Swap old new b (Expression.computed_member l x k) (Expression.computed_member l y k)
    in_key : {l : ℕ} {b : FirstChild} {x y o : Expression} → Swap old new FirstChild.Value x y → Swap old new b (Expression.computed_member l o x) (Expression.computed_member l o y)
    in_callee : {l : ℕ} {b : FirstChild} {x y : Expression} {xs : Arguments} → Swap old new FirstChild.Reference x y → Swap old new b (Expression.call l x xs) (Expression.call l y xs)
    in_arguments : {l : ℕ} {b : FirstChild} {f : Expression} {xs ys : Arguments} → SwapArguments old new xs ys → Swap old new b (Expression.call l f xs) (Expression.call l f ys)
    in_template : {l : ℕ} {b : FirstChild} {xs ys : Pieces} → SwapPieces old new xs ys → Swap old new b (Expression.template l xs) (Expression.template l ys)
    in_unary : {l : ℕ} {b : FirstChild} {o : UnaryOperator} {x y : Expression} → Swap old new FirstChild.Value x y → Swap old new b (Expression.unary l o x) (Expression.unary l o y)
    in_left : {l : ℕ} {b : FirstChild} {o : BinaryOperator} {x y z : Expression} → Swap old new FirstChild.Value x y → Swap old new b (Expression.binary l o x z) (Expression.binary l o y z)
    in_right : {l : ℕ} {b : FirstChild} {o : BinaryOperator} {x y z : Expression} → Swap old new FirstChild.Value x y → Swap old new b (Expression.binary l o z x) (Expression.binary l o z y)
    in_opaque : {l : ℕ} {b f : FirstChild} {m : ℕ} {xs ys : Children} → SwapChildren old new f xs ys → Swap old new b (Expression.opaque l f m xs) (Expression.opaque l f m ys)

  -- The same among elements, arguments, pieces and children. (No section.)
  pub data SwapElements (old new : Expression) : Elements → Elements → Type 0 where
    past_hole : {l : ℕ} {xs ys : Elements} → SwapElements old new xs ys → SwapElements old new (Elements.hole l xs) (Elements.hole l ys)
    past_spread : {l : ℕ} {z : Expression} {xs ys : Elements} → SwapElements old new xs ys → SwapElements old new (Elements.spread l z xs) (Elements.spread l z ys)
    past_item : {z : Expression} {xs ys : Elements} → SwapElements old new xs ys → SwapElements old new (Elements.item z xs) (Elements.item z ys)
    in_spread : {l : ℕ} {x y : Expression} {xs : Elements} → Swap old new FirstChild.Value x y → SwapElements old new (Elements.spread l x xs) (Elements.spread l y xs)
    in_item : {x y : Expression} {xs : Elements} → Swap old new FirstChild.Value x y → SwapElements old new (Elements.item x xs) (Elements.item y xs)

  pub data SwapArguments (old new : Expression) : Arguments → Arguments → Type 0 where
    past_spread_argument : {l : ℕ} {z : Expression} {xs ys : Arguments} → SwapArguments old new xs ys → SwapArguments old new (Arguments.spread_argument l z xs) (Arguments.spread_argument l z ys)
    past_argument : {z : Expression} {xs ys : Arguments} → SwapArguments old new xs ys → SwapArguments old new (Arguments.argument z xs) (Arguments.argument z ys)
    in_spread_argument : {l : ℕ} {x y : Expression} {xs : Arguments} → Swap old new FirstChild.Value x y → SwapArguments old new (Arguments.spread_argument l x xs) (Arguments.spread_argument l y xs)
    in_argument : {x y : Expression} {xs : Arguments} → Swap old new FirstChild.Value x y → SwapArguments old new (Arguments.argument x xs) (Arguments.argument y xs)

  pub data SwapPieces (old new : Expression) : Pieces → Pieces → Type 0 where
    past_piece : {q : Quasi} {z : Expression} {xs ys : Pieces} → SwapPieces old new xs ys → SwapPieces old new (Pieces.piece q z xs) (Pieces.piece q z ys)
    in_piece : {q : Quasi} {x y : Expression} {xs : Pieces} → Swap old new FirstChild.Value x y → SwapPieces old new (Pieces.piece q x xs) (Pieces.piece q y xs)

  pub data SwapChildren (old new : Expression) : FirstChild → Children → Children → Type 0 where
    past_child : {b : FirstChild} {z : Expression} {xs ys : Children} → SwapChildren old new FirstChild.Value xs ys → SwapChildren old new b (Children.child z xs) (Children.child z ys)
    in_child : {b : FirstChild} {x y : Expression} {xs : Children} → Swap old new b x y → SwapChildren old new b (Children.child x xs) (Children.child y xs)
