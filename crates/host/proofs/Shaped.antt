-- What the structural host says is true.
use Rattle.std.proofs.Common.{◌≡◌, ℕ, Bool, true, false, not, List, refl, sym, subst}
use Rattle.std.proofs.lemmas.Bool.{and_parts}
use Rattle.tree.specs.declared.node.UnaryOperator.TheVariants.{Plus, Minus, Void}
use Rattle.tree.specs.Tree.{own_of, below}
use Rattle.meaning.specs.Expression.{Expression, Elements, Quasi}
use Rattle.meaning.specs.Trees.{tree_of, element_trees}
use Rattle.meaning.specs.World.{World, ValueIn, SlotsIn, Result, undefined_value}
use Rattle.meaning.specs.Acts.{Act, Returns, Then, Settles, Mode, Watched, Still}
use Rattle.meaning.specs.Coercion.{unary_result}
use Rattle.meaning.specs.Runs.{Calm, mean, elements}
use Rattle.meaning.specs.Parts.{Part, part_tree}
use Rattle.host.specs.declared.value_type.ValueType.TheVariants.{Undefined}
use Rattle.host.specs.Answers.{Question}
use Rattle.host.specs.Truth.{OfType, HasType, WithoutEffects, IsTheLanguagesOwn}
use Rattle.host.specs.Structural.{is_literal_or_hole, is_free_of_effects, type_of, is_global, all_literals_or_holes}
use Rattle.host.specs.Laws.{Complete, TheStructuralHostIsTrue}
use Rattle.host.proofs.Named.{own_read}
use Rattle.host.proofs.Knowing.{false_true, any_value}

calmly : {S A : Type 0} {m : Act S A} {s : S} {a : A} → m s (Result.gives a) s → Watched S A m Mode.calm s (Result.gives a) s
calmly d = Watched.calmly d Still.still

module _ (w : World) where
  literal_calm : (x : Expression) → is_literal_or_hole (own_of (tree_of x)) ≡ true → (s : w.State) → (v : ValueIn w) × Calm w x s v
  unfolding mean
  literal_calm (Expression.string _ _) e s = (_, calmly Returns.returns)
  literal_calm (Expression.number _ _) e s = (_, calmly Returns.returns)
  literal_calm (Expression.boolean _ _) e s = (_, calmly Returns.returns)
  literal_calm (Expression.null _) e s = (_, calmly Returns.returns)
  literal_calm (Expression.name _ _) e s = false_true e
  literal_calm (Expression.array _ _) e s = false_true e
  literal_calm (Expression.static_member _ _ _) e s = false_true e
  literal_calm (Expression.computed_member _ _ _) e s = false_true e
  literal_calm (Expression.call _ _ _) e s = false_true e
  literal_calm (Expression.template _ _) e s = false_true e
  literal_calm (Expression.unary _ _ _) e s = false_true e
  literal_calm (Expression.binary _ _ _ _) e s = false_true e
  literal_calm (Expression.opaque _ _ _ _) e s = false_true e

  elements_calm : (xs : Elements) → all_literals_or_holes (element_trees xs) ≡ true → (s : w.State) → (vs : SlotsIn w) × elements w Mode.calm xs s (Result.gives vs) s
  unfolding mean
  elements_calm Elements.no_elements e s = (_, Returns.returns)
  elements_calm (Elements.hole _ xs) e s = let a = elements_calm xs e s in (_, Then.goes a.1 Returns.returns)
  elements_calm (Elements.spread _ x xs) e s = false_true e
  elements_calm (Elements.item x xs) e s =
      let i = and_parts (is_literal_or_hole (own_of (tree_of x))) (all_literals_or_holes (element_trees xs)) e in
      let a = literal_calm x i.0 s in
      let b = elements_calm xs i.1 s in
      (_, Then.goes a.1 (Then.goes b.1 Returns.returns))

  not_not : (b : Bool) → not b ≡ false → b ≡ true
  not_not true e = refl
  not_not false e = sym e

  expression_calm : (x : Expression) → is_free_of_effects (own_of (tree_of x)) (all_literals_or_holes (below (tree_of x))) ≡ true → (s : w.State) → (v : ValueIn w) × Calm w x s v
  unfolding mean
  expression_calm (Expression.string l u) e s = literal_calm (Expression.string l u) e s
  expression_calm (Expression.number l n) e s = literal_calm (Expression.number l n) e s
  expression_calm (Expression.boolean l b) e s = literal_calm (Expression.boolean l b) e s
  expression_calm (Expression.null l) e s = literal_calm (Expression.null l) e s
  expression_calm (Expression.name _ _) e s = false_true e
  expression_calm (Expression.array _ xs) e s = let a = elements_calm xs e s in (_, calmly (Then.goes a.1 Returns.returns))
  expression_calm (Expression.static_member _ _ _) e s = false_true e
  expression_calm (Expression.computed_member _ _ _) e s = false_true e
  expression_calm (Expression.call _ _ _) e s = false_true e
  expression_calm (Expression.template _ _) e s = false_true e
  expression_calm (Expression.unary _ _ _) e s = false_true e
  expression_calm (Expression.binary _ _ _ _) e s = false_true e
  expression_calm (Expression.opaque _ _ _ _) e s = false_true e

  effects_true : (p : Part) → is_free_of_effects (own_of (part_tree p)) (all_literals_or_holes (below (part_tree p))) ≡ true → WithoutEffects w p
  effects_true (Part.expression x) e = expression_calm x e
  effects_true (Part.hole _) e = tt
  effects_true (Part.spread _ x) e = false_true e
  effects_true (Part.quasi q) e = tt

  expression_typed : (x : Expression) → HasType w (type_of (own_of (tree_of x))) (Part.expression x)
  unfolding mean unary_result
  expression_typed (Expression.string _ _) s v t (Watched.freely Returns.returns) = (_, refl)
  expression_typed (Expression.number _ _) s v t (Watched.freely Returns.returns) = (_, refl)
  expression_typed (Expression.boolean _ _) s v t (Watched.freely Returns.returns) = (_, refl)
  expression_typed (Expression.null _) s v t (Watched.freely Returns.returns) = refl
  expression_typed (Expression.array _ _) s v t (Watched.freely (Then.goes d Returns.returns)) = tt
  expression_typed (Expression.template _ _) s v t (Watched.freely (Then.goes d Returns.returns)) = (_, refl)
  expression_typed (Expression.unary _ Plus _) s v t d = any_value w v
  expression_typed (Expression.unary _ Minus _) s v t d = any_value w v
  expression_typed (Expression.unary _ Void _) s v t (Watched.freely (Then.goes d (Settles.settles e))) = let i : undefined_value w ≡ v = cc in subst (OfType w Undefined) i refl
  expression_typed (Expression.name _ _) s v t d = any_value w v
  expression_typed (Expression.static_member _ _ _) s v t d = any_value w v
  expression_typed (Expression.computed_member _ _ _) s v t d = any_value w v
  expression_typed (Expression.call _ _ _) s v t d = any_value w v
  expression_typed (Expression.binary _ _ _ _) s v t d = any_value w v
  expression_typed (Expression.opaque _ _ _ _) s v t d = any_value w v

  type_true : (p : Part) → HasType w (type_of (own_of (part_tree p))) p
  type_true (Part.expression x) = expression_typed x
  type_true (Part.hole _) = tt
  type_true (Part.spread _ x) = tt
  type_true (Part.quasi q) = tt

module _ (w : World) (bound : List (List ℕ)) (complete : Complete w bound) where
  expression_own : (x : Expression) → is_global bound (own_of (tree_of x)) ≡ true → IsTheLanguagesOwn w (Part.expression x)
  expression_own (Expression.name l u) e = (l, u, refl, own_read w bound complete u e)
  expression_own (Expression.string _ _) e = false_true e
  expression_own (Expression.number _ _) e = false_true e
  expression_own (Expression.boolean _ _) e = false_true e
  expression_own (Expression.null _) e = false_true e
  expression_own (Expression.array _ _) e = false_true e
  expression_own (Expression.static_member _ _ _) e = false_true e
  expression_own (Expression.computed_member _ _ _) e = false_true e
  expression_own (Expression.call _ _ _) e = false_true e
  expression_own (Expression.template _ _) e = false_true e
  expression_own (Expression.unary _ _ _) e = false_true e
  expression_own (Expression.binary _ _ _ _) e = false_true e
  expression_own (Expression.opaque _ _ _ _) e = false_true e

  global_true : (p : Part) → is_global bound (own_of (part_tree p)) ≡ true → IsTheLanguagesOwn w p
  global_true (Part.expression x) e = expression_own x e
  global_true (Part.hole _) e = false_true e
  global_true (Part.spread _ x) e = false_true e
  global_true (Part.quasi (Quasi.quasi _ raw cooked)) e = false_true e

pub structural_true : (w : World) → TheStructuralHostIsTrue w
structural_true w bound h (Question.effects p) = λ e. effects_true w p (not_not w _ e)
structural_true w bound h (Question.value_type p) = type_true w p
structural_true w bound h (Question.global p) = global_true w bound h p
