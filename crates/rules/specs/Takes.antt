-- Which leading arguments `concat` on an array literal takes in, as a relation.
use Rattle.std.specs.Prelude.{ℕ, zero, suc, Bool}
use Rattle.meaning.specs.Expression.{Expression, Elements, Arguments, Units}
use Rattle.rules.specs.Building.{append_elements}

-- A literal: a string, a number, a boolean or null. oxc_minifier's `is_literal`.
pub data IsLiteral : Expression → Type 0 where
  string : {l : ℕ} {u : Units} → IsLiteral (Expression.string l u)
  number : {l n : ℕ} → IsLiteral (Expression.number l n)
  boolean : {l : ℕ} {b : Bool} → IsLiteral (Expression.boolean l b)
  null : {l : ℕ} → IsLiteral (Expression.null l)

-- Neither a literal nor an array literal. oxc_minifier's `try_fold_concat`.
abbrev pub IsOther : Expression → Type 0
IsOther (Expression.string l u) = ⊥
IsOther (Expression.number l n) = ⊥
IsOther (Expression.boolean l b) = ⊥
IsOther (Expression.null l) = ⊥
IsOther (Expression.array l xs) = ⊥
IsOther x = Unit {0}

-- Of arguments so many leading ones are taken in, which give these elements, and these are left: a literal gives
-- itself, an array literal its elements, and the first other argument ends it. oxc_minifier's `try_fold_concat`.
pub data Takes : ℕ → Arguments → Elements → Arguments → Type 0 where
  literal : {n : ℕ} {x : Expression} {xs ys : Arguments} {es : Elements} → IsLiteral x → Takes n xs es ys → Takes (suc n) (Arguments.argument x xs) (Elements.item x es) ys
  array : {n l : ℕ} {fs es : Elements} {xs ys : Arguments} → Takes n xs es ys → Takes (suc n) (Arguments.argument (Expression.array l fs) xs) (append_elements fs es) ys
  at_other : {x : Expression} {xs : Arguments} → IsOther x → Takes zero (Arguments.argument x xs) Elements.no_elements (Arguments.argument x xs)
  at_spread : {l : ℕ} {x : Expression} {xs : Arguments} → Takes zero (Arguments.spread_argument l x xs) Elements.no_elements (Arguments.spread_argument l x xs)
  at_end : Takes zero Arguments.no_arguments Elements.no_elements Arguments.no_arguments
