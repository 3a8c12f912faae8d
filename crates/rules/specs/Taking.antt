-- What `concat` on an array literal takes in: leading literals, and the elements of leading array literals.
use Rattle.std.specs.Prelude.{ℕ, suc}
use Rattle.meaning.specs.Expression.{Expression, Elements, Arguments}
use Rattle.rules.specs.Building.{append_elements}

-- A literal, which joins the elements; an array literal, which gives up its elements; or anything else, at which taking
-- stops. oxc_minifier's `try_fold_concat`, by `is_literal`.
pub data Leading : Type 0 where
  literal : Leading
  gives : Elements → Leading
  other : Leading

-- Which of these an argument is. oxc_minifier's `try_fold_concat`.
unfoldable pub leading : Expression → Leading
leading (Expression.string l u) = Leading.literal
leading (Expression.number l n) = Leading.literal
leading (Expression.boolean l b) = Leading.literal
leading (Expression.null l) = Leading.literal
leading (Expression.array l xs) = Leading.gives xs
leading x = Leading.other

-- What one argument gives, and behind it what the later ones give. oxc_minifier's `try_fold_concat`, `append`.
unfoldable pub taken_with : Expression → Leading → Elements → Elements
taken_with x Leading.literal es = Elements.item x es
taken_with x (Leading.gives fs) es = append_elements fs es
taken_with x Leading.other es = Elements.no_elements

-- The elements that the leading arguments give. oxc_minifier's `try_fold_concat`, `append`.
unfoldable pub taken : Arguments → Elements
taken Arguments.no_arguments = Elements.no_elements
taken (Arguments.argument x xs) = taken_with x (leading x) (taken xs)
taken (Arguments.spread_argument l x xs) = Elements.no_elements

-- An argument and the later ones, or what is left of those. oxc_minifier's `try_fold_concat`, `drain`.
unfoldable pub left_with : Expression → Leading → Arguments → Arguments → Arguments
left_with x Leading.literal xs ys = ys
left_with x (Leading.gives fs) xs ys = ys
left_with x Leading.other xs ys = Arguments.argument x xs

-- The arguments that are left. oxc_minifier's `try_fold_concat`, `drain`.
unfoldable pub left : Arguments → Arguments
left Arguments.no_arguments = Arguments.no_arguments
left (Arguments.argument x xs) = left_with x (leading x) xs (left xs)
left (Arguments.spread_argument l x xs) = Arguments.spread_argument l x xs

-- One more, or none from here on. oxc_minifier's `try_fold_concat`, `can_merge_until`.
unfoldable pub taken_count_with : Leading → ℕ → ℕ
taken_count_with Leading.literal n = suc n
taken_count_with (Leading.gives fs) n = suc n
taken_count_with Leading.other n = 0

-- How many arguments are taken in. oxc_minifier's `try_fold_concat`, `can_merge_until`.
unfoldable pub taken_count : Arguments → ℕ
taken_count Arguments.no_arguments = 0
taken_count (Arguments.argument x xs) = taken_count_with (leading x) (taken_count xs)
taken_count (Arguments.spread_argument l x xs) = 0
