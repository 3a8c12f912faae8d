-- What `replace_concat_chain` and `try_fold_concat` share: interleaving, counting and building a template, step by
-- step. New nodes have the number 0.
use Rattle.std.specs.Prelude.{ℕ, ◌+◌, ◌-◌, ◌*◌, Bool, true, false, cond, ◌&&◌, ◌||◌, List, [], ◌∷◌, ◌++◌, length, codes, nat_le}
use Rattle.template.specs.Escaped.{raw_of}
use Rattle.meaning.specs.Expression.{Expression, Arguments, Pieces, Quasi, Units}
use Rattle.meaning.specs.Parts.{Part}
use Rattle.host.specs.declared.value_type.ValueType.{ValueType}
use Rattle.host.specs.declared.value_type.ValueType.TheVariants.{Undetermined, Object}
use Rattle.host.specs.Answers.{Answers}

-- The arguments as `args.iter()` gives them, and collected again by `ArenaVec::from_iter_in`.
unfoldable pub iter : Arguments → List Part
iter Arguments.no_arguments = []
iter (Arguments.argument x xs) = Part.expression x ∷ iter xs
iter (Arguments.spread_argument l x xs) = Part.spread l x ∷ iter xs

unfoldable pub from_iter : List Part → Arguments
from_iter [] = Arguments.no_arguments
from_iter (Part.expression x ∷ ps) = Arguments.argument x (from_iter ps)
from_iter (Part.spread l x ∷ ps) = Arguments.spread_argument l x (from_iter ps)
from_iter (Part.hole l ∷ ps) = from_iter ps
from_iter (Part.quasi q ∷ ps) = from_iter ps

-- `matches!(argument.value_type(ctx), ValueType::Object | ValueType::Undetermined)`
unfoldable pub object_or_undetermined : ValueType → Bool
object_or_undetermined Object = true
object_or_undetermined Undetermined = true
object_or_undetermined t = false

-- `string_concat_can_interleave`: its loop, with `may_coerce_object`. What is no expression ends it.
unfoldable pub interleave_from : Answers → (may_coerce_object : Bool) → List Part → Bool
interleave_from a may [] = true
interleave_from a may (Part.expression x ∷ ps) =
    cond (may && a.effects (Part.expression x)) false (interleave_from a (may || object_or_undetermined (a.value_type (Part.expression x))) ps)
interleave_from a may (p ∷ ps) = false

abbrev pub string_concat_can_interleave : Answers → List Part → Bool
string_concat_can_interleave a ps = interleave_from a false ps

-- `string_concat_prefers_template`
unfoldable pub string_concat_prefers_template : (argument_count expression_count call_count : ℕ) → Bool
string_concat_prefers_template arguments expressions calls =
    nat_le (expressions * length (codes "${}")) (calls * length (codes ".concat()") + arguments + (arguments - expressions) * length (codes "''"))

-- `filter(|arg| !matches!(arg, Argument::StringLiteral(_))).count()`
unfoldable pub not_a_string : Part → ℕ
not_a_string (Part.expression (Expression.string l u)) = 0
not_a_string p = 1

unfoldable pub expression_count : List Part → ℕ
expression_count [] = 0
expression_count (p ∷ ps) = not_a_string p + expression_count ps

-- `fold_string_concat`: its loop, with `quasis`, `expressions` and `cooked`. `into_expression` is not reached with a
-- spread.
pub record Folded : Type 0 where
  pub quasis : List Units
  pub expressions : List Expression
  pub cooked : Units

unfoldable pub folded_one : Folded → Part → Folded
folded_one f (Part.expression (Expression.string l u)) = record { quasis = f.quasis; expressions = f.expressions; cooked = f.cooked ++ u }
folded_one f (Part.expression x) = record { quasis = f.quasis ++ f.cooked ∷ []; expressions = f.expressions ++ x ∷ []; cooked = [] }
folded_one f p = f

unfoldable pub folded : Folded → List Part → Folded
folded f [] = f
folded f (p ∷ ps) = folded (folded_one f p) ps

-- `template_element`
abbrev pub template_element : Units → Quasi
template_element cooked = Quasi.quasi 0 (raw_of cooked) cooked

-- `new_template_literal`: quasis and expressions in turn, and the tail.
unfoldable pub in_turn : List Units → List Expression → Units → Pieces
in_turn (q ∷ qs) (x ∷ xs) tail = Pieces.piece (template_element q) x (in_turn qs xs tail)
in_turn qs xs tail = Pieces.last (template_element tail)

unfoldable pub assembled : List Units → List Expression → Units → Expression
assembled qs [] tail = Expression.string 0 tail
assembled qs (x ∷ xs) tail = Expression.template 0 (in_turn qs (x ∷ xs) tail)

abbrev pub from_folded : Folded → Expression
from_folded f = assembled f.quasis f.expressions f.cooked

abbrev pub fold_string_concat : Units → List Part → Expression
fold_string_concat base args = from_folded (folded (record { quasis = []; expressions = []; cooked = base }) args)
