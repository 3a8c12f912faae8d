-- The rule method: calls of `concat` on a literal, of `Math.pow` and of `Array.of`.
use Rattle.std.specs.Prelude.{ℕ, zero, suc, ◌+◌, Bool, true, false, cond, ◌&&◌, nat_le}
use Rattle.tree.specs.declared.node.UnaryOperator.TheVariants.{Plus}
use Rattle.tree.specs.declared.node.BinaryOperator.TheVariants.{Exponentiation}
use Rattle.host.specs.declared.value_type.ValueType.{ValueType}
use Rattle.host.specs.declared.value_type.ValueType.TheVariants.{Number}
use Rattle.meaning.specs.Expression.{Expression, Elements, Arguments, Units}
use Rattle.meaning.specs.Methods.{concat_name, pow_name, of_name, math_name, array_name}
use Rattle.meaning.specs.Parts.{Part}
use Rattle.rules.specs.Places.{Role, Settings}
use Rattle.rules.specs.Deciding.{Deciding, when, same_name, outermost}
use Rattle.rules.specs.Building.{elements_of, append_elements, joined, with_object}
use Rattle.rules.specs.Interleaves.{argument_count}
use Rattle.rules.specs.Interleaving.{no_spread, none_left, interleaving, short}
use Rattle.rules.specs.Taking.{taken, left, taken_count}

-- What a callee names: a method of an object, or none that is known. oxc_minifier's `replace_known_global_methods`.
pub data Callee : Type 0 where
  method : (object : Expression) (name : Units) → Callee
  none : Callee

-- A computed member names a method by a string node. oxc_minifier's `replace_known_global_methods`.
unfoldable pub keyed : Expression → Expression → Callee
keyed o (Expression.string i k) = Callee.method o k
keyed o y = Callee.none

-- A callee's object, and the method's name. oxc_minifier's `replace_known_global_methods`.
unfoldable pub callee_of : Expression → Callee
callee_of (Expression.static_member m o k) = Callee.method o k
callee_of (Expression.computed_member m o y) = keyed o y
callee_of x = Callee.none

-- `"base".concat(..)`. oxc_minifier's `try_fold_concat`.
unfoldable pub string_concat : Settings → ℕ → Units → Arguments → Deciding
string_concat s next u xs = when (s.templates && (nat_le 1 (argument_count xs) && (no_spread xs && short 1 xs))) (interleaving xs (Deciding.becomes (joined next u xs)) Deciding.keep)

-- `[..].concat(..)`, of all elements and the arguments that are left: the new array, or a call on it. oxc_minifier's
-- `try_fold_concat`, its end.
unfoldable pub array_left : ℕ → Expression → Elements → Arguments → Deciding
array_left next f es Arguments.no_arguments = Deciding.becomes (Expression.array next es)
array_left next f es (Arguments.argument x xs) = Deciding.becomes (Expression.call (next + 2) (with_object (next + 1) f (Expression.array next es)) (Arguments.argument x xs))
array_left next f es (Arguments.spread_argument l x xs) = Deciding.becomes (Expression.call (next + 2) (with_object (next + 1) f (Expression.array next es)) (Arguments.spread_argument l x xs))

-- `[..].concat(..)`, by how many arguments are taken in. Where none is, the call is kept, or it has none and is the
-- array itself. oxc_minifier's `try_fold_concat`.
unfoldable pub array_concat : ℕ → Expression → ℕ → Elements → Arguments → ℕ → Deciding
array_concat next f j es xs zero = when (none_left xs) (Deciding.becomes (Expression.array j es))
array_concat next f j es xs (suc n) = array_left next f (append_elements es (taken xs)) (left xs)

-- A type is Number. oxc_minifier's `is_number`.
unfoldable pub is_number : ValueType → Bool
is_number Number = true
is_number t = false

-- `a ** b`, or `a ** +b`. oxc_minifier's `try_fold_pow`.
unfoldable pub power : ℕ → Expression → Expression → Bool → Expression
power next a b true = Expression.binary next Exponentiation a b
power next a b false = Expression.binary (next + 1) Exponentiation a (Expression.unary next Plus b)

-- `Math.pow(a, b)`. oxc_minifier's `try_fold_pow`.
unfoldable pub math_pow : Settings → ℕ → Expression → Arguments → Deciding
math_pow s next o (Arguments.argument a (Arguments.argument b Arguments.no_arguments)) =
    when s.power (Deciding.ask_global (Part.expression o) (λ g. when g (Deciding.ask_type (Part.expression b) (λ t. Deciding.becomes (power next a b (is_number t))))))
math_pow s next o xs = Deciding.keep

-- `Array.of(..)`. oxc_minifier's `try_fold_array_of`.
unfoldable pub array_of : ℕ → Expression → Arguments → Deciding
array_of next o xs = Deciding.ask_global (Part.expression o) (λ g. when g (Deciding.becomes (Expression.array next (elements_of xs))))

-- A method of a name. oxc_minifier's `replace_known_global_methods` and `validate_global_reference`.
unfoldable pub global_method : Settings → ℕ → ℕ → Units → Units → Arguments → Deciding
global_method s next j u k xs =
    cond (same_name u math_name && same_name k pow_name) (math_pow s next (Expression.name j u) xs)
    (when (same_name u array_name && same_name k of_name) (array_of next (Expression.name j u) xs))

-- By the object and the method's name. oxc_minifier's `replace_known_global_methods`.
unfoldable pub method_of_object : Settings → ℕ → Role → Expression → Arguments → Units → Expression → Deciding
method_of_object s next r f xs k (Expression.string j u) = when (same_name k concat_name && outermost r) (string_concat s next u xs)
method_of_object s next r f xs k (Expression.array j es) = when (same_name k concat_name && outermost r) (array_concat next f j es xs (taken_count xs))
method_of_object s next r f xs k (Expression.name j u) = global_method s next j u k xs
method_of_object s next r f xs k o = Deciding.keep

-- By the callee. oxc_minifier's `replace_known_global_methods`.
unfoldable pub method_called : Settings → ℕ → Role → Expression → Arguments → Callee → Deciding
method_called s next r f xs (Callee.method o k) = method_of_object s next r f xs k o
method_called s next r f xs Callee.none = Deciding.keep

-- The rule. oxc_minifier's `replace_known_global_methods`.
unfoldable pub method_rule : Settings → ℕ → Role → Expression → Deciding
method_rule s next r (Expression.call l f xs) = method_called s next r f xs (callee_of f)
method_rule s next r x = Deciding.keep
