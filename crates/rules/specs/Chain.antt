-- The rule chain: calls of a static member `concat`, one as the object of the next, inwards to a string or an array
-- literal.
use Rattle.std.specs.Prelude.{ℕ, Bool, true, false, cond, ◌&&◌, List, [], ◌∷◌, ◌++◌, length}
use Rattle.meaning.specs.Expression.{Expression, Arguments, Units}
use Rattle.meaning.specs.Methods.{concat_name}
use Rattle.meaning.specs.Parts.{Part}
use Rattle.rules.specs.Places.{Role, Settings}
use Rattle.rules.specs.Deciding.{Deciding, when, unless_effects, same_name, outermost}
use Rattle.rules.specs.Building.{joined, flat}
use Rattle.rules.specs.Interleaves.{settled}
use Rattle.rules.specs.Interleaving.{no_spread, none_left, interleaving, short}

-- The calls of a chain, as the arguments of each, the innermost call first, with the innermost callee, whose object
-- is a string of this text or an array literal. oxc_minifier's `replace_concat_chain`, `collected_arguments` and
-- `new_root_callee`.
pub data Chain : Type 0 where
  of_string : (callee : Expression) → Units → List Arguments → Chain
  of_array : (callee : Expression) → List Arguments → Chain
  none : Chain

-- One more call, outside of those that there are. oxc_minifier's `replace_concat_chain`, its loop.
unfoldable pub longer : Chain → Arguments → Chain
longer (Chain.of_string f u xss) xs = Chain.of_string f u (xss ++ (xs ∷ []))
longer (Chain.of_array f xss) xs = Chain.of_array f (xss ++ (xs ∷ []))
longer Chain.none xs = Chain.none

-- A call by its callee and the callee's object, whose own chain is known. oxc_minifier's `replace_concat_chain`,
-- `is_root_expr_concat`.
unfoldable pub called_on : Expression → Expression → Arguments → Chain → Chain
called_on f (Expression.string j u) xs c = Chain.of_string f u (xs ∷ [])
called_on f (Expression.array j es) xs c = Chain.of_array f (xs ∷ [])
called_on f o xs c = longer c xs

-- The chain that a call is the outermost of. oxc_minifier's `replace_concat_chain`, its loop.
unfoldable pub chain_of : Expression → Chain
chain_of (Expression.call n (Expression.static_member m o k) xs) = cond (same_name k concat_name) (called_on (Expression.static_member m o k) o xs (chain_of o)) Chain.none
chain_of x = Chain.none

-- ---- of a string

-- One decision if each call by itself interleaves. oxc_minifier's `replace_concat_chain`.
unfoldable pub each_interleaving : List Arguments → Deciding → Deciding
each_interleaving [] d = d
each_interleaving (xs ∷ xss) d = interleaving xs (each_interleaving xss d) Deciding.keep

-- A template where it is short even against one call. Else one call, if all arguments together interleave; and if they
-- do not, a template where it is short against all the calls. oxc_minifier's `replace_concat_chain`, where `call_count`
-- is 1 if all interleave together.
unfoldable pub string_chain : Settings → ℕ → Expression → Units → List Arguments → Deciding
string_chain s next f u xss =
    when (no_spread (flat xss))
    (cond (s.templates && short 1 (flat xss)) (each_interleaving xss (Deciding.becomes (joined next u (flat xss))))
    (interleaving (flat xss) (Deciding.becomes (Expression.call next f (flat xss)))
    (when (s.templates && short (length xss) (flat xss)) (each_interleaving xss (Deciding.becomes (joined next u (flat xss)))))))

-- ---- of an array

-- An array literal. oxc_minifier's `ArrayExpression`.
unfoldable pub is_array : Expression → Bool
is_array (Expression.array l xs) = true
is_array x = false

-- One decision if no argument is a spread, and each is an array literal or settled, and another else. (Not in the
-- original, which joins the calls of an array in any case.)
unfoldable pub all_read : Arguments → Deciding → Deciding → Deciding
all_read Arguments.no_arguments d e = d
all_read (Arguments.argument x xs) d e = cond (is_array x) (all_read xs d e) (Deciding.ask_type (Part.expression x) (λ t. cond (settled t) (all_read xs d e) e))
all_read (Arguments.spread_argument l x xs) d e = e

-- One decision if no argument has effects; of a spread its iteration is asked too. (Not in the original.)
unfoldable pub all_still : Arguments → Deciding → Deciding
all_still Arguments.no_arguments d = d
all_still (Arguments.argument x xs) d = Deciding.ask_effects (Part.expression x) (λ b. unless_effects b (all_still xs d) Deciding.keep)
all_still (Arguments.spread_argument l x xs) d = Deciding.ask_effects (Part.spread l x) (λ b. unless_effects b (all_still xs d) Deciding.keep)

-- One decision if no argument with effects follows, in a later call, one that `concat` reads only then. (Not in the
-- original.)
unfoldable pub calls_apart : List Arguments → Deciding → Deciding
calls_apart [] d = d
calls_apart (xs ∷ xss) d =
    cond (none_left (flat xss)) d (cond (no_spread xs) (all_read xs (calls_apart xss d) (all_still (flat xss) d)) (all_still (flat xss) d))

-- One call. oxc_minifier's `replace_concat_chain`.
unfoldable pub array_chain : ℕ → Expression → List Arguments → Deciding
array_chain next f xss = calls_apart xss (Deciding.becomes (Expression.call next f (flat xss)))

-- A chain has at least two calls. oxc_minifier's `replace_concat_chain`.
unfoldable pub chained : Settings → ℕ → Chain → Deciding
chained s next (Chain.of_string f u (xs ∷ (ys ∷ yss))) = string_chain s next f u (xs ∷ (ys ∷ yss))
chained s next (Chain.of_array f (xs ∷ (ys ∷ yss))) = array_chain next f (xs ∷ (ys ∷ yss))
chained s next c = Deciding.keep

-- The rule. oxc_minifier's `replace_concat_chain`.
unfoldable pub chain_rule : Settings → ℕ → Role → Expression → Deciding
chain_rule s next r x = when (outermost r) (chained s next (chain_of x))
