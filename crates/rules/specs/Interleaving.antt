-- The programs that find out whether arguments interleave, and whether a template is short.
use Rattle.std.specs.Prelude.{ℕ, ◌+◌, ◌*◌, Bool, true, false, cond, nat_le}
use Rattle.meaning.specs.Expression.{Arguments}
use Rattle.meaning.specs.Parts.{Part}
use Rattle.rules.specs.Deciding.{Deciding, unless_effects}
use Rattle.rules.specs.Interleaves.{settled, argument_count, string_count, expression_count}

-- Is no argument a spread? oxc_minifier's `string_concat_can_interleave`; here it is seen before anything is asked.
unfoldable pub no_spread : Arguments → Bool
no_spread Arguments.no_arguments = true
no_spread (Arguments.argument x xs) = no_spread xs
no_spread (Arguments.spread_argument l x xs) = false

-- Is the list at its end? (No origin: a notion of ours.)
unfoldable pub none_left : Arguments → Bool
none_left Arguments.no_arguments = true
none_left (Arguments.argument x xs) = false
none_left (Arguments.spread_argument l x xs) = false

-- One decision if no argument has effects and none is a spread, and another else. oxc_minifier's
-- `string_concat_can_interleave`, once an argument may coerce an object.
unfoldable pub all_quiet : Arguments → Deciding → Deciding → Deciding
all_quiet Arguments.no_arguments d e = d
all_quiet (Arguments.argument x xs) d e = Deciding.ask_effects (Part.expression x) (λ b. unless_effects b (all_quiet xs d e) e)
all_quiet (Arguments.spread_argument l x xs) d e = e

-- One decision if the arguments interleave, and another else. The type of the last one does not matter, and is not
-- asked. oxc_minifier's `string_concat_can_interleave`.
unfoldable pub interleaving : Arguments → Deciding → Deciding → Deciding
interleaving Arguments.no_arguments d e = d
interleaving (Arguments.argument x xs) d e = cond (none_left xs) d (Deciding.ask_type (Part.expression x) (λ t. cond (settled t) (interleaving xs d e) (all_quiet xs d e)))
interleaving (Arguments.spread_argument l x xs) d e = e

-- Is a template of these arguments not longer than that many calls? oxc_minifier's `string_concat_prefers_template`.
unfoldable pub short : ℕ → Arguments → Bool
short c xs = nat_le (3 * expression_count xs) (9 * c + argument_count xs + 2 * string_count xs)
