-- When arguments may become the expressions of a template, which makes a text of each before the next one runs, and
-- when a template is not longer than the calls.
use Rattle.std.specs.Prelude.{◌≡◌, ℕ, suc, ◌+◌, ◌*◌, ◌≤◌, Bool, true, false, Some, None, Option, ◌⊎◌}
use Rattle.host.specs.declared.value_type.ValueType.{ValueType}
use Rattle.host.specs.declared.value_type.ValueType.TheVariants.{Undetermined, Undefined, Null, Number, BigInt, String, Boolean, Object}
use Rattle.meaning.specs.Expression.{Expression, Arguments, Units}
use Rattle.meaning.specs.Parts.{Part}
use Rattle.rules.specs.Facts.{Facts}
use Rattle.rules.specs.Building.{text_of}

-- A type is neither Object nor Undetermined, so that its values have one text each, whatever the state. oxc_minifier's
-- `string_concat_can_interleave`, `may_coerce_object`.
unfoldable pub settled : ValueType → Bool
settled Undetermined = false
settled Undefined = true
settled Null = true
settled Number = true
settled BigInt = true
settled String = true
settled Boolean = true
settled Object = false

-- An expression of a type other than Object and Undetermined. oxc_minifier's `string_concat_can_interleave`.
abbrev pub SettledType : Facts → Expression → Type 0
SettledType f x = (t : ValueType) × f.of_type t (Part.expression x) × (settled t ≡ true)

-- Each argument may follow x: it is no spread, and it has no effects, or x is of a type other than Object and
-- Undetermined. oxc_minifier's `string_concat_can_interleave`.
abbrev pub EachMayFollow : Facts → Expression → Arguments → Type 0
EachMayFollow f x Arguments.no_arguments = Unit {0}
EachMayFollow f x (Arguments.argument y ys) = (SettledType f x ⊎ f.effects false (Part.expression y)) × EachMayFollow f x ys
EachMayFollow f x (Arguments.spread_argument l y ys) = ⊥

-- No argument is a spread, and none with effects follows one of type Object or Undetermined. oxc_minifier's
-- `string_concat_can_interleave`.
abbrev pub Interleaves : Facts → Arguments → Type 0
Interleaves f Arguments.no_arguments = Unit {0}
Interleaves f (Arguments.argument x xs) = EachMayFollow f x xs × Interleaves f xs
Interleaves f (Arguments.spread_argument l x xs) = ⊥

-- How many arguments there are, spreads counted. oxc_minifier's `string_concat_prefers_template`, `argument_count`.
unfoldable pub argument_count : Arguments → ℕ
argument_count Arguments.no_arguments = 0
argument_count (Arguments.argument x xs) = suc (argument_count xs)
argument_count (Arguments.spread_argument l x xs) = suc (argument_count xs)

-- 1 for a string node's text, and 0 for none. oxc_minifier's `string_concat_prefers_template`.
unfoldable pub one_if_text : Option Units → ℕ
one_if_text (Some u) = 1
one_if_text None = 0

-- And the other way round. oxc_minifier's `string_concat_prefers_template`.
unfoldable pub one_unless_text : Option Units → ℕ
one_unless_text (Some u) = 0
one_unless_text None = 1

-- How many of them are string nodes. oxc_minifier's `string_concat_prefers_template`, `string_count`.
unfoldable pub string_count : Arguments → ℕ
string_count Arguments.no_arguments = 0
string_count (Arguments.argument x xs) = one_if_text (text_of x) + string_count xs
string_count (Arguments.spread_argument l x xs) = string_count xs

-- How many of them are not. oxc_minifier's `string_concat_prefers_template`, `expression_count`.
unfoldable pub expression_count : Arguments → ℕ
expression_count Arguments.no_arguments = 0
expression_count (Arguments.argument x xs) = one_unless_text (text_of x) + expression_count xs
expression_count (Arguments.spread_argument l x xs) = suc (expression_count xs)

-- `${}` of each expression takes no more than `.concat()` of each call, a comma or bracket of each argument, and the
-- quotes of each string. oxc_minifier's `string_concat_prefers_template`.
abbrev pub Short : (calls : ℕ) → Arguments → Type 0
Short c xs = 3 * expression_count xs ≤ 9 * c + argument_count xs + 2 * string_count xs
