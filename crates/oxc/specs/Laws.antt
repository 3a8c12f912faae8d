-- The Rust and the port give the same.
use Rattle.std.specs.Prelude.{◌≡◌, ℕ, List, Some, None, Option}
use Rattle.std.proofs.Math.Utf8.{encodes}
use Rattle.text.specs.Utf16.{points}
use Rattle.template.specs.Escaped.{raw_of}
use Rattle.meaning.specs.Expression.{Expression}
use Rattle.meaning.specs.Numbering.{renumbered}
use Rattle.host.specs.Answers.{Answers}
use Rattle.rules.specs.Places.{Role, Settings}
use Rattle.rules.specs.Deciding.{decided}
use Rattle.rules.specs.Property.{property_rule}
use Rattle.rules.specs.Method.{method_rule}
use Rattle.rules.specs.Chain.{chain_rule}
use Rattle.oxc.specs.Escaping.{escape_string_for_template_literal}
use Rattle.oxc.specs.Functions.{Made, replace_known_property_access, replace_known_global_methods, replace_concat_chain}

-- The raw text that the Rust makes of a text, in UTF-8, is the one that `template::escape` writes.
abbrev pub TheRustEscapesAlike : Type 0
TheRustEscapesAlike = (us : List ℕ) → encodes (escape_string_for_template_literal (points us)) ≡ raw_of us

-- The same but for the numbers of nodes.
abbrev pub SameButNumbers : Expression → Expression → Type 0
SameButNumbers x y = renumbered (λ n. 0) x ≡ renumbered (λ n. 0) y

-- What a rule decides and what the Rust makes are the same, where the Rust has an answer.
abbrev pub Agree : Option Expression → Made → Type 0
Agree o Made.no_answer = Unit {0}
Agree None Made.left = Unit {0}
Agree None (Made.replaced y) = ⊥
Agree (Some x) Made.left = ⊥
Agree (Some x) (Made.replaced y) = SameButNumbers x y

-- For every place, expression and answers, whichever number is free.
abbrev pub TheRustAccessesAlike : Type 0
TheRustAccessesAlike =
    (next : ℕ) (r : Role) (a : Answers) (x : Expression) → Agree (decided a (property_rule next r x)) (replace_known_property_access r a x)

abbrev pub TheRustReplacesMethodsAlike : Type 0
TheRustReplacesMethodsAlike =
    (s : Settings) (next : ℕ) (r : Role) (a : Answers) (x : Expression) → Agree (decided a (method_rule s next r x)) (replace_known_global_methods s r a x)

abbrev pub TheRustJoinsChainsAlike : Type 0
TheRustJoinsChainsAlike =
    (s : Settings) (next : ℕ) (r : Role) (a : Answers) (x : Expression) → Agree (decided a (chain_rule s next r x)) (replace_concat_chain s r a x)
