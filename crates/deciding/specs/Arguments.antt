-- What is found out of the arguments of a call by the records at their numbers, and by asking a host.
use Rattle.std.specs.Prelude.{◌≡◌, ℕ, Bool, true, false, cond, not, List, length, Some, None, Option, count_by, take_while}
use Rattle.std.specs.List.{slice_get, list_any}
use Rattle.std.specs.Option.{option_map_or}
use Rattle.tree.specs.declared.node.Node.{Node}
use Rattle.tree.specs.declared.node.Node.TheVariants.{String, Number, Boolean, Null, Spread, Array}
use Rattle.tree.specs.Heap.{Held}
use Rattle.meaning.specs.Expression.{Expression, Arguments}
use Rattle.host.specs.Answers.{Answers}
use Rattle.rules.specs.Deciding.{Deciding, decided}
use Rattle.rules.specs.Building.{append_arguments}
use Rattle.rules.specs.Interleaving.{no_spread, none_left, interleaving, all_quiet}
use Rattle.deciding.specs.Standing.{AllStand, argument_parts}

-- ---- by the records

abbrev pub is_spread : Node → Bool
is_spread (Spread n) = true
is_spread r = false

abbrev pub is_string : Node → Bool
is_string (String t) = true
is_string r = false

-- A literal or an array literal, which `concat` on an array literal takes in.
abbrev pub is_taken : Node → Bool
is_taken (String t) = true
is_taken (Number bits) = true
is_taken (Boolean b) = true
is_taken Null = true
is_taken (Array es) = true
is_taken r = false

-- The same of what is stored at a number.
abbrev pub stored_at : (Node → Bool) → Held → ℕ → Bool
stored_at test h n = option_map_or test (slice_get h.nodes n) false

-- Any of the numbers is a spread's.
abbrev pub any_spread : Held → List ℕ → Bool
any_spread h ns = list_any (stored_at is_spread h) ns

-- How many of the numbers are no string's.
abbrev pub expressions_among : Held → List ℕ → ℕ
expressions_among h ns = count_by (λ n. not (stored_at is_string h n)) ns

-- How many leading ones are those of literals and array literals.
abbrev pub leading_taken : Held → List ℕ → ℕ
leading_taken h ns = length (take_while (stored_at is_taken h) ns)

-- ---- by asking a host

-- What is asked of arguments, once one before them may coerce an object, or while none may.
abbrev pub going : (may_coerce_object : Bool) → Arguments → Deciding → Deciding → Deciding
going may_coerce_object xs d e = cond may_coerce_object (all_quiet xs d e) (interleaving xs d e)

-- Arguments do not interleave; or what is asked of those behind them.
abbrev pub went : Answers → Arguments → Deciding → Deciding → Option Bool → Option Expression
went a zs d e None = decided a e
went a zs d e (Some may_coerce_object) = decided a (going may_coerce_object zs d e)

-- So it went with arguments at these numbers, none of them a spread, and with any behind them.
abbrev pub GoesOn : Answers → Held → List ℕ → (before followed : Bool) → Option Bool → Type 0
GoesOn a h ns before followed result =
    (xs zs : Arguments) → AllStand h ns (argument_parts xs) → no_spread xs ≡ true → none_left zs ≡ not followed → (d e : Deciding)
    → decided a (going before (append_arguments xs zs) d e) ≡ went a zs d e result

-- Whether arguments at these numbers, none of them a spread, interleave.
abbrev pub InterleavesOf : Answers → Held → List ℕ → Bool → Type 0
InterleavesOf a h ns result =
    (xs : Arguments) → AllStand h ns (argument_parts xs) → no_spread xs ≡ true → (d e : Deciding)
    → decided a (interleaving xs d e) ≡ decided a (cond result d e)
