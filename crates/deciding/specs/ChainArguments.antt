-- What is found out of the arguments of a chain's calls, by the records at their numbers, and by asking a host.
use Rattle.std.specs.Prelude.{◌≡◌, ℕ, Bool, true, false, cond, not, List, drop, Some, None, Option, nat_lt}
use Rattle.tree.specs.declared.run.Run.{Run}
use Rattle.tree.specs.declared.node.Node.{Node}
use Rattle.tree.specs.declared.node.Node.TheVariants.{Array}
use Rattle.tree.specs.Heap.{Held}
use Rattle.meaning.specs.Expression.{Arguments}
use Rattle.host.specs.Answers.{Answers}
use Rattle.rules.specs.Deciding.{Deciding, decided}
use Rattle.rules.specs.Interleaves.{argument_count, expression_count}
use Rattle.rules.specs.Interleaving.{no_spread, none_left, interleaving}
use Rattle.rules.specs.Building.{flat}
use Rattle.rules.specs.Chain.{each_interleaving, all_read, all_still, calls_apart}
use Rattle.deciding.specs.declared.chain_arguments.ArgumentCounts.{ArgumentCounts}
use Rattle.deciding.specs.Standing.{AllStand, argument_parts}
use Rattle.deciding.specs.ConcatCalls.{CallsStand}

-- ---- by the records

abbrev pub is_array_record : Node → Bool
is_array_record (Array es) = true
is_array_record r = false

-- One of the arguments is a spread; or none is, and there are so many.
abbrev pub CountsOf : Held → List (Run ℕ) → Option ArgumentCounts → Type 0
CountsOf h runs None = (xss : List Arguments) → CallsStand h runs xss → no_spread (flat xss) ≡ false
CountsOf h runs (Some c) =
    (xss : List Arguments) → CallsStand h runs xss
    → (no_spread (flat xss) ≡ true) × (argument_count (flat xss) ≡ c.arguments) × (expression_count (flat xss) ≡ c.expressions)

-- There are arguments behind the first k calls, exactly where k is lower.
abbrev pub LastArgumentOf : List (Run ℕ) → ℕ → Type 0
LastArgumentOf runs count = (h : Held) (xss : List Arguments) → CallsStand h runs xss → (k : ℕ) → none_left (flat (drop k xss)) ≡ not (nat_lt k count)

-- ---- by asking a host

module _ (a : Answers) (h : Held) where
  -- Whether each call's arguments interleave, where none is a spread.
  abbrev pub EachInterleavesOf : List (Run ℕ) → Bool → Type 0
  EachInterleavesOf runs result =
      (xss : List Arguments) → CallsStand h runs xss → no_spread (flat xss) ≡ true → (d : Deciding)
      → decided a (each_interleaving xss d) ≡ decided a (cond result d Deciding.keep)

  -- Whether all arguments together do.
  abbrev pub AllInterleaveOf : List (Run ℕ) → Bool → Type 0
  AllInterleaveOf runs result =
      (xss : List Arguments) → CallsStand h runs xss → no_spread (flat xss) ≡ true → (d e : Deciding)
      → decided a (interleaving (flat xss) d e) ≡ decided a (cond result d e)

  -- Whether an argument has effects; of one call, and of all.
  abbrev pub EffectsOf : List ℕ → Bool → Type 0
  EffectsOf ns result = (xs : Arguments) → AllStand h ns (argument_parts xs) → (d : Deciding) → decided a (all_still xs d) ≡ decided a (cond result Deciding.keep d)

  abbrev pub StillOf : List (Run ℕ) → Bool → Type 0
  StillOf runs result = (xss : List Arguments) → CallsStand h runs xss → (d : Deciding) → decided a (all_still (flat xss) d) ≡ decided a (cond result d Deciding.keep)

  -- Whether `concat` may read the arguments of a call when later arguments have run.
  abbrev pub ReadLaterOf : List ℕ → Bool → Type 0
  ReadLaterOf ns result =
      (xs : Arguments) → AllStand h ns (argument_parts xs) → (d e : Deciding)
      → decided a (cond (no_spread xs) (all_read xs d e) e) ≡ decided a (cond result d e)

  -- Whether no argument with effects follows, in a later call, one that `concat` reads only then.
  abbrev pub ApartOf : List (Run ℕ) → Bool → Type 0
  ApartOf runs result = (xss : List Arguments) → CallsStand h runs xss → (d : Deciding) → decided a (calls_apart xss d) ≡ decided a (cond result d Deciding.keep)
