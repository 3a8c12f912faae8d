-- The laws of hosts. (Hosts are a notion of ours, and no section of ECMA-262 has them.)
use Rattle.std.specs.Prelude.{◌≡◌, ℕ, ◌<◌, ◌≤◌, ◌↔◌, true, false, List, [], ◌∷◌, take, Some, All, codes, option_and_then}
use Rattle.std.specs.List.{slice_get}
use Rattle.text.specs.Stored.{stored}
use Rattle.tree.specs.Tree.{label}
use Rattle.meaning.specs.Expression.{Expression, Elements}
use Rattle.meaning.specs.World.{World}
use Rattle.meaning.specs.Premises.{Premises}
use Rattle.meaning.specs.Replacing.{Keeps}
use Rattle.meaning.specs.Parts.{Part, part_tree}
use Rattle.meaning.specs.PlainWorld.{plain}
use Rattle.host.specs.declared.value_type.ValueType.{ValueType}
use Rattle.host.specs.declared.value_type.ValueType.TheVariants.{Object, String}
use Rattle.host.specs.declared.row.Row.{Row}
use Rattle.host.specs.Truth.{WithoutEffects, HasType, ReadsAsOwn, IsTheLanguagesOwn, TrueOf, Truthful}
use Rattle.host.specs.Silent.{silent_answers}
use Rattle.host.specs.Structural.{own_names, is_among, structural_answers}
use Rattle.host.specs.Row.{row_of}
use Rattle.host.specs.Table.{row_at, table_answers}
use Rattle.host.specs.QuietWorld.{quiet}

-- The silent host says only what is true.
abbrev pub TheSilentHostIsTrue : World → Type 0
TheSilentHostIsTrue w = Truthful w silent_answers

-- The list of bound names is complete: each of the language's own names that the structural host knows, and that is
-- not in the list, reads from every state as the language's own, and changes none.
abbrev pub Complete : World → (bound : List (List ℕ)) → Type 0
Complete w bound = All (λ u. is_among (stored u) bound ≡ false → ReadsAsOwn w u) own_names

-- Where the list of bound names is complete, the structural host says only what is true.
abbrev pub TheStructuralHostIsTrue : World → Type 0
TheStructuralHostIsTrue w = (bound : List (List ℕ)) → Complete w bound → Truthful w (structural_answers bound)

-- What a row says of a part is true.
pub record TrueRow (w : World) (r : Row) (p : Part) : Type 0 where
  pub effects : r.effects ≡ false → WithoutEffects w p
  pub value_type : HasType w r.value_type p
  pub global : r.global ≡ true → IsTheLanguagesOwn w p

-- The node n was loaded, and its byte spells the row r.
abbrev pub HasEntry : (rows : List ℕ) (loaded n : ℕ) → Row → Type 0
HasEntry rows loaded n r = (n < loaded) × (option_and_then row_of (slice_get rows n) ≡ Some r)

-- A table says only what is true of each part whose entry, if it has one, is true; and of each part past the loaded
-- nodes.
abbrev pub ATableIsTrueWhereItsEntriesAre : World → Type 0
ATableIsTrueWhereItsEntriesAre w =
    (rows : List ℕ) (loaded : ℕ) (p : Part)
    → (((r : Row) → HasEntry rows loaded (label (part_tree p)) r → TrueRow w r p) → TrueOf w (table_answers (take loaded rows)) p)
    × (loaded ≤ label (part_tree p) → TrueOf w (table_answers (take loaded rows)) p)

-- Where an expression becomes another with the same runs, and what was calm stays calm, what was true of it stays true:
-- that it has no effects, as it stands or spread, and of which type its values are.
abbrev pub WhatIsTrueStaysTrue : World → Type 0
WhatIsTrueStaysTrue w =
    (x y : Expression) → Keeps w x y
    → (WithoutEffects w (Part.expression x) → WithoutEffects w (Part.expression y))
    × ((l : ℕ) → WithoutEffects w (Part.spread l x) → WithoutEffects w (Part.spread l y))
    × ((k : ValueType) → HasType w k (Part.expression x) → HasType w k (Part.expression y))

-- The payoff [Math, "a"], its nodes, and a row for each: Math is a global name, nothing has effects, and the values are
-- objects and a text.
abbrev pub math_name : Expression
math_name = Expression.name 0 (codes "Math")

abbrev pub a_text : Expression
a_text = Expression.string 1 (codes "a")

abbrev pub math_and_text : Expression
math_and_text = Expression.array 2 (Elements.item math_name (Elements.item a_text Elements.no_elements))

abbrev pub three_rows : List ℕ
three_rows = 0x47 ∷ 0x05 ∷ 0x07 ∷ []

-- The hypotheses can be met, and what is said then is more than nothing.
pub record TheHypothesesCanBeMet : Type 0 where
  -- In the plain world each read changes the state, so that the complete lists are those that have all three names.
  pub complete_in_plain : (bound : List (List ℕ)) → Complete plain bound ↔ All (λ u. is_among (stored u) bound ≡ true) own_names
  pub all_names : Complete plain own_names
  -- The quiet world meets all premises. There even the empty list is complete, and the structural host calls Math a
  -- global name.
  pub premises_in_quiet : Premises quiet
  pub complete_in_quiet : Complete quiet []
  pub math_is_global : (structural_answers []).global (Part.expression math_name) ≡ true
  -- The rows are no silent ones, and true in the quiet world.
  pub row_of_name : row_at three_rows 0 ≡ record { effects = false; global = true; value_type = Object }
  pub row_of_text : row_at three_rows 1 ≡ record { effects = false; global = false; value_type = String }
  pub row_of_array : row_at three_rows 2 ≡ record { effects = false; global = false; value_type = Object }
  pub true_of_name : TrueRow quiet (row_at three_rows 0) (Part.expression math_name)
  pub true_of_text : TrueRow quiet (row_at three_rows 1) (Part.expression a_text)
  pub true_of_array : TrueRow quiet (row_at three_rows 2) (Part.expression math_and_text)
  -- A table goes by numbers: it is true of the nodes of its payoff, and not of each part that may have such a number.
  pub true_of_its_payoff_alone : Truthful quiet (table_answers three_rows) → ⊥
