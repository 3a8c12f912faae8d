-- A template as far as its parts are read.
use Rattle.std.specs.Prelude.{◌≡◌, ℕ, suc, ◌+◌, ◌*◌, ◌^◌, ◌<◌, ◌≤◌, cond, List, [], ◌∷◌, ◌++◌, length, Some, None, Option, ◌==◌}
use Rattle.text.specs.Stored.{stored}
use Rattle.template.specs.Escaped.{raw_of}
use Rattle.template.specs.Extent.{Measures}
use Rattle.store.specs.declared.stores.Counts.{Counts}
use Rattle.tree.specs.declared.run.Run.{Run}
use Rattle.tree.specs.Tree.{Own}
use Rattle.tree.specs.Heap.{Held, entries_at}
use Rattle.meaning.specs.Expression.{Arguments, Units}
use Rattle.meaning.specs.Parts.{Part}
use Rattle.rules.specs.Building.{text_of}
use Rattle.rules.specs.Space.{bytes_of}
use Rattle.deciding.specs.declared.pieces.Pieces.{Pieces}
use Rattle.deciding.specs.Standing.{Stands, ListsArguments, argument_parts, Spells}

-- How many expressions there are, how many bytes the quasis before them take, and the text behind the last of them.
pub record Reached : Type 0 where
  pub expressions : ℕ
  pub bytes : ℕ
  pub text : Units

-- How many bytes a new quasi of the text takes.
abbrev pub quasi_bytes : Units → ℕ
quasi_bytes u = bytes_of (Own.quasi (raw_of u) (stored u))

abbrev pub nothing_read : Reached
nothing_read = record { expressions = 0; bytes = 0; text = [] }

-- A text goes on with the last one, and an expression ends a quasi.
abbrev pub with_text : Reached → Units → Reached
with_text s u = record { expressions = s.expressions; bytes = s.bytes; text = s.text ++ u }

abbrev pub with_expression : Reached → Reached
with_expression s = record { expressions = suc s.expressions; bytes = s.bytes + quasi_bytes s.text; text = [] }

unfoldable pub with_value : Reached → Option Units → Reached
with_value s (Some u) = with_text s u
with_value s None = with_expression s

-- A spread has no place in a template.
unfoldable pub with_part : Reached → Part → Reached
with_part s (Part.expression x) = with_value s (text_of x)
with_part s (Part.spread l x) = s
with_part s p = with_expression s

unfoldable pub with_parts : Reached → List Part → Reached
with_parts s [] = s
with_parts s (p ∷ ps) = with_parts (with_part s p) ps

-- What the whole takes, where nothing is behind. Without an expression it is a string.
abbrev pub needed : Reached → Counts
needed s =
    cond (s.expressions == 0)
    (record { nodes = 1; entries = 0; text = length (stored s.text) })
    (record { nodes = s.expressions + 2; entries = 2 * s.expressions + 1; text = s.bytes + quasi_bytes s.text })

-- ---- as it is counted

-- What is counted, as far as there are numbers for it: a raw text is at most twice as long as the text.
abbrev pub size : Reached → ℕ
size s = s.expressions + s.bytes + 3 * length (stored s.text)

pub record Tells (p : Pieces) (s : Reached) : Type 0 where
  pub expressions : p.expressions ≡ s.expressions
  pub bytes : p.bytes ≡ s.bytes
  pub text : Measures p.quasi s.text

-- So much at most a part makes it larger.
abbrev pub MAX_PART : ℕ
MAX_PART = 2 ^ 18

abbrev pub Fits : Reached → (parts : ℕ) → Type 0
Fits s parts = size s + parts * MAX_PART < 2 ^ 62

abbrev pub IsEmpty : Pieces → Type 0
IsEmpty p = Tells p nothing_read

abbrev pub ReadsText : Held → Run ℕ → (before after : Pieces) → Type 0
ReadsText h r before after = length h.text ≤ 65536 → (u : Units) → Spells h r u → (s : Reached) → Tells before s → Fits s 1 → Tells after (with_text s u)

abbrev pub Ends : (before after : Pieces) → Type 0
Ends before after = (s : Reached) → Tells before s → Fits s 1 → Tells after (with_expression s)

abbrev pub ReadsPart : Held → ℕ → (before after : Pieces) → Type 0
ReadsPart h n before after = length h.text ≤ 65536 → (p : Part) → Stands h n p → (s : Reached) → Tells before s → Fits s 1 → Tells after (with_part s p)

abbrev pub ReadsAll : Held → Run ℕ → (before after : Pieces) → Type 0
ReadsAll h r before after =
    length h.text ≤ 65536 → (xs : Arguments) → ListsArguments h r xs → (s : Reached) → Tells before s → Fits s (length (entries_at h.entries r)) → Tells after (with_parts s (argument_parts xs))

abbrev pub TakesQuasi : Pieces → ℕ → Type 0
TakesQuasi p bytes = (s : Reached) → Tells p s → Fits s 0 → bytes ≡ quasi_bytes s.text

abbrev pub TakesAll : Pieces → Counts → Type 0
TakesAll p counts = (s : Reached) → Tells p s → Fits s 0 → counts ≡ needed s
