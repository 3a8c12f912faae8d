-- The host that goes by a table.
use Rattle.std.specs.Prelude.{ℕ, List, unwrap_or, option_and_then}
use Rattle.std.specs.List.{slice_get}
use Rattle.tree.specs.Tree.{label}
use Rattle.meaning.specs.Parts.{part_tree}
use Rattle.host.specs.declared.row.Row.{Row}
use Rattle.host.specs.declared.table.Table.{Table}
use Rattle.host.specs.Answers.{Answers}
use Rattle.host.specs.Row.{row_of, silent_row}

-- The bytes that it goes by, that of each node at the node's number. (No section of ECMA-262: a notion of ours.)
abbrev pub rows_of : Table → List ℕ
rows_of t = t.rows.now

-- What they say of a number: nothing past their end, and where the byte spells no row. (No section.)
abbrev pub row_at : List ℕ → ℕ → Row
row_at rows n = unwrap_or (option_and_then row_of (slice_get rows n)) silent_row

-- Its answers on the parts of payoffs. (No section.)
abbrev pub table_answers : (rows : List ℕ) → Answers
table_answers rows = record {
  effects = λ p. (row_at rows (label (part_tree p))).effects;
  value_type = λ p. (row_at rows (label (part_tree p))).value_type;
  global = λ p. (row_at rows (label (part_tree p))).global;
}
