-- The table of what became of files.
use Rattle.std.specs.Prelude.{ℕ, List, [], ◌∷◌, ◌++◌, cond, codes, decimal}
use Rattle.std.specs.List.{flat_map}
use Rattle.csv.specs.Writing.{row_text, default_writer}
use Rattle.base.specs.Faults.{number}
use Rattle.payoff.specs.declared.records.Fate.{Fate}
use Rattle.payoff.specs.declared.records.Fate.TheVariants.{Unread, Refused, Stopped, Swept}
use Rattle.payoff.specs.declared.records.Cell.{Cell}
use Rattle.payoff.specs.declared.records.Cell.TheVariants.{Empty, Number, Unread as UnreadCell}
use Rattle.payoff.specs.declared.records.Record.{Record}

abbrev pub header : List (List ℕ)
header = codes "file" ∷ codes "before" ∷ codes "after" ∷ codes "rewrites" ∷ codes "rounds" ∷ codes "left" ∷ codes "fault" ∷ []

abbrev pub text_of : Cell → List ℕ
text_of Empty = []
text_of (Number n) = decimal n
text_of UnreadCell = codes "unread"

-- What a row tells of a fate: lengths before and after, rewrites, rounds, and whether places were left; and the fault.
abbrev pub counts_of : Fate → List (List ℕ)
counts_of Unread = [] ∷ [] ∷ [] ∷ [] ∷ [] ∷ []
counts_of (Refused before fault) = decimal before ∷ [] ∷ [] ∷ [] ∷ [] ∷ []
counts_of (Stopped before after s) = decimal before ∷ decimal after ∷ decimal s.rewrites ∷ [] ∷ [] ∷ []
counts_of (Swept before after s) = decimal before ∷ decimal after ∷ decimal s.rewrites ∷ decimal s.rounds ∷ decimal (cond s.left 1 0) ∷ []

abbrev pub fault_of : Fate → List ℕ
fault_of Unread = codes "unread"
fault_of (Refused before fault) = decimal (number fault)
fault_of (Stopped before after s) = decimal (number s.fault)
fault_of (Swept before after s) = decimal 0

-- The row of a file, as `csv` writes one.
abbrev pub row_of : Record → List ℕ
row_of r = row_text default_writer (r.file.now ∷ (counts_of r.fate ++ fault_of r.fate ∷ []))

-- A header, and the rows in order.
abbrev pub table_of : List Record → List ℕ
table_of rs = row_text default_writer header ++ flat_map row_of rs
