use Rattle.std.proofs.Common.{◌≡◌, ◌++◌, take}
use Rattle.std.specs.List.{flat_map}
use Rattle.csv.specs.Writing.{row_text, default_writer}
use Rattle.payoff.specs.Records.{header, row_of}
use Rattle.payoff.proofs.records.table.Given as goal

abbrev pub invariant-loop-one : goal.invariant-loop-one
invariant-loop-one l = l.text.items ≡ row_text default_writer header ++ flat_map row_of (take l.one-index l.fn.records)
