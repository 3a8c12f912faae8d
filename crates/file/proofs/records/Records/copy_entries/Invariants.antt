use Rattle.std.proofs.Common.{take}
use Rattle.store.specs.Held.{Refilled}
use Rattle.file.specs.Found.{laid}
use Rattle.file.proofs.records.Records.copy_entries.Given as goal

abbrev pub invariant-loop-entry : goal.invariant-loop-entry
invariant-loop-entry l = Refilled l.initial.entries (take l.entry-index (laid l.self.sections).entries) l.entries
