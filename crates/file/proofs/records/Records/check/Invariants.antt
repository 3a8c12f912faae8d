use Rattle.tree.specs.Heap.{Held}
use Rattle.file.specs.Lawful.{Contents}
use Rattle.file.specs.Found.{laid, RecordsTo, CountsParents}
use Rattle.file.proofs.records.Records.check.Given as goal

abbrev pub invariant-loop-x : goal.invariant-loop-x
invariant-loop-x l = RecordsTo (laid l.sections) l.x × ((h : Held) → Contents (laid l.sections) h → CountsParents h l.x l.parents l.wrong)
