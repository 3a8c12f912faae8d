use Rattle.lending.proofs.Rows.{RowsUpTo}
use Rattle.lending.proofs.record.write_records.Given as goal

abbrev pub invariant-loop-node : goal.invariant-loop-node
invariant-loop-node l = RowsUpTo l.nodes l.node-index l.initial.memory l.memory l.end
