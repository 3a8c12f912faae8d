use Rattle.std.proofs.Common.{map}
use Rattle.file.specs.Format.{record_at}
use Rattle.file.proofs.Copied.{NodesUpTo}
use Rattle.file.proofs.records.Records.copy_nodes.Given as goal

abbrev pub invariant-loop-record : goal.invariant-loop-record
invariant-loop-record l = NodesUpTo (map (λ bytes. record_at bytes 0) l.self.sections.nodes.now) l.record-index l.initial.nodes l.nodes
