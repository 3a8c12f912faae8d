use Rattle.template.proofs.LineEnds.{Lined}
use Rattle.template.proofs.cooking.put_lines.Given as goal

abbrev pub invariant-loop-byte : goal.invariant-loop-byte
invariant-loop-byte g l = Lined g.S.Sink.Took l.initial.sink l.sink l.run l.after_cr l.byte-index
