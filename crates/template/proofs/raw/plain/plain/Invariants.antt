use Rattle.std.proofs.Common.{length}
use Rattle.template.proofs.PlainRuns.{Run}
use Rattle.template.proofs.raw.plain.plain.Given as goal

abbrev pub invariant-loop-rest : goal.invariant-loop-rest
invariant-loop-rest l = Run l.raw l.rest

abbrev pub decreases-loop-rest : goal.decreases-loop-rest
decreases-loop-rest l = length l.rest
