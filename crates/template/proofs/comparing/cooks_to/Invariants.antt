use Rattle.std.proofs.Common.{length}
use Rattle.template.specs.Raw.{left_of}
use Rattle.template.proofs.CookWalk.{CookWalk}
use Rattle.template.proofs.Passing.{Taken}
use Rattle.template.proofs.comparing.cooks_to.Given as goal

abbrev pub invariant-loop-reader : goal.invariant-loop-reader
invariant-loop-reader l = CookWalk Taken l.initial.left l.raw (left_of l.reader) l.left l.withheld.lead

abbrev pub decreases-loop-reader : goal.decreases-loop-reader
decreases-loop-reader l = length (left_of l.reader)
