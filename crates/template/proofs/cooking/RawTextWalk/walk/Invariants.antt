use Rattle.std.proofs.Common.{length}
use Rattle.template.specs.Raw.{left_of}
use Rattle.template.proofs.CookWalk.{CookWalk}
use Rattle.template.proofs.cooking.RawTextWalk.walk.Given as goal

abbrev pub invariant-loop-part : goal.invariant-loop-part
invariant-loop-part g l = CookWalk g.S.Sink.Took l.initial.sink l.self.raw.now (left_of l.reader) l.sink l.withheld.lead

abbrev pub decreases-loop-part : goal.decreases-loop-part
decreases-loop-part g l = length (left_of l.reader)
