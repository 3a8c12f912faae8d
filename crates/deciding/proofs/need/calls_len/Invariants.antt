use Rattle.deciding.proofs.JoinedCalls.{CountedCalls}
use Rattle.deciding.proofs.need.calls_len.Given as goal

abbrev pub invariant-loop-call : goal.invariant-loop-call
invariant-loop-call l = CountedCalls l.calls l.len l.call-index
