use Rattle.std.proofs.Common.{rules}
use Rattle.deciding.proofs.JoinedCalls.{call_counted, calls_counted}
use Rattle.deciding.proofs.need.calls_len.Goals as goal

pub loop-call-preserved : goal.loop-call-preserved
loop-call-preserved c = call_counted _ _ _ _ c.loop-call.invariant c.loop-call-test.true (search rules)

pub returns : goal.returns
returns c = calls_counted _ _ _ c.loop-call.invariant c.loop-call-test.false
