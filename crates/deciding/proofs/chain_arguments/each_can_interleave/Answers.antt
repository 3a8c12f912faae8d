use Rattle.deciding.proofs.ChainAsked.{each_unread, each_refused, each_step, each_done}
use Rattle.deciding.proofs.chain_arguments.each_can_interleave.Goals as goal

pub returns-in_default : goal.returns-in_default
returns-in_default g c = each_unread _ _ _ _ _ c.loop-call-test.true c.in_default.ensures

pub returns-then-not-string_concat_can_interleave : goal.returns-then-not-string_concat_can_interleave
returns-then-not-string_concat_can_interleave g c =
    each_refused _ _ _ _ _ _ c.in-Some.ensures.1 c.loop-call-test.true _ c.loop-call.invariant c.string_concat_can_interleave.ensures c.if-not-string_concat_can_interleave.true

pub loop-call-preserved : goal.loop-call-preserved
loop-call-preserved g c = each_step _ _ _ _ _ _ c.in-Some.ensures.1 c.loop-call-test.true _ c.loop-call.invariant c.string_concat_can_interleave.ensures c.if-not-string_concat_can_interleave.false

pub returns : goal.returns
returns g c = each_done _ _ _ _ c.loop-call.invariant c.loop-call-test.false
