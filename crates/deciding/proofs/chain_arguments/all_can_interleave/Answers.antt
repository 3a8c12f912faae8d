use Rattle.std.proofs.Common.{refl}
use Rattle.deciding.proofs.ChainAsked.{all_unread, all_refused, all_step, all_done}
use Rattle.deciding.proofs.chain_arguments.all_can_interleave.Goals as goal

pub returns-in_default : goal.returns-in_default
returns-in_default g c = all_unread _ _ _ _ _ c.loop-i-test.true c.in_default.ensures

pub returns-in_default-interleave : goal.returns-in_default-interleave
returns-in_default-interleave g c =
    all_refused _ _ _ _ _ _ c.in-Some.ensures.1 c.loop-i-test.true _ _ c.loop-i.invariant _ c.count_calls_to_last_argument-with_arguments.ensures.last refl _ c.interleave.ensures c.in_default-interleave.is

pub loop-i-preserved : goal.loop-i-preserved
loop-i-preserved g c =
    all_step _ _ _ _ _ _ c.in-Some.ensures.1 c.loop-i-test.true _ _ c.loop-i.invariant _ c.count_calls_to_last_argument-with_arguments.ensures.last refl _ c.interleave.ensures _ c.in-Some-interleave.is

pub returns : goal.returns
returns g c = all_done _ _ _ _ _ c.loop-i.invariant c.loop-i-test.false
