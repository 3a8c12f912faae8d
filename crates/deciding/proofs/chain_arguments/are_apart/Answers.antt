use Rattle.std.proofs.Common.{arith}
use Rattle.deciding.proofs.ChainAsked.{apart_unread, apart_refused, apart_step, apart_done}
use Rattle.deciding.proofs.chain_arguments.are_apart.Goals as goal

pub returns-in_default : goal.returns-in_default
returns-in_default g c = apart_unread _ _ _ _ _ (omega arith) c.in_default.ensures

pub returns-then-not-can_be_read_later : goal.returns-then-not-can_be_read_later
returns-then-not-can_be_read_later g c =
    apart_refused _ _ _ _ _ c.count_calls_to_last_argument-later-end.ensures.last c.loop-later.invariant c.loop-later-test.true _ _ c.in-Some.ensures.1 c.count_calls_to_last_argument-later-end.ensures.within _
    c.can_be_read_later.ensures c.if-not-can_be_read_later.true _ c.have_no_effects.ensures

pub loop-later-preserved : goal.loop-later-preserved
loop-later-preserved g c =
    apart_step _ _ _ _ _ c.count_calls_to_last_argument-later-end.ensures.last c.loop-later.invariant c.loop-later-test.true _ _ c.in-Some.ensures.1 c.count_calls_to_last_argument-later-end.ensures.within _
    c.can_be_read_later.ensures c.if-not-can_be_read_later.false

pub returns : goal.returns
returns g c = apart_done _ _ _ _ _ c.count_calls_to_last_argument-later-end.ensures.last c.loop-later.invariant c.loop-later-test.false
