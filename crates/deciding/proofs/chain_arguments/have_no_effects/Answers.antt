use Rattle.deciding.proofs.ChainAsked.{still_unread, still_refused, still_step, still_done}
use Rattle.deciding.proofs.chain_arguments.have_no_effects.Goals as goal

pub returns-in_default : goal.returns-in_default
returns-in_default g c = still_unread _ _ _ _ _ c.loop-call-test.true c.in_default.ensures

pub returns-then-any_has_effects : goal.returns-then-any_has_effects
returns-then-any_has_effects g c = still_refused _ _ _ _ _ _ c.in-Some.ensures.1 c.loop-call-test.true c.loop-call.invariant _ c.any_has_effects.ensures c.if-any_has_effects.true

pub loop-call-preserved : goal.loop-call-preserved
loop-call-preserved g c = still_step _ _ _ _ _ _ c.in-Some.ensures.1 c.loop-call-test.true c.loop-call.invariant _ c.any_has_effects.ensures c.if-any_has_effects.false

pub returns : goal.returns
returns g c = still_done _ _ _ _ c.loop-call.invariant c.loop-call-test.false
