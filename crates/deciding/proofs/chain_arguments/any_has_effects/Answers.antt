use Rattle.deciding.proofs.ChainAsked.{parts_begun, parts_refused, parts_step, parts_done}
use Rattle.deciding.proofs.chain_arguments.any_has_effects.Goals as goal

pub loop-argument-init : goal.loop-argument-init
loop-argument-init g c = parts_begun _ _ _

pub returns-then-may_have_side_effects : goal.returns-then-may_have_side_effects
returns-then-may_have_side_effects g c = parts_refused _ _ _ _ c.loop-argument.invariant c.loop-argument-test.true _ c.may_have_side_effects.ensures c.if-may_have_side_effects.true

pub loop-argument-preserved : goal.loop-argument-preserved
loop-argument-preserved g c = parts_step _ _ _ _ c.loop-argument.invariant c.loop-argument-test.true _ c.may_have_side_effects.ensures c.if-may_have_side_effects.false

pub returns : goal.returns
returns g c = parts_done _ _ _ _ c.loop-argument.invariant c.loop-argument-test.false
