use Rattle.std.proofs.Common.{refl}
use Rattle.deciding.proofs.ConcatWalk.{set_out, no_more, reached, step, no_room}
use Rattle.deciding.proofs.chain_calls.collect_arguments.Goals as goal

pub loop-i-init : goal.loop-i-init
loop-i-init c = set_out _ _ _

pub returns-in_default-concat_call : goal.returns-in_default-concat_call
returns-in_default-concat_call c = no_more _ _ _ _ _ c.loop-i.invariant c.in_default-concat_call.ensures

pub returns-in-Some-root_of : goal.returns-in-Some-root_of
returns-in-Some-root_of c = reached _ _ _ _ _ c.loop-i.invariant c.loop-i-test.true _ c.in-Some-concat_call.ensures _ _ refl _ refl refl refl refl c.in-Some-root_of.ensures

pub loop-i-preserved : goal.loop-i-preserved
loop-i-preserved c = step _ _ _ _ _ c.loop-i.invariant c.loop-i-test.true _ c.in-Some-concat_call.ensures _ refl _ refl _ refl c.in_default-root_of.ensures

pub returns : goal.returns
returns c = no_room _ _ _ _ _ c.loop-i.invariant c.loop-i-test.false
