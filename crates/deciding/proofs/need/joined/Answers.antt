use Rattle.store.specs.Stores.{held_of}
use Rattle.deciding.proofs.JoinedCalls.{base_read, call_read, calls_read}
use Rattle.deciding.proofs.need.joined.Goals as goal

pub loop-call-init : goal.loop-call-init
loop-call-init c = base_read (held_of c.args.stores.now) c.args.base c.args.calls.now _ _ c.empty.ensures c.with_text-pieces.ensures

pub loop-call-preserved : goal.loop-call-preserved
loop-call-preserved c = call_read (held_of c.args.stores.now) c.args.base c.args.calls.now _ _ _ _ c.loop-call.invariant c.loop-call-test.true c.requires c.with_arguments-pieces.ensures

pub returns : goal.returns
returns c = calls_read (held_of c.args.stores.now) c.args.base c.args.calls.now _ _ _ c.loop-call.invariant c.loop-call-test.false c.loop-call.auto.call-index-end c.requires c.need.ensures
