use Rattle.building.proofs.OneCalls.{one_call_refused, one_call_built}
use Rattle.building.proofs.Faults.{handed_on}
use Rattle.building.proofs.calls.build_one_call.Goals as goal

pub returns-in_err-arguments-clause-builds : goal.returns-in_err-arguments-clause-builds
returns-in_err-arguments-clause-builds c =
    one_call_refused c.args.stores.now c.args.callee c.args.chain c.in-Some.chain _ c.in-Some.ensures c.collected_arguments.ensures.calls c.write_arguments.new.stores c.from_residual.result
    c.in_err-arguments.ensures.writes

pub returns-clause-builds : goal.returns-clause-builds
returns-clause-builds c =
    one_call_built c.args.stores.now c.args.callee c.args.chain c.in-Some.chain _ c.in-Some.ensures c.collected_arguments.ensures.calls c.write_arguments.new.stores c.push.new.stores
    c.in_ok-arguments.arguments c.push.result c.in_ok-arguments.ensures.writes c.push.ensures.pushes

pub returns-in_err-arguments-clause-fault : goal.returns-in_err-arguments-clause-fault
returns-in_err-arguments-clause-fault c = handed_on c.from_residual.result c.in_err-arguments.field-0.0 c.from_residual.ensures.1 c.in_err-arguments.ensures.fault
