use Rattle.building.proofs.OneCalls.{none_gathered, gathers_one, gathers_none, arguments_written}
use Rattle.building.proofs.Faults.{handed_on}
use Rattle.building.proofs.calls.write_arguments.Goals as goal

pub loop-arguments-init : goal.loop-arguments-init
loop-arguments-init c = none_gathered c.args.stores.now c.args.calls.now

pub returns-in_err-append_list-clause-writes : goal.returns-in_err-append_list-clause-writes
returns-in_err-append_list-clause-writes c =
    gathers_none c.args.stores.now c.loop-arguments.stores c.append_list.new.stores c.args.calls.now c.loop-arguments.arguments-index _ c.loop-arguments.invariant c.loop-arguments-test.true
    c.in_err-append_list.field-0.0 c.from_residual.result c.from_residual.ensures.0 c.in_err-append_list.ensures.lists

pub loop-arguments-preserved : goal.loop-arguments-preserved
loop-arguments-preserved c =
    gathers_one c.args.stores.now c.loop-arguments.stores c.append_list.new.stores c.args.calls.now c.loop-arguments.arguments-index _ c.loop-arguments.invariant c.loop-arguments-test.true
    c.append_list.result c.in_ok-append_list.ensures.lists c.append_list.ensures.grows

pub returns-clause-writes : goal.returns-clause-writes
returns-clause-writes c =
    arguments_written c.args.stores.now c.loop-arguments.stores c.args.calls.now c.loop-arguments.arguments-index c.count-start.result c.count.result c.run_between.result c.loop-arguments.invariant
    c.loop-arguments-test.false c.count-start.ensures c.count.ensures c.run_between.ensures.run

pub returns-in_err-append_list-clause-fault : goal.returns-in_err-append_list-clause-fault
returns-in_err-append_list-clause-fault c = handed_on c.from_residual.result c.in_err-append_list.field-0.0 c.from_residual.ensures.1 c.in_err-append_list.ensures.fault
