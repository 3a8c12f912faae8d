use Rattle.building.proofs.Written.{elements_refused, arguments_refused, elements_written}
use Rattle.building.proofs.Faults.{handed_on}
use Rattle.building.proofs.arrays.write_elements.Goals as goal

pub returns-in_err-append_list-clause-writes : goal.returns-in_err-append_list-clause-writes
returns-in_err-append_list-clause-writes c =
    elements_refused c.args.stores.now c.args.elements c.args.arguments c.append_list.new.stores c.from_residual.result c.from_residual.ensures.0 c.in_err-append_list.ensures.lists

pub returns-in_err-append_taken-clause-writes : goal.returns-in_err-append_taken-clause-writes
returns-in_err-append_taken-clause-writes c =
    arguments_refused c.args.stores.now c.args.elements c.args.arguments c.append_list.new.stores c.in_ok-append_list.ensures.lists c.append_taken.new.stores c.from_residual-in_err-append_taken.result
    c.from_residual-in_err-append_taken.ensures.0 c.in_err-append_taken.ensures.takes_in

pub returns-clause-writes : goal.returns-clause-writes
returns-clause-writes c =
    elements_written c.args.stores.now c.args.elements c.args.arguments c.append_list.new.stores c.in_ok-append_list.ensures.lists c.append_taken.new.stores c.count-start.result c.count.result c.run_between.result
    c.in_ok-append_taken.ensures.takes_in c.count-start.ensures c.count.ensures c.run_between.ensures.run

pub returns-in_err-append_list-clause-fault : goal.returns-in_err-append_list-clause-fault
returns-in_err-append_list-clause-fault c = handed_on c.from_residual.result c.in_err-append_list.field-0.0 c.from_residual.ensures.1 c.in_err-append_list.ensures.fault

pub returns-in_err-append_taken-clause-fault : goal.returns-in_err-append_taken-clause-fault
returns-in_err-append_taken-clause-fault c = handed_on c.from_residual-in_err-append_taken.result c.in_err-append_taken.field-0.0 c.from_residual-in_err-append_taken.ensures.1 c.in_err-append_taken.ensures.fault
