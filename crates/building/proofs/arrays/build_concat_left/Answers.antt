use Rattle.deciding.proofs.Records.{read_there}
use Rattle.building.proofs.Left.{nothing_behind, left_refused, array_refused, member_refused, left_built}
use Rattle.building.proofs.Faults.{handed_on}
use Rattle.building.proofs.arrays.build_concat_left.Goals as goal

pub returns-in_default-clause-builds : goal.returns-in_default-clause-builds
returns-in_default-clause-builds c = nothing_behind c.args.stores.now c.args.callee c.args.elements c.args.arguments c.args.taken _ _ c.in_default.ensures

pub returns-in_err-list-clause-builds : goal.returns-in_err-list-clause-builds
returns-in_err-list-clause-builds c = left_refused c.args.stores.now c.args.callee c.args.elements c.args.arguments c.args.taken c.write_elements.new.stores _ _ c.in_err-list.ensures.writes

pub returns-in_err-object-clause-builds : goal.returns-in_err-object-clause-builds
returns-in_err-object-clause-builds c =
    array_refused c.args.stores.now c.args.callee c.args.elements c.args.arguments c.args.taken c.write_elements.new.stores c.in_ok-list.list c.in_ok-list.ensures.writes _ _ c.in_err-object.ensures.pushes

pub returns-in_err-callee-clause-builds : goal.returns-in_err-callee-clause-builds
returns-in_err-callee-clause-builds c =
    member_refused c.args.stores.now c.args.callee c.args.elements c.args.arguments c.args.taken c.write_elements.new.stores c.in_ok-list.list c.in_ok-list.ensures.writes c.push.new.stores c.in_ok-object.object
    c.in_ok-object.ensures.pushes.0 c.in_ok-object.ensures.pushes.1 _ _ c.in_err-callee.ensures.pushes

pub returns-clause-builds : goal.returns-clause-builds
returns-clause-builds c =
    left_built c.args.stores.now c.args.callee c.args.elements c.args.arguments c.args.taken c.write_elements.new.stores c.in_ok-list.list c.in_ok-list.ensures.writes c.push.new.stores c.in_ok-object.object
    c.in_ok-object.ensures.pushes.0 c.in_ok-object.ensures.pushes.1 c.push-2.new.stores c.push-3.new.stores c.in-Some.left c.in-Some-node.member c.with_link.result c.in_ok-callee.callee c.push-3.result c.in-Some.ensures
    (λ p s. read_there s c.node.ensures.held c.in-Some-node.is) c.with_link.ensures c.in_ok-callee.ensures.pushes.1 c.in_ok-callee.ensures.pushes.0 c.push-3.ensures.pushes

pub returns-in_err-list-clause-fault : goal.returns-in_err-list-clause-fault
returns-in_err-list-clause-fault c = handed_on c.from_residual.result c.in_err-list.field-0.0 c.from_residual.ensures.1 c.in_err-list.ensures.fault

pub returns-in_err-object-clause-fault : goal.returns-in_err-object-clause-fault
returns-in_err-object-clause-fault c = handed_on c.from_residual-in_err-object.result c.in_err-object.field-0.0 c.from_residual-in_err-object.ensures.1 c.in_err-object.ensures.fault

pub returns-in_err-callee-clause-fault : goal.returns-in_err-callee-clause-fault
returns-in_err-callee-clause-fault c = handed_on c.from_residual-in_err-callee.result c.in_err-callee.field-0.0 c.from_residual-in_err-callee.ensures.1 c.in_err-callee.ensures.fault
