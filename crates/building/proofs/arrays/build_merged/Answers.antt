use Rattle.building.proofs.Written.{merged_refused, merged_built}
use Rattle.building.proofs.Faults.{handed_on}
use Rattle.building.proofs.arrays.build_merged.Goals as goal

pub returns-in_err-list-clause-builds : goal.returns-in_err-list-clause-builds
returns-in_err-list-clause-builds c = merged_refused c.args.stores.now c.args.elements c.args.arguments _ _ c.in_err-list.ensures.writes

pub returns-clause-builds : goal.returns-clause-builds
returns-clause-builds c = merged_built c.args.stores.now c.write_elements.new.stores c.args.elements c.args.arguments c.in_ok-list.list _ _ c.in_ok-list.ensures.writes c.push.ensures.pushes

pub returns-in_err-list-clause-fault : goal.returns-in_err-list-clause-fault
returns-in_err-list-clause-fault c = handed_on c.from_residual.result c.in_err-list.field-0.0 c.from_residual.ensures.1 c.in_err-list.ensures.fault
