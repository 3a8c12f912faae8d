use Rattle.building.proofs.Plain.{void_zero_first, void_zero_built}
use Rattle.building.proofs.Faults.{handed_on}
use Rattle.building.proofs.plans.build_void_zero.Goals as goal

pub returns-in_err-operand-clause-builds : goal.returns-in_err-operand-clause-builds
returns-in_err-operand-clause-builds c = void_zero_first _ _ c.in_err-operand.ensures.pushes

pub returns-clause-builds : goal.returns-clause-builds
returns-clause-builds c = void_zero_built c.in_ok-operand.ensures.pushes.0 c.in_ok-operand.ensures.pushes.1 c.push-2.ensures.pushes

pub returns-in_err-operand-clause-fault : goal.returns-in_err-operand-clause-fault
returns-in_err-operand-clause-fault c = handed_on c.from_residual.result c.in_err-operand.field-0.0 c.from_residual.ensures.1 c.in_err-operand.ensures.fault
