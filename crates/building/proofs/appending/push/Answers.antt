use Rattle.building.proofs.Faults.{handed_on, overfull}
use Rattle.building.proofs.appending.push.Goals as goal

pub returns-in_err-append-clause-fault : goal.returns-in_err-append-clause-fault
returns-in_err-append-clause-fault c = handed_on c.from_residual.result c.in_err-append.field-0.0 c.from_residual.ensures.1 (overfull c.in_err-append.field-0.0 c.in_err-append.ensures.2)
