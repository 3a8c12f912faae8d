use Rattle.std.proofs.Common.{◌∙◌, ap₂, ◌-◌, arith}
use Rattle.building.proofs.Units.{unit_full, unit_built}
use Rattle.building.proofs.Faults.{handed_on, overfull}
use Rattle.building.proofs.plans.build_unit.Goals as goal

pub returns-in_err-append-clause-builds : goal.returns-in_err-append-clause-builds
returns-in_err-append-clause-builds c = unit_full _ _ _ (grind arith) c.in_err-append.ensures.2

pub returns-clause-builds : goal.returns-clause-builds
returns-clause-builds c =
    unit_built _ c.in_ok-text.text _ _ (grind arith) c.in_ok-append.ensures.0 (c.in_ok-text.ensures.run.0 ∙ c.count-start.ensures)
    (c.in_ok-text.ensures.run.1 ∙ ap₂ (λ i j. i - j) c.count.ensures c.count-start.ensures) c.push.ensures.pushes

pub returns-in_err-append-clause-fault : goal.returns-in_err-append-clause-fault
returns-in_err-append-clause-fault c = handed_on c.from_residual-in_err-append.result c.in_err-append.field-0.0 c.from_residual-in_err-append.ensures.1 (overfull c.in_err-append.field-0.0 c.in_err-append.ensures.2)

pub returns-in_err-text-clause-fault : goal.returns-in_err-text-clause-fault
returns-in_err-text-clause-fault c = handed_on c.from_residual-in_err-text.result c.in_err-text.field-0.0 c.from_residual-in_err-text.ensures.1 c.in_err-text.ensures.fault
