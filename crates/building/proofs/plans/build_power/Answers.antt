use Rattle.building.proofs.Plain.{coerced_first, number_built, coerced_built}
use Rattle.building.proofs.Faults.{handed_on}
use Rattle.building.proofs.plans.build_power.Goals as goal
use Rattle.building.proofs.plans.build_power.Goals.{in-Number, in-Coerced+in_ok-right-in-Coerced}

pub returns-in_err-right-in-Coerced-clause-builds : goal.returns-in_err-right-in-Coerced-clause-builds
returns-in_err-right-in-Coerced-clause-builds c = coerced_first c.args.base _ _ c.in-Coerced.is c.in_err-right-in-Coerced.ensures.pushes

pub returns-clause-builds : goal.returns-clause-builds
returns-clause-builds c =
    elim c.match-exponent.branch [
      | in-Number w ↦ number_built c.args.base _ _ w.in-Number.is w.stores-is w.right-is c.push-2.ensures.pushes
      | in-Coerced+in_ok-right-in-Coerced w ↦
          coerced_built c.args.base _ _ w.in-Coerced.is w.stores-is w.right-is w.in_ok-right-in-Coerced.ensures.pushes.0 w.in_ok-right-in-Coerced.ensures.pushes.1 c.push-2.ensures.pushes
    ]

pub returns-in_err-right-in-Coerced-clause-fault : goal.returns-in_err-right-in-Coerced-clause-fault
returns-in_err-right-in-Coerced-clause-fault c = handed_on c.from_residual.result c.in_err-right-in-Coerced.field-0.0 c.from_residual.ensures.1 c.in_err-right-in-Coerced.ensures.fault
