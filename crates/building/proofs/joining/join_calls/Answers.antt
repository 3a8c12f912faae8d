use Rattle.std.proofs.Common.{inl}
use Rattle.building.proofs.CallWalks.{begun, finished, added, not_added}
use Rattle.building.proofs.Faults.{either_handed_on}
use Rattle.building.proofs.joining.join_calls.Goals as goal

pub loop-arguments-init : goal.loop-arguments-init
loop-arguments-init c = begun _ _ _ _ _ c.in_ok-builder.ensures.begins

pub returns-in_err-add_arguments-clause-joins : goal.returns-in_err-add_arguments-clause-joins
returns-in_err-add_arguments-clause-joins c u xss p stands enters =
    absurd (not_added _ _ _ _ _ _ c.loop-arguments.invariant c.loop-arguments-test.true _ c.add_arguments.new.self c.add_arguments.new.stores c.in_err-add_arguments.field-0.0 c.in_err-add_arguments.ensures.adds u xss p stands enters)

pub loop-arguments-preserved : goal.loop-arguments-preserved
loop-arguments-preserved c =
    added _ _ _ _ _ _ c.loop-arguments.invariant c.loop-arguments-test.true _ c.add_arguments.new.self c.add_arguments.new.stores c.in_ok-add_arguments.field-0 c.in_ok-add_arguments.ensures.adds

pub returns-clause-joins : goal.returns-clause-joins
returns-clause-joins c = finished _ _ _ _ _ _ c.loop-arguments.invariant c.loop-arguments-test.false c.finish.new.stores c.finish.result c.finish.ensures.finishes

pub returns-in_err-builder-clause-fault : goal.returns-in_err-builder-clause-fault
returns-in_err-builder-clause-fault c = either_handed_on c.from_residual.result c.in_err-builder.field-0.0 c.from_residual.ensures.1 (inl c.in_err-builder.ensures.fault)

pub returns-in_err-add_arguments-clause-fault : goal.returns-in_err-add_arguments-clause-fault
returns-in_err-add_arguments-clause-fault c = either_handed_on c.from_residual-in_err-add_arguments.result c.in_err-add_arguments.field-0.0 c.from_residual-in_err-add_arguments.ensures.1 c.in_err-add_arguments.ensures.fault
