use Rattle.std.proofs.Common.{inl}
use Rattle.building.proofs.Faults.{either_handed_on}
use Rattle.building.proofs.template_builder.TemplateBuilder.end_quasi.Goals as goal

pub returns-in_err-quasi-clause-fault : goal.returns-in_err-quasi-clause-fault
returns-in_err-quasi-clause-fault c = either_handed_on c.from_residual.result c.in_err-quasi.field-0.0 c.from_residual.ensures.1 c.in_err-quasi.ensures.fault

pub returns-in_err-number-clause-fault : goal.returns-in_err-number-clause-fault
returns-in_err-number-clause-fault c = either_handed_on c.from_residual-in_err-number.result c.in_err-number.field-0.0 c.from_residual-in_err-number.ensures.1 (inl c.in_err-number.ensures.fault)
