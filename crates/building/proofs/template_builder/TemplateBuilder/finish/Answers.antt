use Rattle.std.proofs.Common.{arith, inl}
use Rattle.building.proofs.Finished.{text_too_long, string_built, last_not_ended, last_not_listed, quasi_listed, pieces_too_long, template_built}
use Rattle.building.proofs.Faults.{either_handed_on, for_room, overfull}
use Rattle.building.proofs.template_builder.TemplateBuilder.finish.Goals as goal

pub returns-in_err-text-clause-finishes : goal.returns-in_err-text-clause-finishes
returns-in_err-text-clause-finishes c old ps enters g =
    absurd (text_too_long old ps c.args.self c.args.stores.now enters g c.count.result c.count.ensures (omega arith) c.count-then-count-self.result c.count-then-count-self.ensures c.in_err-text.field-0.0 c.in_err-text.ensures.run)

pub returns-then-count-self-clause-finishes : goal.returns-then-count-self-clause-finishes
returns-then-count-self-clause-finishes c old ps enters g =
    string_built old ps c.args.self c.args.stores.now enters g c.count.result c.count.ensures (omega arith) c.count-then-count-self.result c.count-then-count-self.ensures c.in_ok-text.text c.in_ok-text.ensures.run
    c.push.new.stores c.push.result c.push.ensures.pushes

pub returns-in_err-quasi-clause-finishes : goal.returns-in_err-quasi-clause-finishes
returns-in_err-quasi-clause-finishes c old ps enters g =
    absurd (last_not_ended old ps c.args.self c.args.stores.now enters g c.count.result c.count.ensures (λ e. omega arith)
    c.end_quasi.new.self c.end_quasi.new.stores c.in_err-quasi.field-0.0 c.in_err-quasi.ensures.ends)

pub returns-in_err-append-clause-finishes : goal.returns-in_err-append-clause-finishes
returns-in_err-append-clause-finishes c old ps enters g =
    absurd (last_not_listed old ps c.args.self c.args.stores.now enters g c.count.result c.count.ensures (λ e. omega arith)
    c.end_quasi.new.self c.end_quasi.new.stores c.in_ok-quasi.quasi c.in_ok-quasi.ensures.ends c.append.new.self c.in_err-append.field-0.0 c.in_err-append.ensures)

pub returns-in_err-pieces-clause-finishes : goal.returns-in_err-pieces-clause-finishes
returns-in_err-pieces-clause-finishes c old ps enters g =
    let last =
    quasi_listed old ps c.args.self c.args.stores.now enters g c.count.result c.count.ensures (λ e. omega arith)
    c.end_quasi.new.self c.end_quasi.new.stores c.in_ok-quasi.quasi c.in_ok-quasi.ensures.ends c.append.new.self c.in_ok-append.field-0 c.in_ok-append.ensures
    in
    absurd (pieces_too_long old ps c.args.self c.args.stores.now enters g c.count.result c.count.ensures (λ e. omega arith)
    c.end_quasi.new.self _ c.in_ok-quasi.ensures.ends.0 last c.count-2.result c.count-2.ensures c.in_err-pieces.field-0.0 c.in_err-pieces.ensures.run)

pub returns-clause-finishes : goal.returns-clause-finishes
returns-clause-finishes c old ps enters g =
    let last =
    quasi_listed old ps c.args.self c.args.stores.now enters g c.count.result c.count.ensures (λ e. omega arith)
    c.end_quasi.new.self c.end_quasi.new.stores c.in_ok-quasi.quasi c.in_ok-quasi.ensures.ends c.append.new.self c.in_ok-append.field-0 c.in_ok-append.ensures
    in
    template_built old ps c.args.self c.args.stores.now enters g c.count.result c.count.ensures (λ e. omega arith)
    c.end_quasi.new.self _ c.in_ok-quasi.ensures.ends.0 last c.count-2.result c.count-2.ensures c.in_ok-pieces.pieces c.in_ok-pieces.ensures.run
    c.push-2.new.stores c.push-2.result c.push-2.ensures.pushes

pub returns-in_err-text-clause-fault : goal.returns-in_err-text-clause-fault
returns-in_err-text-clause-fault c = either_handed_on c.from_residual.result c.in_err-text.field-0.0 c.from_residual.ensures.1 (inl c.in_err-text.ensures.fault)

pub returns-then-count-self-clause-fault : goal.returns-then-count-self-clause-fault
returns-then-count-self-clause-fault c = for_room c.push.result c.push.ensures.fault

pub returns-in_err-quasi-clause-fault : goal.returns-in_err-quasi-clause-fault
returns-in_err-quasi-clause-fault c = either_handed_on c.from_residual-in_err-quasi.result c.in_err-quasi.field-0.0 c.from_residual-in_err-quasi.ensures.1 c.in_err-quasi.ensures.fault

pub returns-in_err-append-clause-fault : goal.returns-in_err-append-clause-fault
returns-in_err-append-clause-fault c = either_handed_on c.from_residual-in_err-append.result c.in_err-append.field-0.0 c.from_residual-in_err-append.ensures.1 (inl (overfull c.in_err-append.field-0.0 c.in_err-append.ensures.2))

pub returns-in_err-pieces-clause-fault : goal.returns-in_err-pieces-clause-fault
returns-in_err-pieces-clause-fault c = either_handed_on c.from_residual-in_err-pieces.result c.in_err-pieces.field-0.0 c.from_residual-in_err-pieces.ensures.1 (inl c.in_err-pieces.ensures.fault)

pub returns-clause-fault : goal.returns-clause-fault
returns-clause-fault c = for_room c.push-2.result c.push-2.ensures.fault
