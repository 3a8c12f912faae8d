use Rattle.std.proofs.lemmas.Result.{err_from_is_err_and}
use Rattle.building.proofs.Growths.{begun, not_begun}
use Rattle.building.proofs.Faults.{handed_on}
use Rattle.building.proofs.template_builder.TemplateBuilder.begin.Goals as goal

pub returns-in_err-join_text-clause-begins : goal.returns-in_err-join_text-clause-begins
returns-in_err-join_text-clause-begins c u xs p enters =
    let r = err_from_is_err_and c.from_residual.result c.from_residual.ensures.1 in
    rw r.1 (not_begun c.args.stores.now c.args.base c.join_text.new.text c.count.result c.count-2.result c.count.ensures c.count-2.ensures u xs p enters
    c.in_err-join_text.field-0.0 c.in_err-join_text.ensures.joins)

pub returns-clause-begins : goal.returns-clause-begins
returns-clause-begins c u xs p enters =
    begun c.args.stores.now c.args.base c.join_text.new.text c.count.result c.count-2.result c.count.ensures c.count-2.ensures u xs p enters
    c.in_ok-join_text.field-0 c.in_ok-join_text.ensures.joins

pub returns-in_err-join_text-clause-fault : goal.returns-in_err-join_text-clause-fault
returns-in_err-join_text-clause-fault c = handed_on c.from_residual.result c.in_err-join_text.field-0.0 c.from_residual.ensures.1 c.in_err-join_text.ensures.fault
