use Rattle.std.proofs.lemmas.Result.{err_from_is_err_and}
use Rattle.building.proofs.ArgumentWalks.{set_out, walked, not_missing, refused, step}
use Rattle.building.proofs.Faults.{either_handed_on}
use Rattle.building.proofs.template_builder.TemplateBuilder.add_arguments.Goals as goal

pub loop-i-init : goal.loop-i-init
loop-i-init c = set_out _ _ _

pub returns-in_default-clause-adds : goal.returns-in_default-clause-adds
returns-in_default-clause-adds c = not_missing _ _ _ _ _ _ c.loop-i.invariant c.loop-i-test.true _ c.get.ensures c.in_default.is

pub returns-in_err-add-clause-adds : goal.returns-in_err-add-clause-adds
returns-in_err-add-clause-adds c old ps xs rest enters lists g =
    let r = err_from_is_err_and c.from_residual.result c.from_residual.ensures.1 in
    rw r.1 (refused _ _ _ _ _ _ c.loop-i.invariant c.loop-i-test.true c.in-Some.number c.in-Some.ensures c.add.new.self c.add.new.stores c.in_err-add.field-0.0 c.in_err-add.ensures.adds old ps xs rest enters lists g)

pub loop-i-preserved : goal.loop-i-preserved
loop-i-preserved c = step _ _ _ _ _ _ c.loop-i.invariant c.loop-i-test.true c.in-Some.number c.in-Some.ensures c.add.new.self c.add.new.stores c.in_ok-add.field-0 c.in_ok-add.ensures.adds

pub returns-clause-adds : goal.returns-clause-adds
returns-clause-adds c = walked _ _ _ _ _ _ c.loop-i.invariant c.loop-i-test.false

pub returns-in_err-add-clause-fault : goal.returns-in_err-add-clause-fault
returns-in_err-add-clause-fault c = either_handed_on c.from_residual.result c.in_err-add.field-0.0 c.from_residual.ensures.1 c.in_err-add.ensures.fault
