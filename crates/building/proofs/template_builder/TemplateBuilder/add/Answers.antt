use Rattle.std.proofs.Common.{[], ◌∷◌, refl}
use Rattle.std.proofs.lemmas.Result.{err_from_is_err_and}
use Rattle.store.specs.Stores.{held_of}
use Rattle.building.proofs.Argued.{a_string, a_spread, another, read_as}
use Rattle.building.proofs.Growths.{argument_in_front, spread_in_front, spread_added, string_added, not_ended, other_added}
use Rattle.building.proofs.Faults.{either_handed_on, for_room, not_appended}
use Rattle.building.proofs.template_builder.TemplateBuilder.add.Goals as goal

pub returns-in-String-clause-adds : goal.returns-in-String-clause-adds
returns-in-String-clause-adds c old ps xs rest enters stands g =
    let w =
    a_string (held_of old) g.more.nodes c.args.number xs c.in-String.text stands
    (read_as c.args.number c.in-Some.ensures.held c.in-String.is g.grew.nodes_grow.0)
    in
    string_added old ps rest c.args.self.now c.args.stores.now enters w.label w.text (argument_in_front w.is g) c.in-String.text w.inside w.spelled
    c.join_text.new.text c.join_text.result c.join_text.ensures.joins

pub returns-in-Spread-clause-adds : goal.returns-in-Spread-clause-adds
returns-in-Spread-clause-adds c old ps xs rest enters stands g =
    let w =
    a_spread (held_of old) g.more.nodes c.args.number xs c.in-Spread.field-0 stands
    (read_as c.args.number c.in-Some.ensures.held c.in-Spread.is g.grew.nodes_grow.0)
    in
    spread_added old ps rest c.args.self.now c.args.stores.now enters w.label w.value (spread_in_front w.is g)

pub returns-in_err-quasi-in_default-argument-clause-adds : goal.returns-in_err-quasi-in_default-argument-clause-adds
returns-in_err-quasi-in_default-argument-clause-adds c old ps xs rest enters stands g =
    let r = err_from_is_err_and c.from_residual.result c.from_residual.ensures.1 in
    let w =
    another (held_of old) g.more.nodes c.args.number xs c.in-Some.argument stands
    (read_as c.args.number c.in-Some.ensures.held refl g.grew.nodes_grow.0) c.in_default-argument.not-String c.in_default-argument.not-Spread
    in
    rw r.1
    (not_ended old ps rest c.args.self.now c.args.stores.now enters w.value (argument_in_front w.is g) w.no_text c.args.number w.stands.numbered w.stands.denoted
    c.end_quasi.new.self c.end_quasi.new.stores c.in_err-quasi-in_default-argument.field-0.0 c.in_err-quasi-in_default-argument.ensures.ends)

pub returns-in_ok-quasi-in_default-argument-clause-adds : goal.returns-in_ok-quasi-in_default-argument-clause-adds
returns-in_ok-quasi-in_default-argument-clause-adds c old ps xs rest enters stands g =
    let w =
    another (held_of old) g.more.nodes c.args.number xs c.in-Some.argument stands
    (read_as c.args.number c.in-Some.ensures.held refl g.grew.nodes_grow.0) c.in_default-argument.not-String c.in_default-argument.not-Spread
    in
    other_added old ps rest c.args.self.now c.args.stores.now enters w.value (argument_in_front w.is g) w.no_text c.args.number w.stands.numbered w.stands.denoted
    c.end_quasi.new.self c.end_quasi.new.stores c.in_ok-quasi-in_default-argument.quasi c.in_ok-quasi-in_default-argument.ensures.ends c.append.new.self c.append.result c.append.ensures

pub returns-in-String-clause-fault : goal.returns-in-String-clause-fault
returns-in-String-clause-fault c = for_room c.join_text.result c.join_text.ensures.fault

pub returns-in_err-quasi-in_default-argument-clause-fault : goal.returns-in_err-quasi-in_default-argument-clause-fault
returns-in_err-quasi-in_default-argument-clause-fault c = either_handed_on c.from_residual.result c.in_err-quasi-in_default-argument.field-0.0 c.from_residual.ensures.1 c.in_err-quasi-in_default-argument.ensures.fault

pub returns-in_ok-quasi-in_default-argument-clause-fault : goal.returns-in_ok-quasi-in_default-argument-clause-fault
returns-in_ok-quasi-in_default-argument-clause-fault c = for_room c.append.result (not_appended c.end_quasi.new.stores.entries (c.in_ok-quasi-in_default-argument.quasi ∷ c.args.number ∷ []) c.append.new.self c.append.result c.append.ensures)
