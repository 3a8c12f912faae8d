use Rattle.std.proofs.Common.{inl, inr}
use Rattle.std.proofs.lemmas.Result.{err_from_is_err_and}
use Rattle.building.proofs.Escapes.{as_it_is, no_room, too_long, with_raw}
use Rattle.building.proofs.Faults.{either_handed_on, not_measured, not_raw}
use Rattle.building.proofs.quasi.write_quasi.Goals as goal

pub returns-then-not-is_escaped-clause-writes : goal.returns-then-not-is_escaped-clause-writes
returns-then-not-is_escaped-clause-writes c front u e =
    as_it_is c.args.text.now c.args.start front u e c.count-end.result c.in_ok-cooked.cooked c.count-end.ensures c.in_ok-cooked.ensures.run
    c.is_escaped.result c.in_ok-of.field-0 c.items.result.now c.items.ensures c.in_ok-of.ensures c.is_escaped.ensures c.if-not-is_escaped.true

pub returns-in_err-append_raw-clause-writes : goal.returns-in_err-append_raw-clause-writes
returns-in_err-append_raw-clause-writes c front u e =
    let p = err_from_is_err_and c.from_residual-in_err-append_raw.result c.from_residual-in_err-append_raw.ensures.1 in
    rw p.1
    (no_room c.args.text.now c.args.start front u e c.count-end.result c.in_ok-cooked.cooked c.count-end.ensures c.in_ok-cooked.ensures.run
    c.is_escaped.result c.in_ok-of.field-0 c.items.result.now c.items.ensures c.in_ok-of.ensures c.is_escaped.ensures c.if-not-is_escaped.false
    c.append_raw.new.self c.in_err-append_raw.field-0.0 c.in_err-append_raw.ensures)

pub returns-in_err-raw-clause-writes : goal.returns-in_err-raw-clause-writes
returns-in_err-raw-clause-writes c front u e =
    let p = err_from_is_err_and c.from_residual-in_err-raw.result c.from_residual-in_err-raw.ensures.1 in
    rw p.1
    (too_long c.args.text.now c.args.start front u e c.count-end.result c.in_ok-cooked.cooked c.count-end.ensures c.in_ok-cooked.ensures.run
    c.is_escaped.result c.in_ok-of.field-0 c.items.result.now c.items.ensures c.in_ok-of.ensures c.is_escaped.ensures c.if-not-is_escaped.false
    c.append_raw.new.self c.in_ok-append_raw.field-0 c.in_ok-append_raw.ensures c.count.result c.count.ensures c.in_err-raw.field-0.0 c.in_err-raw.ensures.run)

pub returns-clause-writes : goal.returns-clause-writes
returns-clause-writes c front u e =
    with_raw c.args.text.now c.args.start front u e c.count-end.result c.in_ok-cooked.cooked c.count-end.ensures c.in_ok-cooked.ensures.run
    c.is_escaped.result c.in_ok-of.field-0 c.items.result.now c.items.ensures c.in_ok-of.ensures c.is_escaped.ensures c.if-not-is_escaped.false
    c.append_raw.new.self c.in_ok-append_raw.field-0 c.in_ok-append_raw.ensures c.count.result c.count.ensures c.in_ok-raw.raw c.in_ok-raw.ensures.run

pub returns-in_err-cooked-clause-fault : goal.returns-in_err-cooked-clause-fault
returns-in_err-cooked-clause-fault c = either_handed_on c.from_residual.result c.in_err-cooked.field-0.0 c.from_residual.ensures.1 (inl c.in_err-cooked.ensures.fault)

pub returns-in_err-of-clause-fault : goal.returns-in_err-of-clause-fault
returns-in_err-of-clause-fault c = either_handed_on c.from_residual-in_err-of.result c.in_err-of.field-0.0 c.from_residual-in_err-of.ensures.1 (inr (not_measured _ c.in_err-of.field-0.0 c.in_err-of.ensures))

pub returns-in_err-append_raw-clause-fault : goal.returns-in_err-append_raw-clause-fault
returns-in_err-append_raw-clause-fault c = either_handed_on c.from_residual-in_err-append_raw.result c.in_err-append_raw.field-0.0 c.from_residual-in_err-append_raw.ensures.1 (not_raw c.args.text.now c.args.start c.append_raw.new.self c.in_err-append_raw.field-0.0 c.in_err-append_raw.ensures)

pub returns-in_err-raw-clause-fault : goal.returns-in_err-raw-clause-fault
returns-in_err-raw-clause-fault c = either_handed_on c.from_residual-in_err-raw.result c.in_err-raw.field-0.0 c.from_residual-in_err-raw.ensures.1 (inl c.in_err-raw.ensures.fault)
