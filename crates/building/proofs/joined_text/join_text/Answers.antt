use Rattle.std.proofs.Common.{sym, subst, ◌+◌}
use Rattle.std.proofs.lemmas.Result.{err_from_is_err_and}
use Rattle.building.specs.Texts.{TwoTexts, Meeting}
use Rattle.building.proofs.Joins.{apart, no_pair, met}
use Rattle.building.proofs.Faults.{handed_on, overfull, not_within}
use Rattle.building.proofs.joined_text.join_text.Goals as goal

pub returns-in_default-clause-joins : goal.returns-in_default-clause-joins
returns-in_default-clause-joins c front u v two =
    apart c.args.text.now c.args.start c.args.run front u v two c.append_within.new.self c.append_within.result
    (c.in_default.ensures front u v (subst (λ l. TwoTexts l c.args.start c.args.run front u v) (sym c.items.ensures) two)) c.append_within.ensures

pub returns-in_err-append-clause-joins : goal.returns-in_err-append-clause-joins
returns-in_err-append-clause-joins c front u v two =
    let p = err_from_is_err_and c.from_residual.result c.from_residual.ensures.1 in
    rw p.1
    (no_pair c.args.text.now c.args.start c.args.run front u v two c.as_bytes.result.now
    (subst (Meeting u v) (sym c.as_bytes.ensures.bytes) (c.in-Some.ensures front u v (subst (λ l. TwoTexts l c.args.start c.args.run front u v) (sym c.items.ensures) two))) c.shorten.new.self c.shorten.ensures.fewer c.shorten.ensures.memory
    c.append.new.self c.in_err-append.field-0.0 c.in_err-append.ensures)

pub returns-clause-joins : goal.returns-clause-joins
returns-clause-joins c front u v two =
    met c.args.text.now c.args.start c.args.run front u v two c.as_bytes.result.now
    (subst (Meeting u v) (sym c.as_bytes.ensures.bytes) (c.in-Some.ensures front u v (subst (λ l. TwoTexts l c.args.start c.args.run front u v) (sym c.items.ensures) two))) c.shorten.new.self c.shorten.ensures.fewer c.shorten.ensures.memory
    c.append.new.self c.in_ok-append.field-0 c.in_ok-append.ensures c.append_within-2.new.self c.append_within-2.result c.saturating_sub.result c.saturating_sub.ensures c.append_within-2.ensures

pub returns-in_default-clause-fault : goal.returns-in_default-clause-fault
returns-in_default-clause-fault c = not_within c.args.text.now c.args.run.start c.args.run.len c.append_within.new.self c.append_within.result c.append_within.ensures

pub returns-in_err-append-clause-fault : goal.returns-in_err-append-clause-fault
returns-in_err-append-clause-fault c = handed_on c.from_residual.result c.in_err-append.field-0.0 c.from_residual.ensures.1 (overfull c.in_err-append.field-0.0 c.in_err-append.ensures.2)

pub returns-clause-fault : goal.returns-clause-fault
returns-clause-fault c = not_within c.append.new.self (c.args.run.start + 3) c.saturating_sub.result c.append_within-2.new.self c.append_within-2.result c.append_within-2.ensures
