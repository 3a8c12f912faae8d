use Rattle.std.proofs.lemmas.Result.{err_from_is_err_and}
use Rattle.file.proofs.Answering.{records_refused, links_refused, all_checked}
use Rattle.file.proofs.loaded.loading.check.Goals as goal

pub returns-in_err-records : goal.returns-in_err-records
returns-in_err-records c file rooms k =
    let p = err_from_is_err_and c.from_residual.result c.from_residual.ensures.1 in
    rw (p.1, p.2) (records_refused file rooms c.args.sections k.0 k.1 c.in_err-records.field-0.0 c.in_err-records.ensures)

pub returns-in_err-check_links : goal.returns-in_err-check_links
returns-in_err-check_links c file rooms k =
    let p = err_from_is_err_and c.from_residual-in_err-check_links.result c.from_residual-in_err-check_links.ensures.1 in
    rw (p.1, p.2)
    (links_refused file rooms c.args.sections k.0 k.1 c.in_ok-records.ensures.1 c.in_ok-records.records c.in_ok-records.ensures.0
    c.in_err-check_links.field-0.0 c.in_err-check_links.ensures)

pub returns : goal.returns
returns c file rooms k =
    all_checked file rooms c.args.sections k.0 k.1 c.in_ok-records.ensures.1 c.in_ok-records.records c.in_ok-records.ensures.0 c.in_ok-check_links.ensures
