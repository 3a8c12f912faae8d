use Rattle.std.proofs.Common.{arith}
use Rattle.std.proofs.lemmas.Result.{err_from_is_err_and}
use Rattle.store.proofs.Escaping.{refused}
use Rattle.store.proofs.raw.append_raw.Goals as goal

pub returns-in_err-count : goal.returns-in_err-count
returns-in_err-count c =
    let p = err_from_is_err_and c.from_residual.result c.from_residual.ensures.1 in
    rw (p.1, p.2)
    (refused c.args.bytes.now c.split_at_mut-held.result.0.now c.split_at_mut-held.result.1.now c.escape.new.out c.args.start c.args.len c.in_err-count.field-0.0
    c.split_at_mut-held.ensures.value c.split_at_mut-held.ensures.front_len (omega arith) c.in_err-count.ensures)
