use Rattle.std.proofs.Common.{◌≡◌, Some, vec_items, rules, arith}
use Rattle.std.proofs.lemmas.Result.{err_from_is_err_and}
use Rattle.script.proofs.Pairs.{refused, pair_again, pair_refused, none_left, one_left}
use Rattle.script.proofs.hex.bytes_of.Goals as goal

pub returns-in_err-ok_or : goal.returns-in_err-ok_or
returns-in_err-ok_or c =
    let p = err_from_is_err_and c.from_residual.result c.from_residual.ensures.1 in
    rw (p.1)
    (refused c.args.digits.now p.0 (pair_refused (vec_items c.loop-rest.bytes) c.loop-rest.rest.now _ (search rules) c.loop-rest.invariant (rw c.in_err-ok_or.ensures.ok_part at c.byte_of.ensures)))

pub loop-rest-preserved : goal.loop-rest-preserved
loop-rest-preserved c = pair_again (vec_items c.loop-rest.bytes) _ c.loop-rest.rest.now _ c.in_ok-ok_or.field-0 (search rules) c.loop-rest.invariant c.in_ok-push.ensures.items
    (let some : c.byte_of.result ≡ Some c.in_ok-ok_or.field-0 = grind arith in (rw some at c.byte_of.ensures).1)

pub returns-then-is_empty : goal.returns-then-is_empty
returns-then-is_empty c = none_left _ _ _ (search rules) c.loop-rest.invariant

pub returns-else-is_empty : goal.returns-else-is_empty
returns-else-is_empty c = one_left _ c.loop-rest.rest.now _ (search rules) c.loop-rest.invariant
