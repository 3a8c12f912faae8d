use Rattle.std.proofs.Common.{◌≡◌, ◌<◌, ◌≤◌, false, length, get_or, arith, rules, ltb-false, ltb-true}
use Rattle.template.specs.Grammar.{is_decimal, starts}
use Rattle.template.proofs.Fronting.{starts_true, starts_false}
use Rattle.template.proofs.Hex.{decimal_true, decimal_false}
use Rattle.template.proofs.Backslashes.{null_lost, null_found}
use Rattle.template.proofs.raw.escapes.null_escape.Goals as goal
use Rattle.template.proofs.raw.escapes.null_escape.Goals.{in_default-via-then-after-lt1, in_default-via-else-after-lt1+then-after-lt48, in_default-via-else-after-lt1+else-after-lt48+else-after-lt58}

pub returns-in-48-to-57 : goal.returns-in-48-to-57
returns-in-48-to-57 c =
    let after = c.args.after.now in
    let some : 0 < length after = omega (arith, ltb-true, ltb-false) in
    let low : 48 ≤ get_or after 0 0 = omega (arith, ltb-true, ltb-false) in
    let high : get_or after 0 0 < 58 = search rules in
    null_lost after (starts_true is_decimal after some (decimal_true (get_or after 0 0) low high))

pub returns-in_default : goal.returns-in_default
returns-in_default c =
    let after = c.args.after.now in
    let other : starts is_decimal after ≡ false =
    starts_false is_decimal after (λ l. decimal_false (get_or after 0 0) (λ low high.
    elim c.in_default.branch [
      | in_default-via-then-after-lt1 w ↦ omega (arith, ltb-true, ltb-false)
      | in_default-via-else-after-lt1+then-after-lt48 w ↦ search rules
      | in_default-via-else-after-lt1+else-after-lt48+else-after-lt58 w ↦ omega (arith, ltb-true, ltb-false)
    ]))
    in
    null_found after other
