use Rattle.std.proofs.Common.{get_or, ◌∙◌}
use Rattle.std.specs.Char.{digit_value}
use Rattle.std.proofs.lemmas.Bool.{ltb-true, lt-ltb}
use Rattle.template.proofs.Hex.{hex_more, hex_each, capped_more}
use Rattle.template.proofs.raw.escapes.hex_number.Goals as goal

pub returns-in_err-value : goal.returns-in_err-value
returns-in_err-value c =
    let ds = c.args.digits.now in
    let i = c.loop-d.d-index in
    rw c.from_residual.ensures (λ h. c.in_err-value.ensures.value (ltb-true (digit_value (get_or ds i 0)) 16 (hex_each ds i h c.loop-d-test.true)))

pub loop-d-preserved : goal.loop-d-preserved
loop-d-preserved c =
    let ds = c.args.digits.now in
    let i = c.loop-d.d-index in
    let digit = c.in_ok-value.ensures.value in (
      hex_more ds i c.loop-d-test.true c.loop-d.invariant.0 (lt-ltb (digit_value (get_or ds i 0)) 16 digit.0),
      c.min-number.ensures ∙ capped_more ds i c.loop-d.number c.in_ok-value.value c.loop-d-test.true c.loop-d.invariant.1 digit.1,
    )
