use Rattle.std.proofs.Common.{◌≡◌, false, eqb, get_or, arith, rules, ltb-false, ltb-true}
use Rattle.std.proofs.lemmas.Bool.{ne_eqb}
use Rattle.template.specs.Grammar.{starts}
use Rattle.template.proofs.Fronting.{starts_false}
use Rattle.template.proofs.Backslashes.{hex4_escapes}
use Rattle.template.proofs.raw.escapes.unicode_escape.Goals as goal
use Rattle.template.proofs.raw.escapes.unicode_escape.Goals.{in_default-via-then-after-lt1, in_default-via-else-after-lt1+in_default-1}

pub returns-in_default : goal.returns-in_default
returns-in_default c =
    let after = c.args.after.now in
    let other : starts (λ b. eqb b 0x7B) after ≡ false =
    starts_false (λ b. eqb b 0x7B) after (λ l. ne_eqb (get_or after 0 0) 0x7B (λ e.
    elim c.in_default.branch [
      | in_default-via-then-after-lt1 w ↦ omega (arith, ltb-true, ltb-false)
      | in_default-via-else-after-lt1+in_default-1 w ↦ search rules
    ]))
    in
    hex4_escapes after c.leading_digits.result other c.leading_digits.ensures
