use Rattle.std.proofs.Common.{◌≡◌, false, ◌∷◌, ◌++◌, sym, subst, arith, rules, ltb-false, ltb-true}
use lib.Utf8.{encode}
use Rattle.template.specs.Grammar.{is_decimal}
use Rattle.template.specs.Fronts.{StandsFor}
use Rattle.template.proofs.Hex.{decimal_false}
use Rattle.template.proofs.Backslashes.{decimal_frontless, simple_found}
use Rattle.template.proofs.raw.escapes.escape.Goals as goal
use Rattle.template.proofs.raw.escapes.escape.Goals.{in_default-via-then-c-lt48, in_default-via-else-c-lt48+else-c-lt58}

pub returns-in-1-to-9 : goal.returns-in-1-to-9
returns-in-1-to-9 c = decimal_frontless c.args.c c.args.rest.now (omega arith) (omega arith)

pub returns-in_default : goal.returns-in_default
returns-in_default c =
    let x = c.args.c in
    let rest = c.args.rest.now in
    let digit : is_decimal x ≡ false =
    decimal_false x (λ low high.
    elim c.in_default.branch [
      | in_default-via-then-c-lt48 w ↦ omega (arith, ltb-true, ltb-false)
      | in_default-via-else-c-lt48+else-c-lt58 w ↦ omega (arith, ltb-true, ltb-false)
    ])
    in
    subst (λ code. StandsFor (0x5C ∷ (encode x ++ rest)) code rest) (sym c.simple_escape.ensures) (simple_found x rest c.ranges.c.0 c.requires digit (λ e. search rules) (λ e. search rules))
