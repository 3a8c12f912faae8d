use Rattle.template.proofs.Backslashes.{hex_escapes}
use Rattle.template.proofs.raw.escapes.hex_escape.Goals as goal

pub returns : goal.returns
returns c = hex_escapes c.args.after.now c.leading_digits.result c.leading_digits.ensures
