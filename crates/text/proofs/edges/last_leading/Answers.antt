use Rattle.std.proofs.Common.{sym, ◌∙◌}
use Rattle.text.proofs.Borders.{last_short, last_unread, last_read}
use Rattle.text.proofs.edges.last_leading.Goals as goal

pub returns-in_default : goal.returns-in_default
returns-in_default c us s = sym (last_short c.args.text.now us s c.in_default.len_below)

pub returns-in_err-three : goal.returns-in_err-three
returns-in_err-three c us s =
    c.from_residual.ensures ∙ sym (last_unread c.args.text.now us s c.in-len3-up.len_at_least c.in_err-three.ensures)

pub returns : goal.returns
returns c us s =
    last_read c.args.text.now us c.in_ok-three.field-0 c.leading_of.result s
    c.in-len3-up.len_at_least c.in_ok-three.ensures c.leading_of.ensures
