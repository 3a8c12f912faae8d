use Rattle.std.proofs.Common.{sym, ◌∙◌}
use Rattle.text.proofs.Borders.{first_short, first_unread, first_read}
use Rattle.text.proofs.edges.first_trailing.Goals as goal

pub returns-in_default : goal.returns-in_default
returns-in_default c us s = sym (first_short c.args.text.now us s c.in_default.len_below)

pub returns-in_err-three : goal.returns-in_err-three
returns-in_err-three c us s =
    c.from_residual.ensures ∙ sym (first_unread c.args.text.now us s c.in_err-three.ensures)

pub returns : goal.returns
returns c us s =
    first_read c.args.text.now us c.in_ok-three.field-0 c.trailing_of.result s
    c.in-len3-up.len_at_least c.in_ok-three.ensures c.trailing_of.ensures
