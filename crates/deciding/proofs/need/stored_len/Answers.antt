use Rattle.std.proofs.Common.{arith}
use Rattle.deciding.proofs.Giving.{two_bytes, three_bytes}
use Rattle.deciding.proofs.need.stored_len.Goals as goal

pub returns-in-128-to-2047 : goal.returns-in-128-to-2047
returns-in-128-to-2047 c = two_bytes c.args.unit (omega arith) (omega arith)

pub returns-in_default : goal.returns-in_default
returns-in_default c = three_bytes c.args.unit (omega arith) (omega arith)
