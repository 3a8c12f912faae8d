use Rattle.std.proofs.Common.{sym, arith}
use Rattle.deciding.proofs.Names.{concat_by_bytes}
use Rattle.deciding.proofs.methods.known_method.Goals as goal

pub returns-in-concat : goal.returns-in-concat
returns-in-concat c = sym (concat_by_bytes c.args.name.now (omega arith) (omega arith) (omega arith) (omega arith) (omega arith) (omega arith) (omega arith))
