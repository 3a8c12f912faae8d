use Rattle.std.proofs.Common.{sym, arith}
use Rattle.session.proofs.Parent.{last_taken}
use Rattle.session.proofs.session.Session.parent.Goals as goal

-- src/session/rewrites.rt:118:5
pub returns-else-self-eq0 : goal.returns-else-self-eq0
returns-else-self-eq0 c =
    let s = c.args.self.now in
    sym (last_taken s.path s.depth _ (omega arith) (omega (arith, s.within)))
