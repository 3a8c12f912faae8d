use Rattle.lending.proofs.Once.{swept_once}
use Rattle.lending.proofs.sweeping.sweep.Goals as goal

pub returns : goal.returns
returns g c =
    swept_once (g.H.Host.answers c.args.host.now) c.args.loaded c.args.support c.open-session.result c.sweep-swept.new.self c.end.result c.sweep-swept.result
    c.open-session.ensures c.sweep-swept.ensures.swept c.sweep-swept.ensures.wrote c.sweep-swept.ensures.given c.end.ensures
