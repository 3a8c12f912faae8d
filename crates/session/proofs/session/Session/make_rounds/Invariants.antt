use Rattle.std.proofs.Common.{◌-◌}
use Rattle.session.proofs.Rounds.{Going}
use Rattle.session.proofs.session.Session.make_rounds.Given as goal

abbrev pub invariant-loop-left : goal.invariant-loop-left
invariant-loop-left g l = Going (g.H.Host.answers l.host) l.fn.self l.self l.rounds

-- Each round but the last has a rewrite.
abbrev pub decreases-loop-left : goal.decreases-loop-left
decreases-loop-left g l = 0x100000000 - l.self.rewrites
