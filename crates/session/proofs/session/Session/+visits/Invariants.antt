use Rattle.std.proofs.Common.{◌+◌, ◌-◌, ◌*◌}
use Rattle.session.proofs.Sweeping.{Going}
use Rattle.session.proofs.session.Session.+visits.Given as goal

-- A visit goes down, and what is below it is one step of it.
abbrev pub decreases-visit : goal.decreases-visit
decreases-visit g l = 2 * (256 - l.self.now.depth) + 1

abbrev pub decreases-visit_below : goal.decreases-visit_below
decreases-visit_below g l = 2 * (256 - l.self.now.depth)

abbrev pub invariant-visit_below-loop-child : goal.invariant-visit_below-loop-child
invariant-visit_below-loop-child g l = Going (g.H.Host.answers l.host) l.fn.self l.self l.children l.child l.left
