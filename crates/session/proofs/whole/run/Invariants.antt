use Rattle.session.proofs.Shortening.{Going}
use Rattle.session.proofs.whole.run.Given as goal

abbrev pub invariant-loop-i : goal.invariant-loop-i
invariant-loop-i g l = Going g.H.Host.answers l.initial.session l.session l.calls l.initial.answers l.answers l.i
