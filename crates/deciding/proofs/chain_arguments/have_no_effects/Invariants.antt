use Rattle.store.specs.Stores.{held_of}
use Rattle.deciding.proofs.ChainAsked.{StillSoFar}
use Rattle.deciding.proofs.chain_arguments.have_no_effects.Given as goal

abbrev pub invariant-loop-call : goal.invariant-loop-call
invariant-loop-call g l = StillSoFar (g.H.Host.answers l.host) (held_of l.stores) l.calls l.call-index
