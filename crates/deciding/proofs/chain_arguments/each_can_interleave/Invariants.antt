use Rattle.store.specs.Stores.{held_of}
use Rattle.deciding.proofs.ChainAsked.{EachSoFar}
use Rattle.deciding.proofs.chain_arguments.each_can_interleave.Given as goal

abbrev pub invariant-loop-call : goal.invariant-loop-call
invariant-loop-call g l = EachSoFar (g.H.Host.answers l.host) (held_of l.stores) l.calls l.call-index
