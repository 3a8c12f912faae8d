use Rattle.store.specs.Stores.{held_of}
use Rattle.deciding.proofs.ChainAsked.{AllSoFar}
use Rattle.deciding.proofs.chain_arguments.all_can_interleave.Given as goal

abbrev pub invariant-loop-i : goal.invariant-loop-i
invariant-loop-i g l = AllSoFar (g.H.Host.answers l.host) (held_of l.stores) l.calls l.i l.may_coerce_object
