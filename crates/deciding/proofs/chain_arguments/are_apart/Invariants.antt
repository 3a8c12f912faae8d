use Rattle.store.specs.Stores.{held_of}
use Rattle.deciding.proofs.ChainAsked.{ApartSoFar}
use Rattle.deciding.proofs.chain_arguments.are_apart.Given as goal

abbrev pub invariant-loop-later : goal.invariant-loop-later
invariant-loop-later g l = ApartSoFar (g.H.Host.answers l.host) (held_of l.stores) l.calls l.later
