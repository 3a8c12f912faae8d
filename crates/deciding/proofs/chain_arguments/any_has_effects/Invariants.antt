use Rattle.store.specs.Stores.{held_of}
use Rattle.deciding.proofs.ChainAsked.{PartsSoFar}
use Rattle.deciding.proofs.chain_arguments.any_has_effects.Given as goal

abbrev pub invariant-loop-argument : goal.invariant-loop-argument
invariant-loop-argument g l = PartsSoFar (g.H.Host.answers l.host) (held_of l.stores) l.arguments l.argument-index
