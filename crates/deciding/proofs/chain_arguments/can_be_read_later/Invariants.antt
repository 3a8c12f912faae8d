use Rattle.store.specs.Stores.{held_of}
use Rattle.deciding.proofs.ChainAsked.{ReadSoFar}
use Rattle.deciding.proofs.chain_arguments.can_be_read_later.Given as goal

abbrev pub invariant-loop-argument : goal.invariant-loop-argument
invariant-loop-argument g l = ReadSoFar (g.H.Host.answers l.host) (held_of l.stores) l.arguments l.argument-index
