use Rattle.store.specs.Stores.{held_of}
use Rattle.deciding.proofs.ChainCounts.{CountedSoFar}
use Rattle.deciding.proofs.chain_arguments.count_arguments.Given as goal

abbrev pub invariant-loop-call : goal.invariant-loop-call
invariant-loop-call l = CountedSoFar (held_of l.stores) l.calls l.call-index l.arguments_so_far l.expressions_so_far
