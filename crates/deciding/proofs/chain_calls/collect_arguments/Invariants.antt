use Rattle.store.specs.Stores.{held_of}
use Rattle.deciding.proofs.ConcatWalk.{Walked}
use Rattle.deciding.proofs.chain_calls.collect_arguments.Given as goal

abbrev pub invariant-loop-i : goal.invariant-loop-i
invariant-loop-i l = Walked (held_of l.stores) l.fn.node l.i l.current l.table
