use Rattle.store.specs.Stores.{held_of}
use Rattle.deciding.proofs.Giving.{GivenSoFar}
use Rattle.deciding.proofs.need.merged_len.Given as goal

abbrev pub invariant-loop-argument : goal.invariant-loop-argument
invariant-loop-argument l = GivenSoFar (held_of l.stores) l.arguments l.fn.elements.len l.len l.argument-index
