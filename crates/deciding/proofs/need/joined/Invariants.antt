use Rattle.store.specs.Stores.{held_of}
use Rattle.deciding.proofs.JoinedCalls.{JoinedSoFar}
use Rattle.deciding.proofs.need.joined.Given as goal

abbrev pub invariant-loop-call : goal.invariant-loop-call
invariant-loop-call l = JoinedSoFar (held_of l.stores) l.fn.base l.calls l.pieces l.call-index
