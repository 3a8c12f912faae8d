use Rattle.building.proofs.CallWalks.{CallsWalked}
use Rattle.building.proofs.joining.join_calls.Given as goal

abbrev pub invariant-loop-arguments : goal.invariant-loop-arguments
invariant-loop-arguments l = CallsWalked l.fn.stores l.fn.base l.calls l.arguments-index l.builder l.stores
