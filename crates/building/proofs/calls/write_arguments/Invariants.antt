use Rattle.building.proofs.OneCalls.{Gathering}
use Rattle.building.proofs.calls.write_arguments.Given as goal

abbrev pub invariant-loop-arguments : goal.invariant-loop-arguments
invariant-loop-arguments l = Gathering l.fn.stores l.calls l.arguments-index l.stores
