use Rattle.building.proofs.Taking.{Going}
use Rattle.building.proofs.arrays.append_taken.Given as goal

abbrev pub invariant-loop-i : goal.invariant-loop-i
invariant-loop-i l = Going l.fn.stores l.arguments l.i l.stores
