use Rattle.store.specs.Stores.{held_of}
use Rattle.deciding.proofs.Interleaves.{Gone}
use Rattle.deciding.proofs.arguments.interleave.Given as goal

abbrev pub invariant-loop-i : goal.invariant-loop-i
invariant-loop-i g l = Gone (g.H.Host.answers l.host) (held_of l.stores) l.arguments l.fn.may_coerce_object l.is_followed l.i l.may_coerce_object
