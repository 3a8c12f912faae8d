use Rattle.std.proofs.Common.{string_bytes}
use Rattle.cases.proofs.Making.{Written}
use Rattle.cases.proofs.case.Case.make_calls.Given as goal

abbrev pub invariant-loop-call : goal.invariant-loop-call
invariant-loop-call l = Written (string_bytes l.initial.text) (string_bytes l.text) l.initial.session l.session l.loaded l.call-items l.call-index
