use Rattle.std.proofs.Common.{length}
use Rattle.text.specs.Reader.{rest_of, led_of}
use Rattle.template.proofs.EscapeWalk.{EscapeWalk}
use Rattle.template.proofs.escaping.StoredTextWalk.walk.Given as goal

abbrev pub invariant-loop-c : goal.invariant-loop-c
invariant-loop-c g l = EscapeWalk g.S.Sink.Took l.initial.sink l.self.text.now (rest_of l.characters) (led_of l.characters) l.sink

abbrev pub decreases-loop-c : goal.decreases-loop-c
decreases-loop-c g l = length (rest_of l.characters)
