use Rattle.std.proofs.Common.{length}
use Rattle.text.specs.Reader.{rest_of}
use Rattle.text.proofs.Surveying.{Walked}
use Rattle.text.proofs.survey.walk.Given as goal

abbrev pub invariant-loop-c : goal.invariant-loop-c
invariant-loop-c l = Walked l.text l.n l.characters l.found

abbrev pub decreases-loop-c : goal.decreases-loop-c
decreases-loop-c l = length (rest_of l.characters)
