use Rattle.file.specs.Found.{laid}
use Rattle.file.proofs.Following.{Followed}
use Rattle.file.proofs.sections.Sections.follow.Given as goal

abbrev pub invariant-loop-k : goal.invariant-loop-k
invariant-loop-k l = Followed (laid l.self) l.x l.node l.initial.parents l.parents l.k l.all
