use Rattle.building.proofs.ArgumentWalks.{Walked}
use Rattle.building.proofs.template_builder.TemplateBuilder.add_arguments.Given as goal

abbrev pub invariant-loop-i : goal.invariant-loop-i
invariant-loop-i l = Walked l.arguments l.fn.self l.fn.stores l.i l.self l.stores
