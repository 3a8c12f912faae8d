use Rattle.std.proofs.Common.{sym, subst}
use Rattle.template.specs.Cooking.{HandsPart}
use Rattle.template.proofs.CookWalk.{plain_part}
use Rattle.template.proofs.cooking.Withheld.put_part.Goals as goal

pub returns-in-Plain : goal.returns-in-Plain
returns-in-Plain g c =
    subst (HandsPart g.S.Sink.Took c.args.sink.now c.args.self.now.lead c.args.part c.put_lines.new.sink) (sym c.put.ensures.none)
    (plain_part g.S.Sink.Took c.args.sink.now c.put.new.sink c.put_lines.new.sink c.args.self.now.lead c.args.part c.in-Plain.run' c.in-Plain.is c.put.ensures.taken c.put_lines.ensures)
