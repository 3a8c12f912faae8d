use Rattle.script.proofs.request.Call.write.Goals as goal

pub returns-in-Escape : goal.returns-in-Escape
returns-in-Escape c = rw c.in-Escape.is c.escape.ensures

pub returns-in-Cook : goal.returns-in-Cook
returns-in-Cook c = rw c.in-Cook.is c.cook.ensures
