use Rattle.std.proofs.Common.{sym, ◌∙◌}
use Rattle.session.proofs.Parent.{taken_by, taken_as_root}
use Rattle.session.proofs.session.Session.place.Goals as goal

pub returns-in-Some : goal.returns-in-Some
returns-in-Some c m is =
    let t = taken_by _ _ _ _ _ m is c.in-Some.step (sym c.parent.ensures ∙ c.in-Some.is) in
    c.place_below.ensures t.0 t.1 t.2 ∙ sym t.3

pub returns-in-None : goal.returns-in-None
returns-in-None c m is = sym (taken_as_root _ _ _ _ _ m is (sym c.parent.ensures ∙ c.in-None.is))
