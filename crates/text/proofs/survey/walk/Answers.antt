use Rattle.std.proofs.Common.{Some, Ok, subst}
use Rattle.std.proofs.lemmas.Result.{err_from_is_err_and}
use Rattle.text.specs.Reader.{Next}
use Rattle.text.proofs.Surveying.{walk_more, walk_less, walk_refused}
use Rattle.text.proofs.survey.walk.Goals as goal

pub returns-in_err-c : goal.returns-in_err-c
returns-in_err-c c =
    let p = err_from_is_err_and c.from_residual.result c.from_residual.ensures.1 in
    rw (p.1, p.2) (walk_refused c.args.text.now c.args.n c.loop-c.characters c.loop-c.found c.in_err-c.field-0.0 c.loop-c.invariant c.in_err-c.ensures.0)

-- The character that was read.
next : (c : goal.After-step-found) → Next c.loop-c.characters c.next.new.self (Ok (Some c.in-Some.c))
next c = subst (λ o. Next c.loop-c.characters c.next.new.self (Ok o)) c.in-Some.is c.in_ok-c.ensures

pub loop-c-smaller : goal.loop-c-smaller
loop-c-smaller c = walk_less c.loop-c.characters c.next.new.self c.in-Some.c (next c)

pub loop-c-preserved : goal.loop-c-preserved
loop-c-preserved c =
    let a = c.step-found.ensures in
    walk_more c.args.text.now c.args.n c.loop-c.characters c.next.new.self c.in-Some.c c.loop-c.found c.step-found.result (next c)
    (record { units_more = a.units; picked_more = a.picked; lead_more = a.lead }) c.loop-c.invariant
