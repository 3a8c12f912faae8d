use Rattle.std.proofs.Common.{Ok, subst}
use Rattle.std.proofs.lemmas.Result.{err_from_is_err_and}
use Rattle.template.specs.Raw.{left_of, NextPart}
use Rattle.template.proofs.CookWalk.{part_read, part_less, cook_step, cook_finish, cook_refuse}
use Rattle.template.proofs.cooking.RawTextWalk.walk.Goals as goal

pub returns-in_err-part : goal.returns-in_err-part
returns-in_err-part g c =
    let p = err_from_is_err_and c.from_residual.result c.from_residual.ensures.1 in
    let w = c.loop-part.invariant in
    rw (p.1, p.2) (
      cook_refuse g.S.Sink.Took c.args.sink.now c.args.self.now.raw.now (left_of c.loop-part.reader) c.loop-part.sink c.loop-part.withheld.lead c.in_err-part.field-0.0 w c.in_err-part.ensures.0,
      (w.3.0, w.3.1),
    )

pub loop-part-smaller : goal.loop-part-smaller
loop-part-smaller g c =
    part_less c.in-Some.part (left_of c.loop-part.reader) (left_of c.next.new.self)
    (part_read c.loop-part.reader c.next.new.self c.in_ok-part.field-0 c.in-Some.part c.in-Some.is c.in_ok-part.ensures)

pub loop-part-preserved : goal.loop-part-preserved
loop-part-preserved g c =
    let left = c.loop-part.reader in
    let right = c.next.new.self in
    let part = c.in-Some.part in
    cook_step g.S.Sink.Took c.args.sink.now c.args.self.now.raw.now (left_of left) (left_of right) c.loop-part.sink c.put_part.new.sink c.loop-part.withheld.lead c.put_part.new.self.lead part
    c.loop-part.invariant
    (part_read left right c.in_ok-part.field-0 part c.in-Some.is c.in_ok-part.ensures)
    c.put_part.ensures

pub returns : goal.returns
returns g c =
    let left = c.loop-part.reader in
    let right = c.next.new.self in
    let end = subst (λ o. NextPart left right (Ok o)) c.in_default.is c.in_ok-part.ensures in
    cook_finish g.S.Sink.Took c.args.sink.now c.args.self.now.raw.now (left_of left) c.loop-part.sink c.put.new.sink c.loop-part.withheld.lead c.loop-part.invariant end.0 c.put.ensures.taken
