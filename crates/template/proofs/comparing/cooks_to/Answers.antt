use Rattle.std.proofs.Common.{Some, None, Ok, [], sym, ◌∙◌, subst}
use Rattle.template.specs.Raw.{left_of, NextPart}
use Rattle.template.specs.declared.comparing.Compared.{Compared}
use Rattle.template.proofs.CookWalk.{CookWalk, part_read, part_less, cook_step, cook_finish}
use Rattle.template.proofs.Passing.{Taken, passes_nothing, all_passed, nothing, begun, parted, refused}
use Rattle.template.proofs.comparing.cooks_to.Goals as goal

pub loop-reader-init : goal.loop-reader-init
loop-reader-init c =
    let start : Compared = record { rest = Some c.args.cooked } in
    subst (λ rest. CookWalk Taken start c.args.raw.now rest start None) (sym c.new-reader.ensures) (begun c.args.raw.now c.args.cooked)

pub loop-reader-smaller : goal.loop-reader-smaller
loop-reader-smaller c =
    let left = c.loop-reader.reader in
    let right = c.next.new.self in
    let part = c.in-Ok-Some.part in
    part_less part (left_of left) (left_of right) (part_read left right c.in-Ok-Some.field-0 part c.in-Ok-Some.field-0-is c.in-Ok-Some.ensures)

pub loop-reader-preserved : goal.loop-reader-preserved
loop-reader-preserved c =
    let left = c.loop-reader.reader in
    let right = c.next.new.self in
    let part = c.in-Ok-Some.part in
    cook_step Taken (record { rest = Some c.args.cooked }) c.args.raw.now (left_of left) (left_of right) c.loop-reader.left c.put_part.new.sink c.loop-reader.withheld.lead c.put_part.new.self.lead part
    c.loop-reader.invariant
    (part_read left right c.in-Ok-Some.field-0 part c.in-Ok-Some.field-0-is c.in-Ok-Some.ensures)
    c.put_part.ensures

pub returns-in-Ok-None : goal.returns-in-Ok-None
returns-in-Ok-None c =
    let start : Compared = record { rest = Some c.args.cooked } in
    let left = c.loop-reader.reader in
    let right = c.next.new.self in
    let end = subst (λ o. NextPart left right (Ok o)) c.in-Ok-None.field-0-is c.in-Ok-None.ensures in
    let w = cook_finish Taken start c.args.raw.now (left_of left) c.loop-reader.left c.put.new.sink c.loop-reader.withheld.lead c.loop-reader.invariant end.0 c.put.ensures.taken in
    all_passed c.args.raw.now c.args.cooked c.put.new.sink.rest c.is_passed.result w.0 w.1 (w.2 start [] (passes_nothing (Some c.args.cooked))) c.is_passed.ensures

pub returns-in-Err : goal.returns-in-Err
returns-in-Err c =
    refused c.args.raw.now (left_of c.loop-reader.reader) c.args.cooked c.loop-reader.left c.loop-reader.withheld.lead c.in-Err.field-0 c.loop-reader.invariant c.in-Err.ensures.0

pub returns : goal.returns
returns c =
    parted c.args.raw.now (left_of c.loop-reader.reader) c.args.cooked c.loop-reader.left c.loop-reader.withheld.lead c.loop-reader.invariant
    (nothing c.loop-reader.left.rest (sym c.is_some.ensures ∙ c.loop-reader-test.false))
