use Rattle.std.proofs.Common.{◌-◌, length, take, drop, Some, Ok, ap, ◌∙◌, subst, arith}
use Rattle.std.proofs.lemmas.List.{take_rest}
use Rattle.text.specs.Join.{Meets}
use Rattle.text.proofs.Seams.{joins_apart, joins_pair, cuts}
use Rattle.text.proofs.joining.join.Goals as goal

pub returns-in_default : goal.returns-in_default
returns-in_default c =
    let left = c.args.left.now in
    let right = c.args.right.now in
    joins_apart left right c.args.out.now c.write.new.out c.write.result
    (subst (λ o. Meets left right (Ok o)) c.in_default.is c.in_ok-code.ensures) c.write.ensures

-- The pair that the two texts make lies within them.
pair : (c : goal.After-write-arg-2-1) → Meets c.args.left.now c.args.right.now (Ok (Some c.in-Some.code))
pair c = subst (λ o. Meets c.args.left.now c.args.right.now (Ok o)) c.in-Some.is c.in_ok-code.ensures

pub overflow_sub-left : goal.overflow_sub-left
overflow_sub-left c = (cuts c.args.left.now c.args.right.now c.in-Some.code (pair c)).0

pub slice_bounds-write-count-2 : goal.slice_bounds-write-count-2
slice_bounds-write-count-2 c =
    (cuts c.args.left.now c.args.right.now c.in-Some.code
    (subst (λ o. Meets c.args.left.now c.args.right.now (Ok o)) c.in-Some.is c.in_ok-code.ensures)).1

pub slice_bounds-write-start-2 : goal.slice_bounds-write-start-2
slice_bounds-write-start-2 c =
    (cuts c.args.left.now c.args.right.now c.in-Some.code
    (subst (λ o. Meets c.args.left.now c.args.right.now (Ok o)) c.in-Some.is c.in_ok-code.ensures)).1

pub returns : goal.returns
returns c =
    let left = c.args.left.now in
    let right = c.args.right.now in
    joins_pair left right c.args.out.now c.write-2.new.out
    (take (length left - 3 - 0) left) c.as_bytes.result.now (take (length right - 3) (drop 3 right))
    c.in-Some.code c.write-2.result
    (subst (λ o. Meets left right (Ok o)) c.in-Some.is c.in_ok-code.ensures)
    (ap (λ n. take n left) (omega arith)) (c.as_bytes.ensures.bytes ∙ c.in-Some-new.ensures) (take_rest right 3)
    c.write-2.ensures
