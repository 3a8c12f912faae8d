use Rattle.std.proofs.Common.{refl, inl, inr, arith, rules}
use Rattle.template.proofs.Filling.{fills_all, overfull, wrote}
use Rattle.template.proofs.walk.write_whole.Goals as goal

pub returns-then-len-out : goal.returns-then-len-out
returns-then-len-out g c =
    let walk = g.W.Walk in
    let first = c.in_ok-walk.ensures in
    (refl, inr ((first.0, first.1), inl (refl, overfull (walk.Means c.args.text.now) walk.form c.new-measured.result c.walk.new.sink first.0 c.args.out.now first.1 c.new-measured.ensures.empty first.2 (omega arith) (omega arith))))

pub returns : goal.returns
returns g c =
    let walk = g.W.Walk in
    let first = c.in_ok-walk.ensures in
    let second = c.in_ok-walk-2.ensures in
    let same = (fills_all c.new-written.result c.walk-2.new.sink (walk.form second.0) second.2).same_reference in
    let done =
    wrote walk.form c.new-measured.result c.walk.new.sink c.new-written.result c.walk-2.new.sink first.0 second.0 c.args.out.now _ c.len-2.result
    (c.requires first.0 second.0 first.1 second.1)
    c.new-measured.ensures.empty first.2 (omega arith) (omega arith)
    c.new-written.ensures.empty c.new-written.ensures.bytes second.2 c.len-2.ensures (search rules)
    in
    (second.0, second.1, done.0, done.1, done.2)
