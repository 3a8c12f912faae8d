use Rattle.std.proofs.Common.{◌≡◌, ◌+◌, length, sym, ◌∙◌, subst, arith, below_more}
use Rattle.std.proofs.lemmas.Grind.{merely}
use Rattle.std.proofs.lemmas.Result.{err_from_is_err_and}
use Rattle.file.specs.Found.{laid, CountsParents}
use Rattle.file.proofs.Asked.{node_found, node_refused}
use Rattle.file.proofs.Parents.{parents_more, parents_wrong}
use Rattle.file.proofs.records.Records.check.Goals as goal
use Rattle.file.proofs.records.Records.check.Goals.{then-not-follow, else-not-follow}

pub returns-in_err-node : goal.returns-in_err-node
returns-in_err-node c =
    let p = err_from_is_err_and c.from_residual.result c.from_residual.ensures.1 in
    rw (p.1, p.2)
    (node_refused (laid c.args.sections) c.loop-x.x c.lawful_node.result c.in_err-node.field-0.0 c.loop-x-test.true c.loop-x.invariant.0 c.lawful_node.ensures c.in_err-node.ensures.value)

pub loop-x-preserved : goal.loop-x-preserved
loop-x-preserved c =
    let l = laid c.args.sections in
    let x = c.loop-x.x in
    let n = c.in_ok-node.node in
    let ok = node_found l x c.lawful_node.result n c.lawful_node.ensures c.in_ok-node.ensures.ok_part in
    let old = c.loop-x.parents in
    let o = c.loop-x.wrong in
    let below = c.loop-x.invariant.0 in
    let low = c.loop-x-test.true in (
      below_more _ _ below (n, ok.0, ok.1),
      λ h cs. elim c.if-not-follow.branch [
        | then-not-follow w ↦
            subst (CountsParents h (x + 1) c.follow.new.parents) (sym (w.wrong-is ∙ w.or-wrong.ensures))
            (parents_wrong l x below low n ok.0 ok.1 h cs old c.follow.new.parents c.follow.ensures.counted o (c.loop-x.invariant.1 h cs) w.if-not-follow.ensures.reached)
        | else-not-follow w ↦
            subst (CountsParents h (x + 1) c.follow.new.parents) (sym w.wrong-is)
            (parents_more l x below low n ok.0 ok.1 h cs old c.follow.new.parents c.follow.ensures.counted o (c.loop-x.invariant.1 h cs) w.if-not-follow.ensures.reached)
      ],
    )

pub invariant_of-result-clause-lawful : goal.invariant_of-result-clause-lawful
invariant_of-result-clause-lawful c = merely (λ x lt. c.loop-x.invariant.0 x (omega (arith, c.loop-x-test.false)))

pub invariant_of-result-clause-counted : goal.invariant_of-result-clause-counted
invariant_of-result-clause-counted c =
    let all : c.loop-x.x ≡ length c.args.sections.nodes.now = omega (arith, c.loop-x-test.false, c.loop-x.auto.x-end) in
    merely (λ h cs. subst (λ n. CountsParents h n c.loop-x.parents c.loop-x.wrong) all (c.loop-x.invariant.1 h cs))
