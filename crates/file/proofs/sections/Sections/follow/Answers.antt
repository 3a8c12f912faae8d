use Rattle.std.proofs.Common.{◌+◌, ◌≤◌, ◌&&◌, MatchBool, length, sym, ◌∙◌, subst, arith}
use Rattle.tree.specs.Heap.{children}
use Rattle.file.specs.Found.{laid}
use Rattle.file.specs.Steps.{Reached}
use Rattle.file.proofs.Following.{children_most, Followed, nth_none, follow_more, follow_past, follow_all}
use Rattle.file.proofs.sections.Sections.follow.Goals as goal
use Rattle.file.proofs.sections.Sections.follow.Goals.{in-Some, in_default}

pub loop-k-preserved : goal.loop-k-preserved
loop-k-preserved c =
    let l = laid c.args.self.now in
    let x = c.args.x in
    let n = c.args.node in
    let old = c.args.parents.now in
    let mid = c.loop-k.parents in
    let k = c.loop-k.k in
    let all = c.loop-k.all in
    elim c.match-child.branch [
      | in-Some w ↦
          let here = subst (λ r. MatchBool w.reaches-all.result (Reached l x r w.in-Some.child) (Reached l x r w.in-Some.child → ⊥)) w.role.ensures w.reaches-all.ensures in
          subst (λ a. Followed l x n old c.match-child.parents (k + 1) a) (sym w.all-is)
          (subst (λ p. Followed l x n old p (k + 1) (all && w.reaches-all.result)) (sym w.parents-is)
          (follow_more l x n old mid w.tally.new.parents k w.in-Some.child (sym c.child.ensures ∙ w.in-Some.is) w.tally.ensures all w.reaches-all.result c.loop-k.invariant here))
      | in_default w ↦
          subst (λ a. Followed l x n old c.match-child.parents (k + 1) a) (sym w.all-is)
          (subst (λ p. Followed l x n old p (k + 1) all) (sym w.parents-is)
          (follow_past l x n old mid k (nth_none (children l.entries n) k (sym c.child.ensures ∙ w.in_default.is)) all c.loop-k.invariant))
    ]

pub returns : goal.returns
returns c =
    let l = laid c.args.self.now in
    let n = c.args.node in
    let le : length (children l.entries n) ≤ c.loop-k.k = omega (arith, children_most l.entries n, c.child_count-k-end.ensures, c.loop-k-test.false) in
    let r = follow_all l c.args.x n c.args.parents.now c.loop-k.parents c.loop-k.k c.loop-k.all le c.loop-k.invariant in
    record { reached = r.0; counted = r.1 }
