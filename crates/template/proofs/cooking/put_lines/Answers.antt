use Rattle.std.proofs.Common.{◌∷◌, [], sym, subst, eqb, get_or, ◌+◌}
use Rattle.template.specs.Sinks.{Adds}
use Rattle.template.proofs.LineEnds.{Lined, lined_put, lined_skip}
use Rattle.template.proofs.cooking.put_lines.Goals as goal
use Rattle.template.proofs.cooking.put_lines.Goals.{in-Some, in_default}

pub loop-byte-preserved : goal.loop-byte-preserved
loop-byte-preserved g c =
    let took = g.S.Sink.Took in
    let start = c.args.sink.now in
    let run = c.args.run.now in
    let now = c.loop-byte.sink in
    let cr = c.loop-byte.after_cr in
    let k = c.loop-byte.byte-index in
    let low = c.loop-byte-test.true in
    let inv = c.loop-byte.invariant in
    elim c.match-line_byte.branch [
      | in-Some w ↦
          let x = w.in-Some.value in
          lined_put took start now c.match-line_byte.sink run cr k x low inv w.in-Some.ensures
          (subst (Adds took now (x ∷ [])) (sym w.sink-is) w.take.ensures)
      | in_default w ↦
          subst (λ s. Lined took start s run (eqb (get_or run k 0) 13) (k + 1)) (sym w.sink-is) (lined_skip took start now run cr k low inv w.in_default.ensures)
    ]
