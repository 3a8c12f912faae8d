use Rattle.std.proofs.Common.{◌≤◌, length, drop, sym, ap, ◌∙◌, subst, Some, arith, length-append}
use Rattle.template.specs.Fronts.{Parts}
use Rattle.template.specs.Raw.{part_bytes}
use Rattle.template.proofs.raw.RawReader.next.Goals as goal
use Rattle.template.proofs.raw.RawReader.next.Goals.{in-92, in_default}

-- The part's bytes are a front of what is left.
fits : (c : goal.After-bytes) → length c.bytes.result.now ≤ length c.args.self.now.rest.now
fits c =
    let part = c.in_ok-part.part in
    let left = c.args.self.now.rest.now in
    let is = c.in_ok-part.ensures.ok_part in
    let reads : Parts left (Some part) =
    elim c.match-raw.branch [
      | in-92 w ↦ subst (Parts left) (sym w.found-is ∙ is) w.backslash-found.ensures
      | in_default w ↦ subst (Parts left) (sym w.found-is ∙ is) w.plain-found.ensures
    ]
    in
    omega (arith, ap length c.bytes.ensures, ap length reads.3, length-append (part_bytes part) (drop (length (part_bytes part)) left))

pub slice_bounds-self-start : goal.slice_bounds-self-start
slice_bounds-self-start c = fits c
