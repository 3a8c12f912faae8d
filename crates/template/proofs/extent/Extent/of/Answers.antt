use Rattle.std.proofs.Common.{arith}
use Rattle.template.proofs.Extents.{measured}
use Rattle.template.proofs.extent.Extent.of.Goals as goal

pub returns : goal.returns
returns c =
    let walk = c.in_ok-walk.ensures in
    let us = walk.0 in
    let s = walk.1 in (
      us,
      s,
      measured c.args.text.now us c.new-measured.result c.walk.new.sink c.len.result c.first_trailing.result c.last_leading.result c.is_some.result c.is_some-2.result s (omega arith)
          c.new-measured.ensures.empty walk.2 c.len.ensures
          (c.first_trailing.ensures us s) c.is_some.ensures (c.last_leading.ensures us s) c.is_some-2.ensures,
    )
