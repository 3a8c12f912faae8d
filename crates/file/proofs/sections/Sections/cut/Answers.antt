use Rattle.std.proofs.Common.{refl, arith}
use Rattle.file.proofs.Cutting.{sized, how_many_nodes, whole_records, cut_as_laid}
use Rattle.file.proofs.sections.Sections.cut.Goals as goal

pub invariant_of-result : goal.invariant_of-result
invariant_of-result c =
    let file = c.args.file.now in
    let h = c.in_ok-header.header in
    let limits = c.if-not-is_in_limits.ensures in
    let many = how_many_nodes file h limits c.if-not-is_in_place.ensures c.as_chunks.result.0.now c.as_chunks.ensures.front c.as_chunks.ensures.front_len in
    record {
      some_node = omega (arith, many, limits);
      few_nodes = omega (arith, many, limits);
      whole_records = whole_records file h limits c.if-not-is_in_place.ensures c.as_chunks.result.0.now c.as_chunks.ensures.front c.as_chunks.ensures.front_len;
    }

pub returns : goal.returns
returns c =
    let file = c.args.file.now in
    let h = c.in_ok-header.header in
    let limits = c.if-not-is_in_limits.ensures in
    let place = c.if-not-is_in_place.ensures in (
      c.in_ok-header.ensures.0,
      sized file h c.in_ok-header.ensures.1 limits place,
      cut_as_laid file h limits place c.as_chunks.result.0.now c.as_chunks.ensures.front c.as_chunks.ensures.front_len c.as_chunks-2.result.0.now c.as_chunks-2.ensures.front c.in_ok-header.ensures.1 _ refl,
    )
