use Rattle.std.proofs.Common.{Some, map, length, get_or, drop, ◌++◌, [], ◌∷◌, sym, ap, ◌∙◌, subst, arith, take_all}
use Rattle.std.proofs.lemmas.Option.{slice_get-map, slice_get-get_or}
use Rattle.std.proofs.lemmas.List.{length-map}
use Rattle.std.specs.Option.{option_map}
use Rattle.store.specs.Held.{AppendsTo}
use Rattle.file.specs.Decoding.{Decodes}
use Rattle.file.specs.Found.{laid}
use Rattle.file.specs.Format.{record_at}
use Rattle.file.proofs.Chunks.{record_of_array, records_of_arrays}
use Rattle.file.proofs.Copied.{node_fits, next_node}
use Rattle.file.proofs.Asked.{decoded}
use Rattle.file.proofs.records.Records.copy_nodes.Goals as goal

pub returns : goal.returns
returns c =
    let s = c.args.self.now.sections in
    let ns = c.loop-record.invariant in (
      ns.0,
      (ns.1.0, ns.1.1 ∙ ap (λ m. ns.0 ++ drop (length ns.0) m) c.clear.ensures.memory),
      ns.2
          ∙ take_all c.loop-record.record-index (map (λ bytes. record_at bytes 0) s.nodes.now) (omega (arith, length-map s.nodes.now (λ bytes. record_at bytes 0), c.loop-record-test.false))
          ∙ sym (records_of_arrays s.nodes.now s.whole_records),
    )

pub unwrap-node-requires : goal.unwrap-node-requires
unwrap-node-requires c =
    let s = c.args.self.now.sections in
    let x = c.loop-record.record-index in
    decoded (laid s) x c.from.result c.try_from.result c.args.self.now.lawful c.loop-record-test.true
    (c.from.ensures ∙ sym (record_of_array s.nodes.now s.whole_records x (get_or s.nodes.now x []) (slice_get-get_or s.nodes.now x [] c.loop-record-test.true)))
    c.try_from.ensures

pub unwrap-requires : goal.unwrap-requires
unwrap-requires c =
    let nodes = c.args.self.now.sections.nodes.now in
    let many = length-map nodes (λ bytes. record_at bytes 0) in
    node_fits (map (λ bytes. record_at bytes 0) nodes) c.loop-record.record-index c.unwrap-node.result c.clear.new.self c.loop-record.nodes c.append.new.self c.append.result c.loop-record.invariant
    (omega (arith, many)) (omega (arith, many, ap length c.clear.ensures.memory)) c.append.ensures

pub loop-record-preserved : goal.loop-record-preserved
loop-record-preserved c =
    let s = c.args.self.now.sections in
    let x = c.loop-record.record-index in
    let records = map (λ bytes. record_at bytes 0) s.nodes.now in
    let n = c.unwrap-node.result in
    let recorded = subst (Decodes c.from.result) c.unwrap-node.ensures c.try_from.ensures in
    next_node records x n c.clear.new.self c.loop-record.nodes c.append.new.self c.unwrap.result c.loop-record.invariant
    (slice_get-map (λ bytes. record_at bytes 0) s.nodes.now x
    ∙ ap (option_map (λ bytes. record_at bytes 0)) (slice_get-get_or s.nodes.now x [] c.loop-record-test.true)
    ∙ ap (λ r. Some r) (sym c.from.ensures ∙ sym recorded))
    (subst (AppendsTo c.loop-record.nodes (n ∷ []) c.append.new.self) c.unwrap.ensures c.append.ensures)
