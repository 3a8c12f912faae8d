use Rattle.std.proofs.Common.{subst, arith}
use Rattle.std.proofs.lemmas.Option.{slice_get-get_or}
use Rattle.base.specs.Runs.{Appended}
use Rattle.lending.proofs.Rows.{none_written, row_fits, next_row, all_recorded}
use Rattle.lending.proofs.record.write_records.Goals as goal

pub loop-node-init : goal.loop-node-init
loop-node-init c = none_written c.args.nodes.now c.args.memory.now

pub unwrap-end-requires : goal.unwrap-end-requires
unwrap-end-requires c =
    row_fits c.args.nodes.now c.loop-node.node-index c.args.memory.now c.loop-node.memory c.loop-node.end c.loop-node.invariant c.loop-node-test.true
    c.record_of.result c.append.new.items (omega (arith, c.record_of.type_inv)) c.append.result c.requires c.append.ensures

pub loop-node-preserved : goal.loop-node-preserved
loop-node-preserved c =
    next_row c.args.nodes.now c.loop-node.node-index c.args.memory.now c.loop-node.memory c.loop-node.end c.loop-node.invariant c.loop-node-test.true
    c.record_of.result c.append.new.items (omega (arith, c.record_of.type_inv)) c.unwrap-end.result _ (slice_get-get_or c.args.nodes.now c.loop-node.node-index _ c.loop-node-test.true)
    c.record_of.ensures (subst (Appended c.loop-node.memory c.loop-node.end c.record_of.result c.append.new.items) c.unwrap-end.ensures c.append.ensures)

pub returns : goal.returns
returns c = all_recorded c.args.nodes.now c.loop-node.node-index c.args.memory.now c.loop-node.memory c.loop-node.end c.loop-node.invariant (omega (arith, c.loop-node-test.false))
