use Rattle.deciding.proofs.ReadPieces.{none_read, read_step, all_read}
use Rattle.deciding.proofs.pieces.Pieces.with_arguments.Goals as goal

pub loop-argument-init : goal.loop-argument-init
loop-argument-init c = none_read _ _ _

pub loop-argument-preserved : goal.loop-argument-preserved
loop-argument-preserved c = read_step _ _ _ _ _ _ c.loop-argument.invariant c.loop-argument-test.true c.with_argument-pieces.ensures

pub returns : goal.returns
returns c = all_read _ c.args.arguments _ _ _ _ c.loop-argument.invariant c.in-Some.ensures.1 c.loop-argument-test.false
