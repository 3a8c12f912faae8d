use Rattle.lending.proofs.Filed.{file_swept}
use Rattle.lending.proofs.sweeping.load_and_sweep.Goals as goal

pub returns-in-Ok : goal.returns-in-Ok
returns-in-Ok c = file_swept c.args.file.now c.args.known c.args.support c.args.stores c.in-Ok.loaded c.sweep_by.result.0 c.sweep_by.result.1 c.in-Ok.ensures c.sweep_by.ensures
