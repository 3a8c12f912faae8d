use Rattle.file.proofs.Answering.{room_refused}
use Rattle.file.proofs.loaded.loading.fitting.Goals as goal

pub returns-then-not-fits : goal.returns-then-not-fits
returns-then-not-fits c = room_refused c.args.file.now c.args.rooms c.in_ok-sections.sections c.in_ok-sections.ensures c.if-not-fits.ensures
