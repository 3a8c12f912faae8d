use Rattle.text.proofs.Pairing.{stored_once}
use Rattle.template.proofs.escaping.escape.Goals as goal

pub write_whole-requires : goal.write_whole-requires
write_whole-requires c = stored_once c.args.text.now
