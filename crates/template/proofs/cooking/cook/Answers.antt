use Rattle.template.proofs.Reading.{cooks_once}
use Rattle.template.proofs.cooking.cook.Goals as goal

pub write_whole-requires : goal.write_whole-requires
write_whole-requires c = cooks_once c.args.raw.now
