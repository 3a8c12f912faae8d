use Rattle.text.proofs.Surveying.{lawful_where_surveyed}
use Rattle.text.proofs.units.is_lawful.Goals as goal

pub returns : goal.returns
returns c = rw c.is_ok.ensures.value (lawful_where_surveyed c.args.text.now 0 c.walk.result c.walk.ensures)
