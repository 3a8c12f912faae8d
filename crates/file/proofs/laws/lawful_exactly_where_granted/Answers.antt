use Rattle.file.proofs.Granting.{lawful_where_granted}
use Rattle.file.proofs.laws.lawful_exactly_where_granted.Goals as goal

pub returns : goal.returns
returns c = lawful_where_granted
