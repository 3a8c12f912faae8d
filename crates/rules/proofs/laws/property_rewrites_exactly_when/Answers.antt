use Rattle.rules.proofs.IndexedExactly.{property_exactly}
use Rattle.rules.proofs.laws.property_rewrites_exactly_when.Goals as goal

pub returns : goal.returns
returns c = property_exactly
