use Rattle.rules.proofs.Standing.{old_stay}
use Rattle.rules.proofs.laws.old_parts_stay.Goals as goal

pub returns : goal.returns
returns c = old_stay
