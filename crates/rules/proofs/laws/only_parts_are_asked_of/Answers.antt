use Rattle.rules.proofs.Standing.{only_parts}
use Rattle.rules.proofs.laws.only_parts_are_asked_of.Goals as goal

pub returns : goal.returns
returns c = only_parts
