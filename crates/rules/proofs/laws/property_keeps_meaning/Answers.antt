use Rattle.rules.proofs.Reading.{property_keeps}
use Rattle.rules.proofs.laws.property_keeps_meaning.Goals as goal

pub returns : goal.returns
returns g c = property_keeps _
