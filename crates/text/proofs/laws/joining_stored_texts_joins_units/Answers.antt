use Rattle.text.proofs.Rejoin.{joins_as_units}
use Rattle.text.proofs.laws.joining_stored_texts_joins_units.Goals as goal

pub returns : goal.returns
returns c = joins_as_units
