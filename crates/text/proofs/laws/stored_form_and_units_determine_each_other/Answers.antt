use Rattle.text.proofs.Rejoin.{determine_each_other}
use Rattle.text.proofs.laws.stored_form_and_units_determine_each_other.Goals as goal

pub returns : goal.returns
returns c = determine_each_other
