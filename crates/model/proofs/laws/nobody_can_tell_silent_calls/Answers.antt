use Rattle.model.proofs.Silencing.{silent_calls}
use Rattle.model.proofs.laws.nobody_can_tell_silent_calls.Goals as goal

pub returns : goal.returns
returns g c = silent_calls _
