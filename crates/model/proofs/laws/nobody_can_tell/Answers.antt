use Rattle.model.proofs.Calls.{nobody_tells}
use Rattle.model.proofs.laws.nobody_can_tell.Goals as goal

pub returns : goal.returns
returns g c = nobody_tells _
