use Rattle.meaning.proofs.Determined.{determined}
use Rattle.meaning.proofs.laws.a_run_is_determined.Goals as goal

pub returns : goal.returns
returns g c = determined _
