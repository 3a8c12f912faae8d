use Rattle.meaning.proofs.Agreeing.{agrees}
use Rattle.meaning.proofs.laws.the_engine_agrees.Goals as goal

pub returns : goal.returns
returns g c = agrees _
