use Rattle.meaning.proofs.Calming.{calm_runs}
use Rattle.meaning.proofs.laws.a_calm_run_is_a_run.Goals as goal

pub returns : goal.returns
returns g c = calm_runs _
