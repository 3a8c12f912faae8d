use Rattle.witnesses.proofs.ToldRuns.{told}
use Rattle.witnesses.proofs.laws.runs_tell.Goals as goal

pub returns : goal.returns
returns c = told
