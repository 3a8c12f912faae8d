use Rattle.witnesses.proofs.Loads.{refused_once}
use Rattle.witnesses.proofs.laws.refused_loads_are_one.Goals as goal

pub returns : goal.returns
returns c = refused_once
