use Rattle.oxc.proofs.Chains.{chains_alike}
use Rattle.oxc.proofs.laws.the_rust_joins_chains_alike.Goals as goal

pub returns : goal.returns
returns c = chains_alike
