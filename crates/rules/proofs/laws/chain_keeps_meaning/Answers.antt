use Rattle.rules.proofs.ChainKeeps.{chain_keeps}
use Rattle.rules.proofs.laws.chain_keeps_meaning.Goals as goal

pub returns : goal.returns
returns g c = chain_keeps _
