use Rattle.rules.proofs.ChainExactly.{chain_exactly}
use Rattle.rules.proofs.laws.chain_rewrites_exactly_when.Goals as goal

pub returns : goal.returns
returns c = chain_exactly
