use Rattle.deciding.proofs.ChainCounts.{last_found}
use Rattle.deciding.proofs.chain_arguments.count_calls_to_last_argument.Goals as goal

pub returns-clause-last : goal.returns-clause-last
returns-clause-last c = last_found _ _ _ _ c.loop-i.invariant c.loop-i.auto.i-end c.loop-i-test.false
