use Rattle.deciding.proofs.ChainCounts.{LastSoFar}
use Rattle.deciding.proofs.chain_arguments.count_calls_to_last_argument.Given as goal

abbrev pub invariant-loop-i : goal.invariant-loop-i
invariant-loop-i l = LastSoFar l.calls l.i l.count (record { start = 0; len = 0; of = record {} })
