use Rattle.std.proofs.Common.{rules}
use Rattle.std.proofs.lemmas.List.Sums.{count_by-le-length}
use Rattle.deciding.proofs.ChainCounts.{no_list, a_spread, count_step, all_counted}
use Rattle.deciding.proofs.chain_arguments.count_arguments.Goals as goal

pub returns-in_default-clause-counts : goal.returns-in_default-clause-counts
returns-in_default-clause-counts c = no_list _ _ _ _ _ _ c.loop-call.invariant c.loop-call-test.true c.in_default.ensures

pub returns-then-has_spread-clause-counts : goal.returns-then-has_spread-clause-counts
returns-then-has_spread-clause-counts c = a_spread _ _ _ _ _ _ c.loop-call.invariant c.loop-call-test.true _ c.in-Some.ensures.1 _ c.has_spread.ensures c.if-has_spread.true

pub loop-call-preserved : goal.loop-call-preserved
loop-call-preserved c =
    count_step _ _ _ _ _ _ c.loop-call.invariant c.loop-call-test.true _ c.in-Some.ensures.1 _ c.has_spread.ensures c.if-has_spread.false c.in-Some.ensures.0 (search rules)
    (count_by-le-length _ _) _ c.count_expressions-expressions_so_far.ensures

pub returns-clause-counts : goal.returns-clause-counts
returns-clause-counts c = all_counted _ _ _ _ _ c.loop-call.invariant c.loop-call-test.false
