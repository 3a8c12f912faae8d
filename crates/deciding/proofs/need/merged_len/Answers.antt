use Rattle.std.proofs.Common.{rules}
use Rattle.store.specs.Stores.{held_of}
use Rattle.deciding.proofs.Giving.{given_stop, given_step, given_end}
use Rattle.deciding.proofs.need.merged_len.Goals as goal

pub returns-in_default-given_len : goal.returns-in_default-given_len
returns-in_default-given_len c =
    given_stop (held_of c.args.stores.now) c.args.elements c.args.arguments c.in-Some.arguments.now _ _ c.in-Some.ensures.1 c.loop-argument.invariant c.loop-argument-test.true _ c.given_len.ensures c.in_default-given_len.is

pub loop-argument-preserved : goal.loop-argument-preserved
loop-argument-preserved c =
    given_step (held_of c.args.stores.now) c.args.elements c.args.arguments c.in-Some.arguments.now _ _ c.in-Some.ensures.1 c.loop-argument.invariant c.loop-argument-test.true _ c.given_len.ensures _ c.in-Some-given_len.is (search rules)

pub returns : goal.returns
returns c =
    given_end (held_of c.args.stores.now) c.args.elements c.args.arguments c.in-Some.arguments.now _ _ c.in-Some.ensures.1 c.loop-argument.invariant c.loop-argument-test.false
