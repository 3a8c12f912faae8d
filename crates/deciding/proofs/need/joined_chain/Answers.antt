use Rattle.store.specs.Stores.{held_of}
use Rattle.deciding.proofs.JoinedCalls.{chain_joined, not_based}
use Rattle.deciding.proofs.need.joined_chain.Goals as goal

pub returns-in-Some-base_of : goal.returns-in-Some-base_of
returns-in-Some-base_of c =
    chain_joined (held_of c.args.stores.now) c.args.call c.in-Some.chain c.in-Some.ensures c.in-Some-base_of.base _ _ c.collected_arguments.ensures.calls c.in-Some-base_of.ensures c.joined.ensures

pub returns-in-None : goal.returns-in-None
returns-in-None c = not_based (held_of c.args.stores.now) c.args.call c.in-Some.chain c.in-Some.ensures _ c.in-None.ensures
