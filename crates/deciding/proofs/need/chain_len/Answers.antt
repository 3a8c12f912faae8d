use Rattle.store.specs.Stores.{held_of}
use Rattle.deciding.proofs.JoinedCalls.{chain_counted, no_chain_counted}
use Rattle.deciding.proofs.need.chain_len.Goals as goal

pub returns-in-Some : goal.returns-in-Some
returns-in-Some c = chain_counted (held_of c.args.stores.now) c.args.call c.in-Some.chain c.in-Some.ensures _ c.calls_len.result c.collected_arguments.ensures.calls c.calls_len.ensures

pub returns-in-None : goal.returns-in-None
returns-in-None c = no_chain_counted (held_of c.args.stores.now) c.args.call c.in-None.ensures
