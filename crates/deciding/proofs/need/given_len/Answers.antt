use Rattle.store.specs.Stores.{held_of}
use Rattle.deciding.proofs.Giving.{array_gives, literal_gives, other_gives}
use Rattle.deciding.proofs.need.given_len.Goals as goal

pub returns-in-Array : goal.returns-in-Array
returns-in-Array c = array_gives (held_of c.args.stores.now) c.args.argument _ c.in-Some.ensures.held c.in-Array.elements c.in-Array.is

pub returns-in-String : goal.returns-in-String
returns-in-String c = literal_gives (held_of c.args.stores.now) c.args.argument _ c.in-Some.ensures.held c.in-String.is

pub returns-in_default-node : goal.returns-in_default-node
returns-in_default-node c =
    other_gives (held_of c.args.stores.now) c.args.argument _ c.in-Some.ensures.held
    c.in_default-node.not-String c.in_default-node.not-Number c.in_default-node.not-Boolean c.in_default-node.not-Null c.in_default-node.not-Array
