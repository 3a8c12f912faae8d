use Rattle.store.specs.Stores.{held_of}
use Rattle.deciding.proofs.ReadPieces.{string_read, spread_read, other_read}
use Rattle.deciding.proofs.pieces.Pieces.with_argument.Goals as goal

pub returns-in-String : goal.returns-in-String
returns-in-String c = string_read (held_of c.args.stores.now) c.args.argument _ _ _ c.in-Some.ensures.held _ c.in-String.is c.with_text.ensures

pub returns-in-Spread : goal.returns-in-Spread
returns-in-Spread c = spread_read (held_of c.args.stores.now) c.args.argument c.args.self c.args.self _ c.in-Some.ensures.held _ c.in-Spread.is

pub returns-in_default-node : goal.returns-in_default-node
returns-in_default-node c =
    other_read (held_of c.args.stores.now) c.args.argument _ _ _ c.in-Some.ensures.held c.in_default-node.not-String c.in_default-node.not-Spread c.with_expression.ensures
