use Rattle.store.specs.Stores.{held_of}
use Rattle.deciding.proofs.ReadPieces.{text_read}
use Rattle.deciding.proofs.pieces.Pieces.with_text.Goals as goal

pub returns : goal.returns
returns c = text_read (held_of c.args.stores.now) c.args.text _ c.in-Some.text _ _ c.in-Some.ensures c.in-Ok.ensures c.followed_by.ensures
