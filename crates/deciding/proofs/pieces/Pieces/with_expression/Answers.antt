use Rattle.deciding.proofs.ReadPieces.{expression_read}
use Rattle.deciding.proofs.pieces.Pieces.with_expression.Goals as goal

pub returns : goal.returns
returns c = expression_read _ _ _ _ _ c.quasi_bytes.ensures c.empty.ensures c.saturating_add.ensures c.saturating_add-2.ensures
