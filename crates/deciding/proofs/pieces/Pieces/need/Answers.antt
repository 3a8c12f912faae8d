use Rattle.deciding.proofs.ReadPieces.{template_needed}
use Rattle.deciding.proofs.pieces.Pieces.need.Goals as goal

pub returns : goal.returns
returns c =
    template_needed c.args.self _ _ _ _ _ c.if-self-eq0.false c.quasi_bytes.ensures c.saturating_add.ensures c.saturating_mul.ensures c.saturating_add-2.ensures c.saturating_add-3.ensures
