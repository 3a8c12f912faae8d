use Rattle.std.proofs.Common.{◌≡◌, ◌+◌, min, cond, ap, sym, ◌∙◌}
use Rattle.deciding.proofs.ReadPieces.{quasi_taken}
use Rattle.deciding.proofs.pieces.Pieces.quasi_bytes.Goals as goal
use Rattle.deciding.proofs.pieces.Pieces.quasi_bytes.Goals.{then-is_escaped, else-is_escaped}

pub returns : goal.returns
returns c =
    let raw : c.if-is_escaped.raw ≡ cond c.is_escaped.result c.args.self.quasi.raw 0 =
    elim c.if-is_escaped.branch [
      | then-is_escaped w ↦ w.raw-is ∙ w.raw_len-raw.ensures ∙ ap (λ b. cond b c.args.self.quasi.raw 0) (sym w.if-is_escaped.true)
      | else-is_escaped w ↦ w.raw-is ∙ ap (λ b. cond b c.args.self.quasi.raw 0) (sym w.if-is_escaped.false)
    ]
    in
    quasi_taken c.args.self c.is_escaped.result c.if-is_escaped.raw c.saturating_add.result c.is_escaped.ensures raw
    (c.saturating_add.ensures ∙ ap (λ n. min (n + c.if-is_escaped.raw) 18446744073709551615) c.stored_len.ensures)
