use Rattle.std.proofs.Common.{refl}
use Rattle.template.proofs.Filling.{fills_both, fills_appended}
use Rattle.template.proofs.output.OutputSink.take.Goals as goal

pub returns : goal.returns
returns c start bytes filled =
    fills_both start c.args.self.now _ bytes c.args.piece.now filled
    (fills_appended c.args.self.now _ c.args.piece.now c.append.result c.saturating_add-end.result refl c.append.ensures c.append.auto.items c.saturating_add-end.ensures c.unwrap_or-self.ensures)
