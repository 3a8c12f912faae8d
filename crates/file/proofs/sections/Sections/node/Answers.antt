use Rattle.std.proofs.Common.{◌∙◌, sym, refl, subst}
use Rattle.std.proofs.lemmas.Option.{slice_get_read}
use Rattle.file.specs.Found.{laid}
use Rattle.file.specs.Steps.{NodeAt}
use Rattle.file.proofs.Chunks.{record_of_array}
use Rattle.file.proofs.Asked.{node_at}
use Rattle.file.proofs.sections.Sections.node.Goals as goal

pub returns : goal.returns
returns c =
    let s = c.args.self.now in
    let array = c.in_ok-get.field-0.now in
    let look = c.in_ok-get.ensures.lookup in
    let at = slice_get_read s.nodes.now _ c.args.x array refl look.3.0 look.1 in
    subst (NodeAt (laid s) c.args.x) (sym c.ok.ensures.value)
    (node_at (laid s) c.args.x c.from.result c.try_from.result look.3.0 (c.from.ensures ∙ sym (record_of_array s.nodes.now s.whole_records c.args.x array at)) c.try_from.ensures)
