use Rattle.std.proofs.Common.{sym, subst}
use Rattle.file.specs.Found.{laid}
use Rattle.file.specs.Steps.{NodeChecked}
use Rattle.file.proofs.Asked.{kept_checked}
use Rattle.file.proofs.sections.Sections.lawful_node.Goals as goal

pub returns : goal.returns
returns c =
    let l = laid c.args.self.now in
    subst (NodeChecked l c.args.x) (sym c.then_some.ensures) (kept_checked l c.args.x c.in_ok-node.node c.is_lawful.result c.in_ok-node.ensures c.is_lawful.ensures)
