use Rattle.std.proofs.Common.{◌∙◌, arith}
use Rattle.session.proofs.Tried.{lower_from}
use Rattle.session.proofs.Here.{top_here, some_record, children_counted, few_children}
use Rattle.session.proofs.session.Session.child_count.Goals as goal

pub returns-in_default : goal.returns-in_default
returns-in_default c m is t at = absurd (some_record c.args.self.now m is c.node.result c.node.ensures.tree c.in_default.is)

pub overflow_cast-result : goal.overflow_cast-result
overflow_cast-result c =
    let s = c.args.self.now in
    omega (
      arith,
      lower_from s.sound c.child_count.result 0x100000000 (λ p.
          let t = top_here _ _ _ _ _ p.0 p.1 in
          omega (arith, c.child_count.ensures, few_children s p.0 p.1 c.node.result c.node.ensures.tree c.in-Some.node c.in-Some.is t.0 t.1)),
    )

pub returns : goal.returns
returns c m is t at = c.child_count.ensures ∙ children_counted c.args.self.now m is c.node.result c.node.ensures.tree c.in-Some.node c.in-Some.is t at
