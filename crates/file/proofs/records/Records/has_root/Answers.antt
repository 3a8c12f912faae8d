use Rattle.std.proofs.Common.{MatchBool, sym, subst, rules, arith}
use Rattle.std.proofs.lemmas.Bool.{ne_eqb}
use Rattle.file.specs.Lawful.{LawfulRoot}
use Rattle.file.specs.Found.{laid}
use Rattle.file.proofs.Linking.{root_answer, root_not_last}
use Rattle.file.proofs.records.Records.has_root.Goals as goal

pub returns-then-root-self : goal.returns-then-root-self
returns-then-root-self c = root_answer (laid c.args.self.now.sections) c.args.self.now.lawful (omega arith) c.node.result c.node.ensures c.is_some_and.result (search rules)

pub returns-else-root-self : goal.returns-else-root-self
returns-else-root-self c =
    let l = laid c.args.self.now.sections in
    subst (λ b. MatchBool b (LawfulRoot l) (LawfulRoot l → ⊥)) (sym (ne_eqb _ _ c.if-root-self.false)) (root_not_last l c.args.self.now.lawful (λ e. c.if-root-self.false (omega (arith, e))))
