use Rattle.std.proofs.Common.{sym, subst, ◌∙◌}
use Rattle.model.specs.Tries.{Rule}
use Rattle.session.specs.Trying.{Decides, rule_of}
use Rattle.session.proofs.Decided.{no_record, other_kept, expression_decided}
use Rattle.session.proofs.session.Session.decide.Goals as goal

pub returns-in_default : goal.returns-in_default
returns-in_default g c = no_record _ _ c.args.self.now c.node.result c.node.ensures.tree _ c.in_default.is

pub returns-in_default-sort : goal.returns-in_default-sort
returns-in_default-sort g c =
    other_kept _ _ c.args.self.now c.node.result c.node.ensures.tree c.in-Some.node c.in-Some.is (λ e. c.in_default-sort.not-IsExpression (c.sort.ensures ∙ e))

pub returns-in-Chain : goal.returns-in-Chain
returns-in-Chain g c =
    subst (λ r. Decides (g.H.Host.answers c.args.host.now) (rule_of r) c.args.self.now c.chain.result) (sym c.in-Chain.is)
    (expression_decided (g.H.Host.answers c.args.host.now) Rule.chain c.args.self.now c.node.result c.node.ensures.tree c.in-Some.node c.in-Some.is _ _ (sym c.sort.ensures ∙ c.in-IsExpression.is) c.place-place.ensures c.chain.ensures.decides c.chain.ensures.writes)

pub returns-in-Method : goal.returns-in-Method
returns-in-Method g c =
    subst (λ r. Decides (g.H.Host.answers c.args.host.now) (rule_of r) c.args.self.now c.method.result) (sym c.in-Method.is)
    (expression_decided (g.H.Host.answers c.args.host.now) Rule.method c.args.self.now c.node.result c.node.ensures.tree c.in-Some.node c.in-Some.is _ _ (sym c.sort.ensures ∙ c.in-IsExpression.is) c.place-place.ensures (λ few. c.method.ensures.decides) c.method.ensures.writes)

pub returns-in-Property : goal.returns-in-Property
returns-in-Property g c =
    subst (λ r. Decides (g.H.Host.answers c.args.host.now) (rule_of r) c.args.self.now c.property.result) (sym c.in-Property.is)
    (expression_decided (g.H.Host.answers c.args.host.now) Rule.property c.args.self.now c.node.result c.node.ensures.tree c.in-Some.node c.in-Some.is _ _ (sym c.sort.ensures ∙ c.in-IsExpression.is) c.place-place.ensures (λ few. c.property.ensures.decides) c.property.ensures.writes)
