use Rattle.rules.proofs.Payoffs.{lawful_payoff}
use Rattle.rules.proofs.laws.a_lawful_expression_is_a_payoff.Goals as goal

pub returns : goal.returns
returns c = lawful_payoff
