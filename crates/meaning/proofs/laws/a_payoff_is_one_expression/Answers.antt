use Rattle.meaning.proofs.Reading.{one_expression}
use Rattle.meaning.proofs.laws.a_payoff_is_one_expression.Goals as goal

pub returns : goal.returns
returns c = one_expression
