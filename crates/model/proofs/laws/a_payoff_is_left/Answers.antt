use Rattle.model.proofs.Calls.{payoff_left}
use Rattle.model.proofs.laws.a_payoff_is_left.Goals as goal

pub returns : goal.returns
returns c = payoff_left
