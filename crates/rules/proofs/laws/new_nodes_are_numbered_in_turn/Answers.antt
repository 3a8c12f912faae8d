use Rattle.rules.proofs.Numbered.{numbered_in_turn}
use Rattle.rules.proofs.laws.new_nodes_are_numbered_in_turn.Goals as goal

pub returns : goal.returns
returns c = numbered_in_turn
