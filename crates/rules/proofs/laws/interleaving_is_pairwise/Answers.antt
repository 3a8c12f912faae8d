use Rattle.rules.proofs.Pairwise.{interleaving_pairwise}
use Rattle.rules.proofs.laws.interleaving_is_pairwise.Goals as goal

pub returns : goal.returns
returns c = interleaving_pairwise
