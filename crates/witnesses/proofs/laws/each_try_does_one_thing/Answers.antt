use Rattle.witnesses.proofs.Tried.{one_try}
use Rattle.witnesses.proofs.laws.each_try_does_one_thing.Goals as goal

pub returns : goal.returns
returns c = one_try
