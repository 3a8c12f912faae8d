use Rattle.witnesses.proofs.Using.{applied}
use Rattle.witnesses.proofs.laws.the_laws_apply.Goals as goal

pub returns : goal.returns
returns c = applied
