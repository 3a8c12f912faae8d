use Rattle.witnesses.proofs.FirstNo.{first_named}
use Rattle.witnesses.proofs.laws.the_first_no_is_named.Goals as goal

pub returns : goal.returns
returns c = first_named
