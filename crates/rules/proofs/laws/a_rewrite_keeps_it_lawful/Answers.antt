use Rattle.rules.proofs.KeptLawful.{kept_lawful}
use Rattle.rules.proofs.laws.a_rewrite_keeps_it_lawful.Goals as goal

pub returns : goal.returns
returns c = kept_lawful
