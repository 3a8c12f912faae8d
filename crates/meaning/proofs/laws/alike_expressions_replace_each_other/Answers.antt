use Rattle.meaning.proofs.Replacing.{alike}
use Rattle.meaning.proofs.laws.alike_expressions_replace_each_other.Goals as goal

pub returns : goal.returns
returns g c = alike _
