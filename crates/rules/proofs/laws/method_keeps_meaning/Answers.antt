use Rattle.rules.proofs.MethodKeeps.{method_keeps}
use Rattle.rules.proofs.laws.method_keeps_meaning.Goals as goal

pub returns : goal.returns
returns g c = method_keeps _
