use Rattle.rules.proofs.MethodExactly.{method_exactly}
use Rattle.rules.proofs.laws.method_rewrites_exactly_when.Goals as goal

pub returns : goal.returns
returns c = method_exactly
