use Rattle.oxc.proofs.Accessing.{accesses_alike}
use Rattle.oxc.proofs.laws.the_rust_accesses_alike.Goals as goal

pub returns : goal.returns
returns c = accesses_alike
