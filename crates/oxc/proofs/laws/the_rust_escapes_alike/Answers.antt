use Rattle.oxc.proofs.Escaping.{escapes_alike}
use Rattle.oxc.proofs.laws.the_rust_escapes_alike.Goals as goal

pub returns : goal.returns
returns c = escapes_alike
