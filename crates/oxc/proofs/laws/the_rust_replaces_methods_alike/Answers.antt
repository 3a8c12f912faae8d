use Rattle.oxc.proofs.Methods.{methods_alike}
use Rattle.oxc.proofs.laws.the_rust_replaces_methods_alike.Goals as goal

pub returns : goal.returns
returns c = methods_alike
