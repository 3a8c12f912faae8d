use Rattle.oxc.proofs.Parting.{parted}
use Rattle.oxc.proofs.laws.the_rust_parts_from_the_standard.Goals as goal

pub returns : goal.returns
returns c = parted
