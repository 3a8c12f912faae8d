use Rattle.text.specs.Utf16.{units}
use Rattle.text.proofs.Pairing.{stores_points}
use Rattle.text.proofs.units.unit_at.Goals as goal

pub returns : goal.returns
returns c =
    let k = c.in_ok-found.ensures in
    (units k.0, stores_points c.args.text.now k.0 k.1.0 k.1.1, k.1.3)
