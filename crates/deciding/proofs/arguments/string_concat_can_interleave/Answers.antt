use Rattle.deciding.proofs.Interleaves.{alone}
use Rattle.deciding.proofs.arguments.string_concat_can_interleave.Goals as goal

pub returns : goal.returns
returns g c = alone _ _ _ _ _ c.interleave.ensures c.is_some.ensures
