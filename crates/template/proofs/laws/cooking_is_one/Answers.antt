use Rattle.template.proofs.Reading.{cooks_once}
use Rattle.template.proofs.laws.cooking_is_one.Goals as goal

pub returns : goal.returns
returns c = cooks_once
