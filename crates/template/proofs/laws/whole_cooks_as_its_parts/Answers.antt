use Rattle.template.proofs.Reading.{cooks_parts}
use Rattle.template.proofs.laws.whole_cooks_as_its_parts.Goals as goal

pub returns : goal.returns
returns c = cooks_parts
