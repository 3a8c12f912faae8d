use Rattle.template.proofs.Back.{escaped_cooks}
use Rattle.template.proofs.laws.escaped_text_cooks_back.Goals as goal

pub returns : goal.returns
returns c = escaped_cooks
