use Rattle.model.proofs.Whole.{whole_session}
use Rattle.model.proofs.laws.a_whole_session.Goals as goal

pub returns : goal.returns
returns c = whole_session
