use Rattle.witnesses.proofs.Alike.{one_answer}
use Rattle.witnesses.proofs.laws.each_call_has_one_answer.Goals as goal

pub returns : goal.returns
returns c = one_answer
