use Rattle.witnesses.proofs.TrueParts.{true_parts}
use Rattle.witnesses.proofs.laws.each_answer_can_be_true.Goals as goal

pub returns : goal.returns
returns c = true_parts
