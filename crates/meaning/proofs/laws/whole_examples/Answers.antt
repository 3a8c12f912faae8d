use Rattle.meaning.proofs.Numbers.{computed}
use Rattle.meaning.proofs.laws.whole_examples.Goals as goal

pub returns : goal.returns
returns c = computed
