use Rattle.rules.proofs.Computed.{computed}
use Rattle.rules.proofs.laws.rule_examples.Goals as goal

pub returns : goal.returns
returns c = computed
