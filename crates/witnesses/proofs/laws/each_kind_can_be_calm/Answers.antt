use Rattle.witnesses.proofs.CalmRuns.{calm_kinds}
use Rattle.witnesses.proofs.laws.each_kind_can_be_calm.Goals as goal

pub returns : goal.returns
returns c = calm_kinds
