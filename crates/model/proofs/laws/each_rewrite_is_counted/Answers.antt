use Rattle.model.proofs.Calls.{rewrites_counted}
use Rattle.model.proofs.laws.each_rewrite_is_counted.Goals as goal

pub returns : goal.returns
returns c = rewrites_counted
