use Rattle.template.proofs.Bounded.{cooked_at_most_twice}
use Rattle.template.proofs.laws.cooked_text_is_at_most_twice_as_long.Goals as goal

pub returns : goal.returns
returns c = cooked_at_most_twice
