use Rattle.model.proofs.Silencing.{no_word_needed}
use Rattle.model.proofs.laws.a_silent_host_needs_no_word.Goals as goal

pub returns : goal.returns
returns g c = no_word_needed _
