use Rattle.meaning.proofs.Numbering.{numbers_ignored}
use Rattle.meaning.proofs.laws.no_run_depends_on_numbers.Goals as goal

pub returns : goal.returns
returns g c = numbers_ignored _
