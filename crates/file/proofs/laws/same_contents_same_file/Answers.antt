use Rattle.file.proofs.Determined.{same_contents_same_file}
use Rattle.file.proofs.laws.same_contents_same_file.Goals as goal

pub returns : goal.returns
returns c = same_contents_same_file
