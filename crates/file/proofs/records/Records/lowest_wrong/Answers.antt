use Rattle.std.proofs.Common.{◌≡◌, false, length, rules}
use Rattle.std.proofs.lemmas.Iterator.{first_from_Range}
use Rattle.file.specs.Tables.{right, Right}
use Rattle.file.proofs.Tallied.{first_is_lowest}
use Rattle.file.proofs.records.Records.lowest_wrong.Goals as goal

pub returns : goal.returns
returns c =
    let table = c.args.self.now.parents.now in
    let wrong = c.args.self.now.wrong in
    first_is_lowest table wrong (length table) c.find.result
    (first_from_Range _ _ _ c.find.result (λ x. right table wrong x ≡ false) (Right table wrong) c.find.ensures.ran (λ x q k. search rules) (λ x q k. search rules))
