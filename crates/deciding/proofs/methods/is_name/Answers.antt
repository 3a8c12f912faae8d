use Rattle.std.proofs.Common.{subst, ◌∙◌}
use Rattle.store.specs.Stores.{held_of}
use Rattle.meaning.specs.Parts.{Part}
use Rattle.deciding.proofs.Records.{Read, read_there}
use Rattle.deciding.proofs.Names.{name_told}
use Rattle.deciding.proofs.methods.is_name.Goals as goal

pub returns : goal.returns
returns c x k s t =
    let m = subst (λ r. Read (held_of c.args.stores.now) r (Part.expression x)) c.in-Some-Name.field-0-is (read_there s c.node.ensures.held c.in-Some-Name.is) in
    c.eq.ensures ∙ name_told c.in-Some.text _ k m c.in-Some.ensures t
