-- Two refusals of one load are the same.
use Rattle.std.proofs.Common.{sym, ◌∙◌}
use Rattle.store.specs.Stores.{rooms_of}
use Rattle.file.specs.Lawful.{load_questions}
use Rattle.witnesses.specs.OneLoad.{RefusedLoadsAreOne}
use Rattle.witnesses.proofs.FirstNo.{one_named}

pub refused_once : RefusedLoadsAreOne
refused_once file old e f (r, (h, a, b, c)) (q, (i, x, y, z)) =
    (one_named (load_questions file (rooms_of old)) e.fault f.fault r q, (h ∙ sym i, a ∙ sym x, b ∙ sym y, c ∙ sym z))
