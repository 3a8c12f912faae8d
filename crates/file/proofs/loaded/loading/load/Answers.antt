use Rattle.std.proofs.Common.{Ok, refl, subst}
use Rattle.base.specs.Questions.{Refuses}
use Rattle.file.specs.Lawful.{load_questions}
use Rattle.file.specs.Steps.{Fitting}
use Rattle.file.proofs.loaded.loading.load.Goals as goal

pub fill-requires : goal.fill-requires
fill-requires c =
    let file = c.args.file.now in
    (file, subst (λ rooms. Fitting file rooms (Ok c.in-Ok.sections)) c.rooms.ensures c.in-Ok.ensures)

pub returns : goal.returns
returns c =
    let file = c.args.file.now in
    c.fill.ensures file (subst (λ rooms. Fitting file rooms (Ok c.in-Ok.sections)) c.rooms.ensures c.in-Ok.ensures)

pub returns-in-Err : goal.returns-in-Err
returns-in-Err c = (
  subst (λ rooms. Refuses (load_questions c.args.file.now rooms) c.in-Err.fault) c.rooms.ensures c.in-Err.ensures,
  (refl, refl, refl, refl),
)
