use Rattle.std.proofs.Common.{subst}
use Rattle.text.specs.Survey.{EndsWith}
use Rattle.text.proofs.Seams.{no_lead, no_first, met}
use Rattle.text.proofs.joining.seam.Goals as goal

pub returns-in_default : goal.returns-in_default
returns-in_default c =
    let a = c.in_ok-before.ensures in
    let b = c.in_ok-walk.ensures in
    no_lead c.args.left.now c.args.right.now a.0 b.0 a.1.0 a.1.1 b.1.0 b.1.1
    (subst (λ o. EndsWith o a.0) c.in_default.is a.1.4)

pub returns-in_default-first_character : goal.returns-in_default-first_character
returns-in_default-first_character c =
    let a = c.in_ok-before.ensures in
    let b = c.in_ok-walk.ensures in
    no_first c.args.left.now c.args.right.now a.0 b.0 a.1.0 a.1.1 b.1.0 b.1.1
    c.in_default-first_character.ensures

pub returns : goal.returns
returns c =
    let a = c.in_ok-before.ensures in
    let b = c.in_ok-walk.ensures in
    met c.args.left.now c.args.right.now a.0 b.0 c.in-Some-first_character.c c.in-Some.lead c.pair.result a.1.0 a.1.1
    (subst (λ o. EndsWith o a.0) c.in-Some.is a.1.4) b.1.0 b.1.1
    c.in-Some-first_character.ensures c.pair.ensures
