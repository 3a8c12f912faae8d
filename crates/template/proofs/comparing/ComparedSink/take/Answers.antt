use Rattle.std.proofs.Common.{sym, subst}
use Rattle.std.proofs.lemmas.Bool.Decides.{Decides-eqb}
use Rattle.std.proofs.lemmas.Slice.Eq.{strip_prefix_is}
use Rattle.template.specs.Comparing.{Passes}
use Rattle.template.proofs.Passing.{passes_both}
use Rattle.template.proofs.comparing.ComparedSink.take.Goals as goal

pub returns-in-Some : goal.returns-in-Some
returns-in-Some c start bytes took =
    let piece = c.args.piece.now in
    let left = c.strip_prefix-self.result in
    passes_both start.rest c.args.self.now.rest left bytes piece took
    (subst (λ o. Passes o piece left) (sym c.in-Some.is)
    (strip_prefix_is Decides-eqb c.in-Some.rest.now piece left c.strip_prefix-self.ensures.cases))
