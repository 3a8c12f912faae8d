use Rattle.std.proofs.Common.{true, refl, [], ◌∷◌, eqb, ◌++◌, ap, ◌∙◌}
use lib.Utf8.{encode}
use Rattle.std.proofs.lemmas.Bool.Decides.{Decides-eqb}
use Rattle.std.proofs.lemmas.Slice.Eq.{starts_is}
use Rattle.template.specs.Grammar.{starts}
use Rattle.template.proofs.Parting.{tick_frontless, dollar_frontless}
use Rattle.template.proofs.raw.plain.past_plain.Goals as goal

pub returns-in-96 : goal.returns-in-96
returns-in-96 c =
    let rest = c.in_ok-c.rest.now in
    tick_frontless c.args.bytes.now rest (c.in_ok-c.ensures.1 ∙ ap (λ x. encode x ++ rest) c.in-96.is)

pub returns-in-36 : goal.returns-in-36
returns-in-36 c =
    let rest = c.in_ok-c.rest.now in
    dollar_frontless c.args.bytes.now rest (c.in_ok-c.ensures.1 ∙ ap (λ x. encode x ++ rest) c.in-36.is)
    (ap (starts (λ b. eqb b 0x7B)) ((starts_is Decides-eqb rest (0x7B ∷ []) true c.if-starts_with.ensures.value).0 refl))
