use Rattle.std.proofs.Common.{◌++◌, sym, subst}
use lib.Utf8.{encode}
use Rattle.text.specs.Stored.{stored}
use Rattle.text.specs.Utf16.{utf16}
use Rattle.template.specs.Cooking.{Becomes, withheld}
use Rattle.template.proofs.Adding.{adds_both}
use Rattle.template.proofs.Matching.{pair_becomes, lead_becomes, code_becomes}
use Rattle.template.proofs.cooking.Withheld.put_code.Goals as goal

pub returns-in-Some : goal.returns-in-Some
returns-in-Some g c =
    (encode c.in-Some.both, c.put_character.ensures, pair_becomes c.args.self.now.lead c.args.code c.in-Some.both c.in-Some.ensures)

pub returns-in-Some-leading_of : goal.returns-in-Some-leading_of
returns-in-Some-leading_of g c =
    let self = c.args.self.now in
    let is = c.in-Some-leading_of.ensures in
    (stored (withheld self.lead), c.put.ensures.taken, lead_becomes self.lead c.args.code self.half c.requires c.in_default.ensures c.in-Some-leading_of.lead is.0 is.1)

pub returns-in-None : goal.returns-in-None
returns-in-None g c =
    let self = c.args.self.now in
    let code = c.args.code in (
      stored (withheld self.lead) ++ encode code,
      adds_both g.S.Sink.Took _ _ _ (stored (withheld self.lead)) (encode code) c.put.ensures.taken c.put_character-in-None.ensures,
      subst (Becomes self.lead (utf16 code) (stored (withheld self.lead) ++ encode code)) (sym c.put.ensures.none)
          (code_becomes self.lead code self.half c.requires c.in_default.ensures c.in-None.ensures),
    )
