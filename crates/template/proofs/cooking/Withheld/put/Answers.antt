use Rattle.std.proofs.Common.{◌≡◌, true, arith, ◌∙◌, sym}
use Rattle.text.specs.Utf16.{leading}
use Rattle.text.proofs.Pairing.{leading_range}
use Rattle.template.proofs.cooking.Withheld.put.Goals as goal

pub put_character-requires : goal.put_character-requires
put_character-requires g c =
    let half : leading c.in-Some.lead ≡ true = c.args.self.now.half c.in-Some.lead (sym c.take.ensures.value ∙ c.in-Some.is) in
    let range = leading_range c.in-Some.lead half in
    omega arith
