use Rattle.std.proofs.Common.{length, ap, arith, length-append}
use lib.Utf8.{encode}
use Rattle.std.proofs.lemmas.Str.{length-encode, len_utf8_bounds}
use Rattle.text.proofs.decode.first_character.Goals as goal

pub returns-in_default : goal.returns-in_default
returns-in_default c x rest h e =
    omega (arith, ap length e, length-append (encode x) rest, length-encode x, len_utf8_bounds x, c.in_default.len_below)
