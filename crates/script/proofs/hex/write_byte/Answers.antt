use Rattle.std.proofs.Common.{refl, rules}
use Rattle.script.proofs.Digits.{put_two}
use Rattle.script.proofs.hex.write_byte.Goals as goal

pub returns : goal.returns
returns g c plain ok =
    let first = c.in_ok-write_char.ensures.writes plain refl in
    put_two g.W.Write.write_str_gives _ _ _ c.args.byte _ _ (search rules) (search rules) (search rules) first (c.write_char-2.ensures.writes first.plain ok)
