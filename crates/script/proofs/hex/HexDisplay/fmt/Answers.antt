use Rattle.std.proofs.Common.{refl, rules}
use Rattle.script.proofs.Digits.{put_none, put_byte, put_word}
use Rattle.script.proofs.hex.HexDisplay.fmt.Goals as goal

pub loop-byte-init : goal.loop-byte-init
loop-byte-init g c plain = put_none g.W.Write.write_str_gives _ plain

pub loop-byte-preserved : goal.loop-byte-preserved
loop-byte-preserved g c plain =
    let old = c.loop-byte.invariant plain in
    put_byte g.W.Write.write_str_gives _ _ _ c.args.self.now.0.now c.loop-byte.byte-index _ (search rules) refl old (c.in_ok-write_byte.ensures old.plain refl)

pub returns-clause-writes : goal.returns-clause-writes
returns-clause-writes g c plain ok = put_word g.W.Write.write_str_gives _ _ c.args.self.now.0.now c.loop-byte.byte-index c.loop-byte-test.false (c.loop-byte.invariant plain)
