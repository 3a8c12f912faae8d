use Rattle.std.proofs.Common.{arith}
use Rattle.text.proofs.Widths.{encode_2, encode_3, encode_4}
use Rattle.text.proofs.encoded.Encoded.new.Goals as goal

pub returns-in-128-to-2047 : goal.returns-in-128-to-2047
returns-in-128-to-2047 c = cc (encode_2 c.args.code (omega arith) (omega arith))

pub returns-in-2048-to-65535 : goal.returns-in-2048-to-65535
returns-in-2048-to-65535 c = cc (encode_3 c.args.code (omega arith) (omega arith))

pub returns-in-65536-to-1114111 : goal.returns-in-65536-to-1114111
returns-in-65536-to-1114111 c = cc (encode_4 c.args.code (omega arith))
