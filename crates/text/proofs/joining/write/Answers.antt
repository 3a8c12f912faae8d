use Rattle.std.proofs.Common.{arith}
use Rattle.text.proofs.Seams.{three}
use Rattle.text.proofs.joining.write.Goals as goal

pub returns : goal.returns
returns c =
    three c.args.out.now c.args.front.now c.args.middle.now c.args.back.now
    c.append.new.items c.append-2.new.items c.append-3.new.items
    c.in_ok-at.at c.in_ok-at-2.at c.append-3.result
    c.if-not-fits.ensures (omega arith)
    c.in_ok-at.ensures c.in_ok-at-2.ensures c.append-3.ensures
