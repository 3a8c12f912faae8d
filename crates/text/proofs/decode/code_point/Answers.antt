use Rattle.std.proofs.Common.{arith}
use Rattle.text.proofs.Decoding.{found, lacks, coded_length}
use Rattle.text.proofs.decode.code_point.Goals as goal

pub returns-in-1 : goal.returns-in-1
returns-in-1 c =
    found 1 c.args.len c.args.bytes.now c.one.result c.requires.1 c.requires.0 c.in-1.is
    (simp c.byte_at-a.ensures at c.one.ensures)

pub returns-in-2 : goal.returns-in-2
returns-in-2 c =
    found 2 c.args.len c.args.bytes.now c.two.result c.requires.1 c.requires.0 c.in-2.is
    (simp (c.byte_at-a.ensures, c.byte_at.ensures) at c.two.ensures)

pub returns-in-3 : goal.returns-in-3
returns-in-3 c =
    found 3 c.args.len c.args.bytes.now c.three.result c.requires.1 c.requires.0 c.in-3.is
    (simp (c.byte_at-a.ensures, c.byte_at-in-3.ensures, c.byte_at-in-3-2.ensures) at c.three.ensures)

pub returns-in-4 : goal.returns-in-4
returns-in-4 c =
    found 4 c.args.len c.args.bytes.now c.four.result c.requires.1 c.requires.0 c.in-4.is
    (simp (c.byte_at-a.ensures, c.byte_at-in-4.ensures, c.byte_at-in-4-2.ensures, c.byte_at-in-4-3.ensures) at c.four.ensures)

pub returns-in_default : goal.returns-in_default
returns-in_default c =
    lacks c.args.len c.args.bytes.now c.requires.0
    (λ x k. let w = coded_length c.args.len c.args.bytes.now x k in omega arith)
