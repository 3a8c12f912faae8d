use Rattle.std.proofs.Common.{length, ap, ◌∙◌, arith, length-append}
use lib.Utf8.{encode, encodes}
use Rattle.std.proofs.lemmas.Result.{err_from_is_err_and}
use Rattle.text.specs.Reader.{rest_of, led_of}
use Rattle.template.specs.Escaped.{escapes}
use Rattle.template.proofs.Escapes.{some_byte}
use Rattle.template.proofs.EscapeWalk.{read_one, read_all, step, finish, refuse}
use Rattle.template.proofs.escaping.StoredTextWalk.walk.Goals as goal

pub returns-in_err-c : goal.returns-in_err-c
returns-in_err-c g c =
    let at = c.loop-c.characters in
    let w = c.loop-c.invariant in
    let p = err_from_is_err_and c.from_residual.result c.from_residual.ensures.1 in
    rw (p.1, p.2)
    (refuse g.S.Sink.Took c.args.sink.now c.args.self.now.text.now (rest_of at) (led_of at) c.loop-c.sink c.in_err-c.field-0.0 w c.in_err-c.ensures.0, (encodes (escapes w.0), w.4))

pub loop-c-smaller : goal.loop-c-smaller
loop-c-smaller g c =
    let next = c.next.new.self in
    let code = c.in-Some.c.code in
    let n = read_one c.loop-c.characters next c.in_ok-c.field-0 c.in-Some.c c.in-Some.is c.in_ok-c.ensures in
    omega (arith, ap length n.3 ∙ length-append (encode code) (rest_of next), some_byte code)

pub loop-c-preserved : goal.loop-c-preserved
loop-c-preserved g c =
    let at = c.loop-c.characters in
    let next = c.next.new.self in
    let n = read_one at next c.in_ok-c.field-0 c.in-Some.c c.in-Some.is c.in_ok-c.ensures in
    step g.S.Sink.Took c.args.sink.now c.loop-c.sink c.escape_character.new.sink c.args.self.now.text.now (rest_of at) (rest_of next) (led_of at) (led_of next) c.in-Some.c.code
    c.loop-c.invariant n.0 n.1 n.3 n.4 c.escape_character.ensures

pub returns : goal.returns
returns g c =
    let at = c.loop-c.characters in
    finish g.S.Sink.Took c.args.sink.now c.args.self.now.text.now (rest_of at) (led_of at) c.loop-c.sink c.loop-c.invariant
    (read_all at c.next.new.self c.in_ok-c.field-0 c.in_default.is c.in_ok-c.ensures)
