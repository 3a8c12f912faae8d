use Rattle.script.proofs.Replying.{answered}
use Rattle.script.proofs.reply.Goals as goal

pub returns-in-Some : goal.returns-in-Some
returns-in-Some c =
    let read = rw c.in-Some.is at c.in_ok-request.ensures in
    answered c.args.line.now _ _ c.in-Some.request.room c.run.result c.try_from.result (rw read at c.parse.ensures) c.run.ensures c.try_from.ensures

pub returns-in-None : goal.returns-in-None
returns-in-None c =
    let read = rw c.in-None.is at c.in_ok-request.ensures in
    rw read at c.parse.ensures
