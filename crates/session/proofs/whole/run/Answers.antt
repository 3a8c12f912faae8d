use Rattle.std.proofs.Common.{arith}
use Rattle.session.proofs.Shortening.{none_made, call_made, runs}
use Rattle.session.proofs.whole.run.Goals as goal

pub loop-i-init : goal.loop-i-init
loop-i-init g c = none_made g.H.Host.answers c.open-session.result c.args.calls.now c.args.answers.now

pub loop-i-preserved : goal.loop-i-preserved
loop-i-preserved g c =
    call_made g.H.Host.answers c.open-session.result c.loop-i.session c.args.calls.now c.args.answers.now c.loop-i.answers c.loop-i.i c.loop-i.invariant
    c.make.new.self c.index-calls-i.result c.make.result (omega (arith, c.loop-i-test.true, c.min-i-end.ensures)) (omega (arith, c.loop-i-test.true, c.min-i-end.ensures, c.loop-i.auto.answers))
    c.index-calls-i.is c.make.ensures.made c.make.ensures.wrote c.make.ensures.given

pub returns : goal.returns
returns g c =
    runs g.H.Host.answers g.W.Engine.world c.args.loaded c.args.support c.open-session.result c.loop-i.session c.args.calls.now c.args.answers.now c.loop-i.answers c.loop-i.i c.end.result
    c.open-session.ensures c.loop-i.invariant c.end.ensures (omega (arith, c.loop-i-test.false, c.loop-i.auto.i-end, c.min-i-end.ensures)) c.loop-i.auto.answers
