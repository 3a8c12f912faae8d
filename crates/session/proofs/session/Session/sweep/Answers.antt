use Rattle.std.proofs.Common.{◌-◌, arith}
use Rattle.session.proofs.Rounds.{none_lost, all_swept, sweep_refused}
use Rattle.session.proofs.Writing.{wrote_same, wrote_then}
use Rattle.session.proofs.session.Session.sweep.Goals as goal

pub overflow_sub-rewrites : goal.overflow_sub-rewrites
overflow_sub-rewrites g c =
    let s = c.args.self.now in
    let made = c.make_rounds-rounds.new.self in
    omega (
      arith,
      none_lost (g.H.Host.answers c.args.host.now) s made c.go_to_root.new.self c.make_rounds-rounds.result c.make_rounds-rounds.ensures.rounds c.go_to_root.ensures.root,
      c.go_to_root.ensures.same.same_rewrites,
    )

pub returns-in-Ok-clause-swept : goal.returns-in-Ok-clause-swept
returns-in-Ok-clause-swept g c =
    let s = c.args.self.now in
    let made = c.make_rounds-rounds.new.self in
    let end = c.go_to_root.new.self in
    all_swept (g.H.Host.answers c.args.host.now) s made end (record { rewrites = end.rewrites - s.rewrites; rounds = c.in-Ok.rounds; left = c.in-Ok.left }) c.in-Ok.ensures.rounds c.go_to_root.ensures.root
    (omega (
      arith,
      none_lost (g.H.Host.answers c.args.host.now) s made end c.make_rounds-rounds.result c.make_rounds-rounds.ensures.rounds c.go_to_root.ensures.root,
      c.go_to_root.ensures.same.same_rewrites,
    ))

pub returns-in-Err-clause-swept : goal.returns-in-Err-clause-swept
returns-in-Err-clause-swept g c =
    let s = c.args.self.now in
    let made = c.make_rounds-rounds.new.self in
    let end = c.go_to_root.new.self in
    sweep_refused (g.H.Host.answers c.args.host.now) s made end (record { fault = c.in-Err.fault; rewrites = end.rewrites - s.rewrites }) c.in-Err.ensures.rounds c.go_to_root.ensures.root
    (omega (
      arith,
      none_lost (g.H.Host.answers c.args.host.now) s made end c.make_rounds-rounds.result c.make_rounds-rounds.ensures.rounds c.go_to_root.ensures.root,
      c.go_to_root.ensures.same.same_rewrites,
    ))

pub returns-in-Ok-clause-wrote : goal.returns-in-Ok-clause-wrote
returns-in-Ok-clause-wrote g c =
    wrote_then c.args.self.now c.make_rounds-rounds.new.self c.go_to_root.new.self c.make_rounds-rounds.ensures.wrote
    (wrote_same c.make_rounds-rounds.new.self c.go_to_root.new.self c.go_to_root.ensures.same)

pub returns-in-Err-clause-wrote : goal.returns-in-Err-clause-wrote
returns-in-Err-clause-wrote g c =
    wrote_then c.args.self.now c.make_rounds-rounds.new.self c.go_to_root.new.self c.make_rounds-rounds.ensures.wrote
    (wrote_same c.make_rounds-rounds.new.self c.go_to_root.new.self c.go_to_root.ensures.same)
