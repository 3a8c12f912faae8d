use Rattle.std.proofs.Common.{Ok, ◌∙◌, arith}
use Rattle.std.proofs.lemmas.Result.{err_from_is_err_and}
use Rattle.session.proofs.Sweeping.{same_given}
use Rattle.session.proofs.Rounds.{none_made, few_rounds, few_now, not_fewer, round_stopped, last_round, round_more}
use Rattle.session.proofs.Writing.{wrote_same, wrote_then}
use Rattle.session.proofs.session.Session.make_rounds.Goals as goal

pub loop-left-init : goal.loop-left-init
loop-left-init g c = none_made (g.H.Host.answers c.args.host.now) c.args.self.now

pub returns-in_err-left-clause-rounds : goal.returns-in_err-left-clause-rounds
returns-in_err-left-clause-rounds g c =
    let p = err_from_is_err_and c.from_residual.result c.from_residual.ensures.1 in
    rw (p.1, p.2)
    (round_stopped (g.H.Host.answers c.args.host.now) c.args.self.now c.loop-left.self c.go_to_root.new.self c.loop-left.rounds c.loop-left.invariant c.go_to_root.ensures.root
    (same_given c.loop-left.self c.go_to_root.new.self c.go_to_root.ensures.same) c.visit.new.self c.in_err-left.field-0.0 c.in_err-left.ensures.visited)

pub returns-in_err-left-clause-given : goal.returns-in_err-left-clause-given
returns-in_err-left-clause-given g c =
    c.in_err-left.ensures.given ∙ same_given c.loop-left.self c.go_to_root.new.self c.go_to_root.ensures.same ∙ c.loop-left.invariant.given

pub overflow_add-rounds : goal.overflow_add-rounds
overflow_add-rounds g c =
    omega (
      arith,
      few_rounds (g.H.Host.answers c.args.host.now) c.args.self.now c.loop-left.self c.go_to_root.new.self c.loop-left.rounds c.loop-left.invariant c.go_to_root.ensures.root
          (same_given c.loop-left.self c.go_to_root.new.self c.go_to_root.ensures.same),
    )

pub returns-then-self-before-clause-rounds : goal.returns-then-self-before-clause-rounds
returns-then-self-before-clause-rounds g c =
    last_round (g.H.Host.answers c.args.host.now) c.args.self.now c.loop-left.self c.go_to_root.new.self c.loop-left.rounds c.loop-left.invariant c.go_to_root.ensures.root
    (same_given c.loop-left.self c.go_to_root.new.self c.go_to_root.ensures.same) c.visit.new.self c.in_ok-left.left c.in_ok-left.ensures.visited c.if-self-before.true

pub returns-then-self-before-clause-given : goal.returns-then-self-before-clause-given
returns-then-self-before-clause-given g c =
    c.in_ok-left.ensures.given ∙ same_given c.loop-left.self c.go_to_root.new.self c.go_to_root.ensures.same ∙ c.loop-left.invariant.given

pub loop-left-smaller : goal.loop-left-smaller
loop-left-smaller g c =
    omega (
      arith,
      not_fewer (g.H.Host.answers c.args.host.now) c.args.self.now c.loop-left.self c.go_to_root.new.self c.loop-left.rounds c.loop-left.invariant c.go_to_root.ensures.root
          (same_given c.loop-left.self c.go_to_root.new.self c.go_to_root.ensures.same) c.visit.new.self (Ok c.in_ok-left.left) c.in_ok-left.ensures.visited,
      few_now (g.H.Host.answers c.args.host.now) c.args.self.now c.loop-left.self c.go_to_root.new.self c.loop-left.rounds c.loop-left.invariant c.go_to_root.ensures.root
          (same_given c.loop-left.self c.go_to_root.new.self c.go_to_root.ensures.same),
      c.if-self-before.false,
    )

pub loop-left-preserved : goal.loop-left-preserved
loop-left-preserved g c =
    round_more (g.H.Host.answers c.args.host.now) c.args.self.now c.loop-left.self c.go_to_root.new.self c.loop-left.rounds c.loop-left.invariant c.go_to_root.ensures.root
    (same_given c.loop-left.self c.go_to_root.new.self c.go_to_root.ensures.same) c.visit.new.self c.in_ok-left.left c.in_ok-left.ensures.visited c.if-self-before.false
    (c.in_ok-left.ensures.given ∙ same_given c.loop-left.self c.go_to_root.new.self c.go_to_root.ensures.same ∙ c.loop-left.invariant.given)
    (wrote_then c.args.self.now c.loop-left.self c.visit.new.self c.loop-left.invariant.wrote
    (wrote_then c.loop-left.self c.go_to_root.new.self c.visit.new.self (wrote_same c.loop-left.self c.go_to_root.new.self c.go_to_root.ensures.same) c.in_ok-left.ensures.wrote))

pub returns-in_err-left-clause-wrote : goal.returns-in_err-left-clause-wrote
returns-in_err-left-clause-wrote g c =
    wrote_then c.args.self.now c.loop-left.self c.visit.new.self c.loop-left.invariant.wrote
    (wrote_then c.loop-left.self c.go_to_root.new.self c.visit.new.self (wrote_same c.loop-left.self c.go_to_root.new.self c.go_to_root.ensures.same) c.in_err-left.ensures.wrote)

pub returns-then-self-before-clause-wrote : goal.returns-then-self-before-clause-wrote
returns-then-self-before-clause-wrote g c =
    wrote_then c.args.self.now c.loop-left.self c.visit.new.self c.loop-left.invariant.wrote
    (wrote_then c.loop-left.self c.go_to_root.new.self c.visit.new.self (wrote_same c.loop-left.self c.go_to_root.new.self c.go_to_root.ensures.same) c.in_ok-left.ensures.wrote)
