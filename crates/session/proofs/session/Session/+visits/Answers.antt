use Rattle.std.proofs.Common.{◌∙◌, arith}
use Rattle.std.proofs.lemmas.Result.{err_from_is_err_and}
use Rattle.session.proofs.Sweeping.{below_stopped, rules_stopped, place_visited, deepest_visited, none_visited, never_refused, one_deeper, child_refused, left_not, child_done, all_visited, same_given}
use Rattle.session.proofs.Writing.{wrote_none, wrote_same, wrote_then}
use Rattle.session.proofs.session.Session.+visits.Goals as goal

pub visit-visit_below-requires : goal.visit-visit_below-requires
visit-visit_below-requires g t c κs within = (omega arith, within)

pub visit-returns-in_err-left-clause-visited : goal.visit-returns-in_err-left-clause-visited
visit-returns-in_err-left-clause-visited g t c =
    let p = err_from_is_err_and c.from_residual.result c.from_residual.ensures.1 in
    rw (p.1, p.2)
    (below_stopped (g.H.Host.answers c.args.host.now) c.args.self.now c.visit_below.new.self c.in_err-left.field-0.0 c.in_err-left.ensures.visited)

pub visit-returns-in_err-try_each-clause-visited :
    goal.visit-returns-in_err-try_each-clause-visited
visit-returns-in_err-try_each-clause-visited g t c =
    let p = err_from_is_err_and c.from_residual-in_err-try_each.result c.from_residual-in_err-try_each.ensures.1 in
    rw (p.1, p.2)
    (rules_stopped (g.H.Host.answers c.args.host.now) c.args.self.now c.visit_below.new.self c.try_each.new.self c.in_ok-left.left c.in_err-try_each.field-0.0
    c.in_ok-left.ensures.visited c.in_ok-left.ensures.given c.in_err-try_each.ensures.tried)

pub visit-returns-clause-visited : goal.visit-returns-clause-visited
visit-returns-clause-visited g t c =
    place_visited (g.H.Host.answers c.args.host.now) c.args.self.now c.visit_below.new.self c.try_each.new.self c.in_ok-left.left
    c.in_ok-left.ensures.visited c.in_ok-left.ensures.given c.in_ok-try_each.ensures.tried

pub visit_below-returns-then-self-eq-MAX_STEPS-clause-visited :
    goal.visit_below-returns-then-self-eq-MAX_STEPS-clause-visited
visit_below-returns-then-self-eq-MAX_STEPS-clause-visited g t c =
    deepest_visited (g.H.Host.answers c.args.host.now) c.args.self.now c.child_count-children.result c.if-self-eq-MAX_STEPS.true (omega (arith, c.args.self.now.within, c.args.self.now.long)) c.child_count-children.ensures

pub visit_below-loop-child-init : goal.visit_below-loop-child-init
visit_below-loop-child-init g t c =
    none_visited (g.H.Host.answers c.args.host.now) c.args.self.now c.child_count-children.result (omega (arith, c.args.self.now.within, c.if-self-eq-MAX_STEPS.false)) (omega (arith, c.args.self.now.within, c.args.self.now.long)) c.child_count-children.ensures

pub visit_below-returns-in_err-enter-clause-visited :
    goal.visit_below-returns-in_err-enter-clause-visited
visit_below-returns-in_err-enter-clause-visited g t c =
    absurd (never_refused (g.H.Host.answers c.args.host.now) c.args.self.now c.loop-child.self c.child_count-children.result c.loop-child.child c.loop-child.left c.loop-child.invariant c.loop-child-test.true
    c.enter.new.self c.in_err-enter.field-0.0 c.in_err-enter.ensures.moved)

pub visit_below-returns-in_err-enter-clause-given :
    goal.visit_below-returns-in_err-enter-clause-given
visit_below-returns-in_err-enter-clause-given g t c = same_given c.loop-child.self c.enter.new.self c.in_err-enter.ensures.same ∙ c.loop-child.invariant.given

pub visit_below-visit-requires : goal.visit_below-visit-requires
visit_below-visit-requires g t c κs within =
    let one = one_deeper (g.H.Host.answers c.args.host.now) c.args.self.now c.loop-child.self c.child_count-children.result c.loop-child.child c.loop-child.left c.loop-child.invariant c.loop-child-test.true
    c.enter.new.self c.in_ok-enter.field-0 c.in_ok-enter.ensures.moved (same_given c.loop-child.self c.enter.new.self c.in_ok-enter.ensures.same) (omega (arith, c.enter.new.self.within, c.enter.new.self.long)) in
    (omega (arith, one, c.loop-child.invariant.shallow), within)

pub visit_below-returns-in_err-left-clause-visited :
    goal.visit_below-returns-in_err-left-clause-visited
visit_below-returns-in_err-left-clause-visited g t c =
    let p = err_from_is_err_and c.from_residual-in_err-left.result c.from_residual-in_err-left.ensures.1 in
    rw (p.1, p.2)
    (child_refused (g.H.Host.answers c.args.host.now) c.args.self.now c.loop-child.self c.child_count-children.result c.loop-child.child c.loop-child.left c.loop-child.invariant c.loop-child-test.true
    c.enter.new.self c.in_ok-enter.field-0 c.in_ok-enter.ensures.moved (same_given c.loop-child.self c.enter.new.self c.in_ok-enter.ensures.same)
    c.visit.new.self c.in_err-left.field-0.0 c.in_err-left.ensures.visited)

pub visit_below-returns-in_err-left-clause-given :
    goal.visit_below-returns-in_err-left-clause-given
visit_below-returns-in_err-left-clause-given g t c =
    c.in_err-left.ensures.given ∙ same_given c.loop-child.self c.enter.new.self c.in_ok-enter.ensures.same ∙ c.loop-child.invariant.given

pub visit_below-returns-in_err-leave-clause-visited :
    goal.visit_below-returns-in_err-leave-clause-visited
visit_below-returns-in_err-leave-clause-visited g t c =
    absurd (left_not (g.H.Host.answers c.args.host.now) c.args.self.now c.loop-child.self c.child_count-children.result c.loop-child.child c.loop-child.left c.loop-child.invariant c.loop-child-test.true
    c.enter.new.self c.in_ok-enter.field-0 c.in_ok-enter.ensures.moved (same_given c.loop-child.self c.enter.new.self c.in_ok-enter.ensures.same)
    c.visit.new.self c.in_ok-left.field-0 c.in_ok-left.ensures.visited c.leave.new.self c.in_err-leave.field-0.0 c.in_err-leave.ensures.moved)

pub visit_below-returns-in_err-leave-clause-given :
    goal.visit_below-returns-in_err-leave-clause-given
visit_below-returns-in_err-leave-clause-given g t c =
    same_given c.visit.new.self c.leave.new.self c.in_err-leave.ensures.same
    ∙ c.in_ok-left.ensures.given
    ∙ same_given c.loop-child.self c.enter.new.self c.in_ok-enter.ensures.same
    ∙ c.loop-child.invariant.given

pub visit_below-loop-child-preserved : goal.visit_below-loop-child-preserved
visit_below-loop-child-preserved g t c =
    child_done (g.H.Host.answers c.args.host.now) c.args.self.now c.loop-child.self c.child_count-children.result c.loop-child.child c.loop-child.left c.loop-child.invariant c.loop-child-test.true
    c.enter.new.self c.in_ok-enter.field-0 c.in_ok-enter.ensures.moved (same_given c.loop-child.self c.enter.new.self c.in_ok-enter.ensures.same)
    c.visit.new.self c.in_ok-left.field-0 c.in_ok-left.ensures.visited c.leave.new.self c.in_ok-leave.field-0 c.in_ok-leave.ensures.moved
    (same_given c.visit.new.self c.leave.new.self c.in_ok-leave.ensures.same
    ∙ c.in_ok-left.ensures.given
    ∙ same_given c.loop-child.self c.enter.new.self c.in_ok-enter.ensures.same
    ∙ c.loop-child.invariant.given)
    (wrote_then c.args.self.now c.loop-child.self c.leave.new.self c.loop-child.invariant.wrote
    (wrote_then c.loop-child.self c.enter.new.self c.leave.new.self (wrote_same c.loop-child.self c.enter.new.self c.in_ok-enter.ensures.same)
    (wrote_then c.enter.new.self c.visit.new.self c.leave.new.self c.in_ok-left.ensures.wrote (wrote_same c.visit.new.self c.leave.new.self c.in_ok-leave.ensures.same))))

pub visit_below-returns-clause-visited : goal.visit_below-returns-clause-visited
visit_below-returns-clause-visited g t c =
    all_visited (g.H.Host.answers c.args.host.now) c.args.self.now c.loop-child.self c.child_count-children.result c.loop-child.child c.loop-child.left c.loop-child.invariant (omega (arith, c.loop-child-test.false))

pub visit_below-returns-clause-given : goal.visit_below-returns-clause-given
visit_below-returns-clause-given g t c = c.loop-child.invariant.given

pub visit-returns-in_err-left-clause-wrote : goal.visit-returns-in_err-left-clause-wrote
visit-returns-in_err-left-clause-wrote g t c = c.in_err-left.ensures.wrote

pub visit-returns-in_err-try_each-clause-wrote : goal.visit-returns-in_err-try_each-clause-wrote
visit-returns-in_err-try_each-clause-wrote g t c =
    wrote_then c.args.self.now c.visit_below.new.self c.try_each.new.self c.in_ok-left.ensures.wrote c.in_err-try_each.ensures.wrote

pub visit-returns-clause-wrote : goal.visit-returns-clause-wrote
visit-returns-clause-wrote g t c =
    wrote_then c.args.self.now c.visit_below.new.self c.try_each.new.self c.in_ok-left.ensures.wrote c.in_ok-try_each.ensures.wrote

pub visit_below-returns-then-self-eq-MAX_STEPS-clause-wrote :
    goal.visit_below-returns-then-self-eq-MAX_STEPS-clause-wrote
visit_below-returns-then-self-eq-MAX_STEPS-clause-wrote g t c = wrote_none c.args.self.now

pub visit_below-returns-in_err-enter-clause-wrote : goal.visit_below-returns-in_err-enter-clause-wrote
visit_below-returns-in_err-enter-clause-wrote g t c =
    wrote_then c.args.self.now c.loop-child.self c.enter.new.self c.loop-child.invariant.wrote (wrote_same c.loop-child.self c.enter.new.self c.in_err-enter.ensures.same)

pub visit_below-returns-in_err-left-clause-wrote : goal.visit_below-returns-in_err-left-clause-wrote
visit_below-returns-in_err-left-clause-wrote g t c =
    wrote_then c.args.self.now c.loop-child.self c.visit.new.self c.loop-child.invariant.wrote
    (wrote_then c.loop-child.self c.enter.new.self c.visit.new.self (wrote_same c.loop-child.self c.enter.new.self c.in_ok-enter.ensures.same) c.in_err-left.ensures.wrote)

pub visit_below-returns-in_err-leave-clause-wrote : goal.visit_below-returns-in_err-leave-clause-wrote
visit_below-returns-in_err-leave-clause-wrote g t c =
    wrote_then c.args.self.now c.loop-child.self c.leave.new.self c.loop-child.invariant.wrote
    (wrote_then c.loop-child.self c.enter.new.self c.leave.new.self (wrote_same c.loop-child.self c.enter.new.self c.in_ok-enter.ensures.same)
    (wrote_then c.enter.new.self c.visit.new.self c.leave.new.self c.in_ok-left.ensures.wrote (wrote_same c.visit.new.self c.leave.new.self c.in_err-leave.ensures.same)))

pub visit_below-returns-clause-wrote : goal.visit_below-returns-clause-wrote
visit_below-returns-clause-wrote g t c = c.loop-child.invariant.wrote
