use Rattle.std.proofs.Common.{◌≡◌, Some, None, sym, ◌∙◌, arith}
use Rattle.building.proofs.Taking.{sets_out, walked, not_there, refused, stopped, goes_on}
use Rattle.building.proofs.Faults.{handed_on}
use Rattle.building.proofs.arrays.append_taken.Goals as goal

pub loop-i-init : goal.loop-i-init
loop-i-init c = sets_out _ _

pub returns-in_err-argument-clause-takes_in : goal.returns-in_err-argument-clause-takes_in
returns-in_err-argument-clause-takes_in c = let e : c.get.result ≡ None = grind arith in not_there c.loop-i.invariant c.loop-i-test.true (sym c.get.ensures ∙ e) _ _

pub returns-in_err-argument-clause-grows : goal.returns-in_err-argument-clause-grows
returns-in_err-argument-clause-grows c = c.loop-i.invariant.long

pub returns-in_err-take_in-clause-takes_in : goal.returns-in_err-take_in-clause-takes_in
returns-in_err-take_in-clause-takes_in c =
    let e : c.get.result ≡ Some c.in_ok-argument.argument = grind arith in
    refused c.loop-i.invariant c.loop-i-test.true _ _ _ _ (sym c.get.ensures ∙ e) c.in_err-take_in.ensures.takes_in c.from_residual-in_err-take_in.ensures.0

pub returns-in_err-take_in-clause-grows : goal.returns-in_err-take_in-clause-grows
returns-in_err-take_in-clause-grows c = let l = c.loop-i.invariant.long in omega (arith, l, c.take_in.ensures.grows)

pub returns-then-not-branch-clause-takes_in : goal.returns-then-not-branch-clause-takes_in
returns-then-not-branch-clause-takes_in c =
    let e : c.get.result ≡ Some c.in_ok-argument.argument = grind arith in
    stopped c.loop-i.invariant c.loop-i-test.true _ _ _ (sym c.get.ensures ∙ e) c.in_ok-take_in.ensures.takes_in c.if-not-branch.true

pub returns-then-not-branch-clause-grows : goal.returns-then-not-branch-clause-grows
returns-then-not-branch-clause-grows c = let l = c.loop-i.invariant.long in omega (arith, l, c.take_in.ensures.grows)

pub loop-i-preserved : goal.loop-i-preserved
loop-i-preserved c =
    let e : c.get.result ≡ Some c.in_ok-argument.argument = grind arith in
    goes_on c.loop-i.invariant c.loop-i-test.true _ _ _ (sym c.get.ensures ∙ e) c.in_ok-take_in.ensures.takes_in c.if-not-branch.false c.take_in.ensures.grows

pub returns-clause-takes_in : goal.returns-clause-takes_in
returns-clause-takes_in c = walked c.loop-i.invariant c.loop-i-test.false

pub returns-clause-grows : goal.returns-clause-grows
returns-clause-grows c = c.loop-i.invariant.long

pub returns-in_err-take_in-clause-fault : goal.returns-in_err-take_in-clause-fault
returns-in_err-take_in-clause-fault c = handed_on c.from_residual-in_err-take_in.result c.in_err-take_in.field-0.0 c.from_residual-in_err-take_in.ensures.1 c.in_err-take_in.ensures.fault
