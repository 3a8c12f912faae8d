use Rattle.std.proofs.Common.{◌≡◌, false, rules, subst, sym, arith}
use Rattle.store.specs.Stores.{held_of}
use Rattle.deciding.proofs.Records.{Read, read_there}
use Rattle.building.proofs.Appended.{number_appended, number_refused}
use Rattle.building.proofs.Taking.{is_array, not_taken, nothing_taken, array_taken, array_refused, literal_taken, literal_refused}
use Rattle.building.proofs.Faults.{handed_on, overfull}
use Rattle.building.proofs.arrays.take_in.Goals as goal

pub returns-in_err-append_list-in-Some-Array-clause-takes_in : goal.returns-in_err-append_list-in-Some-Array-clause-takes_in
returns-in_err-append_list-in-Some-Array-clause-takes_in c p s =
    let m = subst (λ r. Read (held_of c.args.stores.now) r p) c.in-Some-Array.field-0-is (read_there s c.node.ensures.held c.in-Some-Array.is) in
    array_refused _ _ p m _ c.from_residual.ensures.0 c.in_err-append_list-in-Some-Array.ensures.lists

pub returns-in_err-append-in-Some-clause-takes_in : goal.returns-in_err-append-in-Some-clause-takes_in
returns-in_err-append-in-Some-clause-takes_in c p s =
    literal_refused _ _ p (read_there s c.node.ensures.held c.in-Some.is) (sym c.if-is_literal.ensures) _ c.from_residual-in_err-append-in-Some.ensures.0
    (number_refused c.args.stores.now c.args.argument p _ c.in_err-append-in-Some.ensures.2)

pub returns-in_default : goal.returns-in_default
returns-in_default c = record {
  takes_in = λ p s.
      let e : is_array c.in-Some.node ≡ false = search rules in
      nothing_taken _ p (read_there s c.node.ensures.held c.in-Some.is) (not_taken c.in-Some.node (sym c.if-is_literal.ensures) e);
  grows = omega arith;
  fault = tt;
}

pub returns-in_ok-append_list-in-Some-Array-clause-takes_in : goal.returns-in_ok-append_list-in-Some-Array-clause-takes_in
returns-in_ok-append_list-in-Some-Array-clause-takes_in c p s =
    let m = subst (λ r. Read (held_of c.args.stores.now) r p) c.in-Some-Array.field-0-is (read_there s c.node.ensures.held c.in-Some-Array.is) in
    array_taken _ _ p m c.in_ok-append_list-in-Some-Array.ensures.lists

pub returns-in_ok-append-in-Some-clause-takes_in : goal.returns-in_ok-append-in-Some-clause-takes_in
returns-in_ok-append-in-Some-clause-takes_in c p s =
    literal_taken _ _ p (read_there s c.node.ensures.held c.in-Some.is) (sym c.if-is_literal.ensures) (number_appended _ _ _ p c.in_ok-append-in-Some.ensures.0 s)

pub returns-in_err-append_list-in-Some-Array-clause-fault : goal.returns-in_err-append_list-in-Some-Array-clause-fault
returns-in_err-append_list-in-Some-Array-clause-fault c = handed_on c.from_residual.result c.in_err-append_list-in-Some-Array.field-0.0 c.from_residual.ensures.1 c.in_err-append_list-in-Some-Array.ensures.fault

pub returns-in_err-append-in-Some-clause-fault : goal.returns-in_err-append-in-Some-clause-fault
returns-in_err-append-in-Some-clause-fault c = handed_on c.from_residual-in_err-append-in-Some.result c.in_err-append-in-Some.field-0.0 c.from_residual-in_err-append-in-Some.ensures.1 (overfull c.in_err-append-in-Some.field-0.0 c.in_err-append-in-Some.ensures.2)
