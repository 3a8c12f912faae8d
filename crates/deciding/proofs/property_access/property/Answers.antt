use Rattle.deciding.proofs.Accessed.{reference_kept, member_kept, of_member, no_key, key_kept, of_number, index_kept, of_index, nothing_read, effects_kept, read_planned}
use Rattle.deciding.proofs.property_access.property.Goals as goal

pub returns-in-Referred : goal.returns-in-Referred
returns-in-Referred g c = record {
  decides = λ x s.
      reference_kept _ _ _ _ c.in-Referred.is x;
  writes = λ x s. tt;
}

pub returns-in_default-member : goal.returns-in_default-member
returns-in_default-member g c = record {
  decides = λ x s.
      member_kept _ _ _ _ c.in_default.not-Referred _ _ c.in-Some.ensures.held c.in_default-member.not-ComputedMember x s;
  writes = λ x s. tt;
}

pub returns-in_default-node-2 : goal.returns-in_default-node-2
returns-in_default-node-2 g c = record {
  decides = λ x s.
      no_key _ _ _ (of_member _ _ _ _ c.in_default.not-Referred _ _ _ _ c.in-Some.ensures.held c.in-ComputedMember.is x s) c.in_default-node-2.ensures.held;
  writes = λ x s. tt;
}

pub returns-in_default-key : goal.returns-in_default-key
returns-in_default-key g c = record {
  decides = λ x s.
      key_kept _ _ _ (of_member _ _ _ _ c.in_default.not-Referred _ _ _ _ c.in-Some.ensures.held c.in-ComputedMember.is x s) _ c.in-Some-node.ensures.held c.in_default-key.not-Number;
  writes = λ x s. tt;
}

pub returns-in_default-to_integer_index : goal.returns-in_default-to_integer_index
returns-in_default-to_integer_index g c = record {
  decides = λ x s.
      index_kept _ _ _ (of_number _ _ _ (of_member _ _ _ _ c.in_default.not-Referred _ _ _ _ c.in-Some.ensures.held c.in-ComputedMember.is x s) _ _ c.in-Some-node.ensures.held c.in-Number.is) c.in_default-to_integer_index.ensures;
  writes = λ x s. tt;
}

pub returns-in_default-try_fold_integer_index_access : goal.returns-in_default-try_fold_integer_index_access
returns-in_default-try_fold_integer_index_access g c = record {
  decides = λ x s.
      nothing_read _ _ _
      (of_index _ _ _ (of_number _ _ _ (of_member _ _ _ _ c.in_default.not-Referred _ _ _ _ c.in-Some.ensures.held c.in-ComputedMember.is x s) _ _ c.in-Some-node.ensures.held c.in-Number.is) c.in-Some-to_integer_index.ensures.0 c.in-Some-to_integer_index.ensures.1)
      c.in_default-try_fold_integer_index_access.ensures.reads;
  writes = λ x s. tt;
}

pub returns-then-may_have_side_effects : goal.returns-then-may_have_side_effects
returns-then-may_have_side_effects g c = record {
  decides = λ x s.
      effects_kept _ _ _
      (of_index _ _ _ (of_number _ _ _ (of_member _ _ _ _ c.in_default.not-Referred _ _ _ _ c.in-Some.ensures.held c.in-ComputedMember.is x s) _ _ c.in-Some-node.ensures.held c.in-Number.is) c.in-Some-to_integer_index.ensures.0 c.in-Some-to_integer_index.ensures.1)
      c.if-may_have_side_effects.ensures;
  writes = λ x s. tt;
}

pub returns : goal.returns
returns g c = record {
  decides = λ x s.
      read_planned _ _ _ _ _ _
      (of_index _ _ _ (of_number _ _ _ (of_member _ _ _ _ c.in_default.not-Referred _ _ _ _ c.in-Some.ensures.held c.in-ComputedMember.is x s) _ _ c.in-Some-node.ensures.held c.in-Number.is) c.in-Some-to_integer_index.ensures.0 c.in-Some-to_integer_index.ensures.1)
      c.in-Some-try_fold_integer_index_access.ensures.reads c.if-may_have_side_effects.ensures;
  writes = λ x s. c.in-Some-try_fold_integer_index_access.ensures.writes x;
}
