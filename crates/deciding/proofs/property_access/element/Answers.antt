use Rattle.deciding.proofs.Picked.{past_planned, behind_planned, element_planned, none_planned, node_there}
use Rattle.deciding.proofs.property_access.element.Goals as goal

pub returns-in_default : goal.returns-in_default
returns-in_default c = record {
  reads = λ next xs a.
      past_planned _ next xs _ _ a c.in_default.ensures.lookup.0;
  writes = tt;
}

pub returns-then-has_spread : goal.returns-then-has_spread
returns-then-has_spread c = record {
  reads = λ next xs a.
      behind_planned _ next xs _ _ a c.if-has_spread.ensures;
  writes = tt;
}

pub returns-in_default-node : goal.returns-in_default-node
returns-in_default-node c = record {
  reads = λ next xs a.
      node_there _ next xs _ _ _ _ a c.if-has_spread.ensures c.in-Some.ensures.lookup.0 c.in-Some.ensures.lookup.1 c.in_default-node.ensures.held;
  writes = tt;
}

pub returns-in-IsExpression : goal.returns-in-IsExpression
returns-in-IsExpression c = record {
  reads = λ next xs a.
      element_planned _ next xs _ _ _ _ _ _ a c.if-has_spread.ensures c.in-Some.ensures.lookup.0 c.in-Some.ensures.lookup.1 c.in-Some-node.ensures.held c.in-IsExpression.ensures;
  writes = λ x. tt;
}

pub returns-in-IsHole : goal.returns-in-IsHole
returns-in-IsHole c = record {
  reads = λ next xs a.
      element_planned _ next xs _ _ _ _ _ _ a c.if-has_spread.ensures c.in-Some.ensures.lookup.0 c.in-Some.ensures.lookup.1 c.in-Some-node.ensures.held c.in-IsHole.ensures;
  writes = λ x. tt;
}

pub returns-in-IsSpread : goal.returns-in-IsSpread
returns-in-IsSpread c = record {
  reads = λ next xs a.
      none_planned _ next xs _ _ _ _ _ _ a c.if-has_spread.ensures c.in-Some.ensures.lookup.0 c.in-Some.ensures.lookup.1 c.in-Some-node.ensures.held c.sort.ensures c.in-IsSpread.is;
  writes = tt;
}
