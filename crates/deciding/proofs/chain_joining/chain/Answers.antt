use Rattle.std.proofs.Common.{Some, ap, ◌∙◌}
use Rattle.deciding.proofs.ChainDecided.{inner_call, no_chain, one_kept, string_template, string_call, string_kept, array_call, array_kept}
use Rattle.deciding.proofs.chain_joining.chain.Goals as goal

pub returns-in-ConcatObject : goal.returns-in-ConcatObject
returns-in-ConcatObject g c = record {
  decides = λ few.
      inner_call _ _ _ _ _ _ c.in-ConcatObject.is;
  writes = λ x s. tt;
}

pub returns-in_default-collect_arguments : goal.returns-in_default-collect_arguments
returns-in_default-collect_arguments g c = record {
  decides = λ few.
      no_chain _ _ _ _ _ c.in_default.not-ConcatObject few c.in_default-collect_arguments.ensures;
  writes = λ x s. tt;
}

pub returns-then-calls-le1 : goal.returns-then-calls-le1
returns-then-calls-le1 g c = record {
  decides = λ few.
      one_kept _ _ _ _ _ c.in_default.not-ConcatObject few _ c.in-Some.ensures _ c.collected_arguments-calls.ensures.calls c.if-calls-le1.true;
  writes = λ x s. tt;
}

pub returns-in-Some-Template : goal.returns-in-Some-Template
returns-in-Some-Template g c = record {
  decides = λ few.
      string_template _ _ _ _ _ c.in_default.not-ConcatObject few _ c.in-Some.ensures _ c.collected_arguments-calls.ensures.calls c.if-calls-le1.false c.in-String.is _ c.join_string_calls.ensures
      (c.in-Some-Template.is ∙ ap Some c.in-Some-Template.field-0-is);
  writes = λ x s. tt;
}

pub returns-in-Some-OneCall : goal.returns-in-Some-OneCall
returns-in-Some-OneCall g c = record {
  decides = λ few.
      string_call _ _ _ _ _ c.in_default.not-ConcatObject few _ c.in-Some.ensures _ c.collected_arguments-calls.ensures.calls c.if-calls-le1.false c.in-String.is _ c.join_string_calls.ensures
      (c.in-Some-OneCall.is ∙ ap Some c.in-Some-OneCall.field-0-is);
  writes = λ x s. tt;
}

pub returns-in-None : goal.returns-in-None
returns-in-None g c = record {
  decides = λ few.
      string_kept _ _ _ _ _ c.in_default.not-ConcatObject few _ c.in-Some.ensures _ c.collected_arguments-calls.ensures.calls c.if-calls-le1.false c.in-String.is _ c.join_string_calls.ensures c.in-None.is;
  writes = λ x s. tt;
}

pub returns-then-are_apart : goal.returns-then-are_apart
returns-then-are_apart g c = record {
  decides = λ few.
      array_call _ _ _ _ _ c.in_default.not-ConcatObject few _ c.in-Some.ensures _ c.collected_arguments-calls.ensures.calls c.if-calls-le1.false c.in-Array.is _ c.are_apart.ensures c.if-are_apart.true;
  writes = λ x s. tt;
}

pub returns-else-are_apart : goal.returns-else-are_apart
returns-else-are_apart g c = record {
  decides = λ few.
      array_kept _ _ _ _ _ c.in_default.not-ConcatObject few _ c.in-Some.ensures _ c.collected_arguments-calls.ensures.calls c.if-calls-le1.false c.in-Array.is _ c.are_apart.ensures c.if-are_apart.false;
  writes = λ x s. tt;
}
