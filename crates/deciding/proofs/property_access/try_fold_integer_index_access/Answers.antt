use Rattle.std.proofs.Common.{Some, ap, sym, ◌∙◌}
use Rattle.deciding.proofs.Picked.{read_string, read_array, read_other}
use Rattle.deciding.proofs.property_access.try_fold_integer_index_access.Goals as goal

pub returns-in-Some-text : goal.returns-in-Some-text
returns-in-Some-text c = record {
  reads = λ next x s.
      read_string _ next _ _ _ x _ _ (ap Some (sym c.in-String.is) ∙ c.in-Some.ensures.held) c.in-Some-text.ensures.1 c.unit.ensures.reads s;
  writes = c.unit.ensures.writes;
}

pub returns-in-Some-list : goal.returns-in-Some-list
returns-in-Some-list c = record {
  reads = λ next x s.
      read_array _ next _ _ _ x _ _ (ap Some (sym c.in-Array.is) ∙ c.in-Some.ensures.held) c.in-Some-list.ensures.1 c.element.ensures.reads s;
  writes = c.element.ensures.writes;
}

pub returns-in_default-object : goal.returns-in_default-object
returns-in_default-object c = record {
  reads = λ next x s.
      read_other _ next _ _ _ x c.in-Some.ensures.held c.in_default-object.not-String c.in_default-object.not-Array s;
  writes = tt;
}
