use Rattle.std.proofs.Common.{◌≡◌, true, false, rules, subst, ap, ◌∙◌}
use Rattle.store.specs.Stores.{held_of}
use Rattle.tree.specs.Heap.{own}
use Rattle.meaning.specs.Parts.{Part}
use Rattle.rules.specs.Deciding.{outermost}
use Rattle.deciding.specs.Plans.{role_of, settings_of}
use Rattle.deciding.proofs.Records.{Read, read_there}
use Rattle.deciding.proofs.Objects.{is_base, fold_inner, fold_other, fold_array, fold_string, fold_unsupported}
use Rattle.deciding.proofs.Writing.{array_writes}
use Rattle.deciding.proofs.methods.try_fold_concat.Goals as goal

pub returns-then-eq : goal.returns-then-eq
unfolding outermost
returns-then-eq g c = record {
  folds = λ f sf o xs so sa.
      let e : outermost (role_of c.args.place) ≡ false = search rules in
      fold_inner _ _ (settings_of c.args.support) _ f o xs e;
  writes = λ o so. tt;
}

pub returns-in-Some-Array : goal.returns-in-Some-Array
unfolding outermost
returns-in-Some-Array g c = record {
  folds = λ f sf o xs so sa.
      let e : outermost (role_of c.args.place) ≡ true = search rules in
      let m = subst (λ r. Read (held_of c.args.stores.now) r (Part.expression o)) c.in-Some-Array.field-0-is (read_there so c.node.ensures.held c.in-Some-Array.is) in
      fold_array _ _ (settings_of c.args.support) _ f o xs _ _ _ _ _ e m c.try_fold_array_concat.ensures.concats sf so sa;
  writes = λ o so. array_writes _ (subst (λ r. Read (held_of c.args.stores.now) r (Part.expression o)) c.in-Some-Array.field-0-is (read_there so c.node.ensures.held c.in-Some-Array.is)) c.try_fold_array_concat.ensures.writes;
}

pub returns-in-Some-String : goal.returns-in-Some-String
unfolding outermost
returns-in-Some-String g c = record {
  folds = λ f sf o xs so sa.
      let e : outermost (role_of c.args.place) ≡ true = search rules in
      let m = subst (λ r. Read (held_of c.args.stores.now) r (Part.expression o)) c.in-Some-String.field-0-is (read_there so c.node.ensures.held c.in-Some-String.is) in
      fold_string _ _ (settings_of c.args.support) _ f o xs _ _ _ e c.if-support.true m c.try_fold_string_concat.ensures.joins sa;
  writes = λ o so. c.try_fold_string_concat.ensures.writes o;
}

pub returns-in_default : goal.returns-in_default
unfolding outermost
returns-in_default g c = record {
  folds = λ f sf o xs so sa.
      let e : outermost (role_of c.args.place) ≡ true = search rules in
      let m = subst (λ r. Read (held_of c.args.stores.now) r (Part.expression o)) c.in-Some-String.field-0-is (read_there so c.node.ensures.held c.in-Some-String.is) in
      fold_unsupported _ _ (settings_of c.args.support) _ f o xs _ e c.if-support.false m;
  writes = λ o so. tt;
}

pub returns-in_default-2 : goal.returns-in_default-2
returns-in_default-2 g c = record {
  folds = λ f sf o xs so sa.
      let m = read_there so c.node.ensures.held c.in_default.is in
      let e : is_base (own (held_of c.args.stores.now).text c.in_default.field-0) ≡ false = search rules in
      fold_other _ _ (settings_of c.args.support) _ f o xs (ap is_base m.owned ∙ e);
  writes = λ o so. tt;
}
