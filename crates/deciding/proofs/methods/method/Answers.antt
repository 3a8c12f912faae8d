use Rattle.std.proofs.Common.{◌≡◌, false, Some, rules, subst, ap, sym, ◌∙◌}
use Rattle.store.specs.Stores.{held_of}
use Rattle.tree.specs.Heap.{own}
use Rattle.meaning.specs.Parts.{Part}
use Rattle.deciding.specs.Plans.{role_of, settings_of}
use Rattle.deciding.proofs.Records.{Read, read_there}
use Rattle.deciding.proofs.Objects.{is_call, fold_no_call, fold_not_found, fold_unknown, fold_known}
use Rattle.deciding.proofs.Writing.{found_writes}
use Rattle.deciding.proofs.methods.method.Goals as goal

pub returns-in_default : goal.returns-in_default
returns-in_default g c = record {
  decides = λ x s.
      let e : is_call (own (held_of c.args.stores.now).text c.in_default.field-0) ≡ false = search rules in
      fold_no_call _ _ (settings_of c.args.support) (role_of c.args.place) x (read_there s c.node.ensures.held c.in_default.is) e;
  writes = λ x s. tt;
}

pub returns-in_default-find_method : goal.returns-in_default-find_method
returns-in_default-find_method g c = record {
  decides = λ x s.
      let m = subst (λ r. Read (held_of c.args.stores.now) r (Part.expression x)) c.in-Some-Call.field-0-is (read_there s c.node.ensures.held c.in-Some-Call.is) in
      fold_not_found _ _ (settings_of c.args.support) (role_of c.args.place) x m c.find_method.ensures c.in_default-find_method.is;
  writes = λ x s. tt;
}

pub returns-in-Some-Concat : goal.returns-in-Some-Concat
returns-in-Some-Concat g c = record {
  decides = λ x s.
      let m = subst (λ r. Read (held_of c.args.stores.now) r (Part.expression x)) c.in-Some-Call.field-0-is (read_there s c.node.ensures.held c.in-Some-Call.is) in
      fold_known _ _ (settings_of c.args.support) (role_of c.args.place) x c.in-Some.name c.in-Some.object _ _ m c.find_method.ensures c.in-Some.is
      (sym c.known_method.ensures ∙ c.in-Some-Concat.is ∙ ap (λ k. Some k) c.in-Some-Concat.field-0-is) c.try_fold_concat.ensures.folds;
  writes = λ x s. found_writes _ c.in-Some.name c.in-Some.object _ (subst (λ r. Read (held_of c.args.stores.now) r (Part.expression x)) c.in-Some-Call.field-0-is (read_there s c.node.ensures.held c.in-Some-Call.is)) c.find_method.ensures c.in-Some.is c.try_fold_concat.ensures.writes;
}

pub returns-in-Some-Pow : goal.returns-in-Some-Pow
returns-in-Some-Pow g c = record {
  decides = λ x s.
      let m = subst (λ r. Read (held_of c.args.stores.now) r (Part.expression x)) c.in-Some-Call.field-0-is (read_there s c.node.ensures.held c.in-Some-Call.is) in
      fold_known _ _ (settings_of c.args.support) (role_of c.args.place) x c.in-Some.name c.in-Some.object _ _ m c.find_method.ensures c.in-Some.is
      (sym c.known_method.ensures ∙ c.in-Some-Pow.is ∙ ap (λ k. Some k) c.in-Some-Pow.field-0-is) (λ f t. c.try_fold_pow.ensures.folds _ f);
  writes = λ x s. found_writes _ c.in-Some.name c.in-Some.object _ (subst (λ r. Read (held_of c.args.stores.now) r (Part.expression x)) c.in-Some-Call.field-0-is (read_there s c.node.ensures.held c.in-Some-Call.is)) c.find_method.ensures c.in-Some.is (λ o so. c.try_fold_pow.ensures.writes o);
}

pub returns-in-Some-Of : goal.returns-in-Some-Of
returns-in-Some-Of g c = record {
  decides = λ x s.
      let m = subst (λ r. Read (held_of c.args.stores.now) r (Part.expression x)) c.in-Some-Call.field-0-is (read_there s c.node.ensures.held c.in-Some-Call.is) in
      fold_known _ _ (settings_of c.args.support) (role_of c.args.place) x c.in-Some.name c.in-Some.object _ _ m c.find_method.ensures c.in-Some.is
      (sym c.known_method.ensures ∙ c.in-Some-Of.is ∙ ap (λ k. Some k) c.in-Some-Of.field-0-is) (λ f t. c.try_fold_array_of.ensures.folds (settings_of c.args.support) _ f);
  writes = λ x s. found_writes _ c.in-Some.name c.in-Some.object _ (subst (λ r. Read (held_of c.args.stores.now) r (Part.expression x)) c.in-Some-Call.field-0-is (read_there s c.node.ensures.held c.in-Some-Call.is)) c.find_method.ensures c.in-Some.is c.try_fold_array_of.ensures.writes;
}

pub returns-in-None : goal.returns-in-None
returns-in-None g c = record {
  decides = λ x s.
      let m = subst (λ r. Read (held_of c.args.stores.now) r (Part.expression x)) c.in-Some-Call.field-0-is (read_there s c.node.ensures.held c.in-Some-Call.is) in
      fold_unknown _ _ (settings_of c.args.support) (role_of c.args.place) x c.in-Some.name c.in-Some.object m c.find_method.ensures c.in-Some.is (sym c.known_method.ensures ∙ c.in-None.is);
  writes = λ x s. tt;
}
