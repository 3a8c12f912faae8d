use Rattle.deciding.proofs.Names.{array_stored}
use Rattle.deciding.proofs.Objects.{of_no_global, of_becomes}
use Rattle.deciding.proofs.Writing.{global_writes_none}
use Rattle.deciding.proofs.methods.try_fold_array_of.Goals as goal

pub returns-then-not-validate_global_reference : goal.returns-then-not-validate_global_reference
returns-then-not-validate_global_reference g c = record {
  folds = λ s r f o xs so sa.
      of_no_global _ _ s r f o xs c.args.arguments sa _ (c.validate_global_reference.ensures o _ so array_stored) c.if-not-validate_global_reference.true;
  writes = λ o so. tt;
}

pub returns : goal.returns
returns g c = record {
  folds = λ s r f o xs so sa.
      of_becomes _ _ s r f o xs c.args.arguments sa _ (c.validate_global_reference.ensures o _ so array_stored) c.if-not-validate_global_reference.false;
  writes = λ o so. global_writes_none _ _ o _ (c.validate_global_reference.ensures o _ so array_stored) c.if-not-validate_global_reference.false;
}
