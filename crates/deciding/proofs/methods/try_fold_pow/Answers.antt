use Rattle.std.proofs.Common.{◌≡◌, true, false, sym, ◌∙◌, arith, rules}
use Rattle.deciding.specs.Plans.{settings_of}
use Rattle.deciding.proofs.Names.{math_stored}
use Rattle.deciding.proofs.Objects.{pow_of_others, pow_of_spreads, pow_without_power, pow_of_no_global, pow_with_number, pow_coerced}
use Rattle.deciding.proofs.methods.try_fold_pow.Goals as goal
use Rattle.deciding.proofs.methods.try_fold_pow.Goals.{then-not-support-via-then-not-support, then-not-support-via-else-not-support+then-has_spread, then-not-support-via-else-not-support+else-has_spread+then-not-validate_global_reference}

pub returns-in_default-arguments : goal.returns-in_default-arguments
returns-in_default-arguments g c = record {
  folds = λ r f o xs so sa.
      pow_of_others _ _ (settings_of c.args.support) r f o xs c.args.arguments _ c.in-Some.ensures.1 sa (omega arith);
  writes = λ o. tt;
}

pub returns-in_default-arguments-2 : goal.returns-in_default-arguments-2
returns-in_default-arguments-2 g c = record {
  folds = λ r f o xs so sa.
      pow_of_others _ _ (settings_of c.args.support) r f o xs c.args.arguments _ c.in-Some.ensures.1 sa (omega arith);
  writes = λ o. tt;
}

pub returns-then-not-support : goal.returns-then-not-support
returns-then-not-support g c = record {
  folds = λ r f o xs so sa.
      elim c.then-not-support.branch [
        | then-not-support-via-then-not-support w ↦
            let e : c.args.support.power ≡ false = search rules in
            pow_without_power _ _ (settings_of c.args.support) r f o xs c.args.arguments _ c.in-Some.ensures.1 sa e
        | then-not-support-via-else-not-support+then-has_spread w ↦ pow_of_spreads _ _ (settings_of c.args.support) r f o xs c.args.arguments _ c.in-Some.ensures.1 sa (sym w.has_spread.ensures ∙ w.if-has_spread.true)
        | then-not-support-via-else-not-support+else-has_spread+then-not-validate_global_reference w ↦
            pow_of_no_global _ _ (settings_of c.args.support) r f o xs c.args.arguments _ c.in-Some.ensures.1 sa _ (w.validate_global_reference.ensures o _ so math_stored) w.if-not-validate_global_reference.true
      ];
  writes = λ o. tt;
}

pub returns-in-Number : goal.returns-in-Number
returns-in-Number g c = record {
  folds = λ r f o xs so sa.
      let e : c.args.support.power ≡ true = search rules in
      pow_with_number _ _ (settings_of c.args.support) r f o xs c.args.arguments _ c.in-Some.ensures.1 sa _ _ (c.validate_global_reference.ensures o _ so math_stored) c.if-not-validate_global_reference.false e
      (sym c.has_spread.ensures ∙ c.if-has_spread.false) (omega arith) c.value_type.ensures c.in-Number.is;
  writes = λ o. tt;
}

pub returns-in_default-value_type : goal.returns-in_default-value_type
returns-in_default-value_type g c = record {
  folds = λ r f o xs so sa.
      let e : c.args.support.power ≡ true = search rules in
      pow_coerced _ _ (settings_of c.args.support) r f o xs c.args.arguments _ c.in-Some.ensures.1 sa _ _ (c.validate_global_reference.ensures o _ so math_stored) c.if-not-validate_global_reference.false e
      (sym c.has_spread.ensures ∙ c.if-has_spread.false) (omega arith) c.value_type.ensures c.in_default-value_type.not-Number;
  writes = λ o. tt;
}
