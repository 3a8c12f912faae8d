use Rattle.std.proofs.Common.{◌<◌, length, sym, ◌∙◌, arith}
use Rattle.std.proofs.lemmas.Bool.Decides.{nat_tests}
use Rattle.deciding.proofs.Folding.{empty_kept, spread_kept, long_kept, apart_kept, fold_joined}
use Rattle.deciding.proofs.methods.try_fold_string_concat.Goals as goal
use Rattle.deciding.proofs.methods.try_fold_string_concat.Goals.{then-is_empty-via-then-is_empty, then-is_empty-via-else-is_empty+then-has_spread, then-is_empty-via-else-is_empty+else-has_spread+then-not-string_concat_prefers_template, then-is_empty-via-else-is_empty+else-has_spread+else-not-string_concat_prefers_template+then-not-string_concat_can_interleave}

pub returns-then-is_empty : goal.returns-then-is_empty
returns-then-is_empty g c = record {
  joins = λ s u xs st su sa.
      elim c.then-is_empty.branch [
        | then-is_empty-via-then-is_empty w ↦ empty_kept _ _ s u xs c.args.arguments _ c.in-Some.ensures.1 sa (grind (arith, nat_tests))
        | then-is_empty-via-else-is_empty+then-has_spread w ↦ spread_kept _ _ s u xs c.args.arguments _ c.in-Some.ensures.1 sa (sym w.has_spread.ensures ∙ w.if-has_spread.true)
        | then-is_empty-via-else-is_empty+else-has_spread+then-not-string_concat_prefers_template w ↦
            long_kept _ _ s u xs c.args.arguments _ c.in-Some.ensures.1 sa _ w.count_expressions.ensures (sym w.string_concat_prefers_template.ensures ∙ w.if-not-string_concat_prefers_template.true)
        | then-is_empty-via-else-is_empty+else-has_spread+else-not-string_concat_prefers_template+then-not-string_concat_can_interleave w ↦
            apart_kept _ _ s u xs c.args.arguments _ c.in-Some.ensures.1 sa _ (sym w.has_spread.ensures ∙ w.if-has_spread.false) w.string_concat_can_interleave.ensures w.if-not-string_concat_can_interleave.true
      ];
  writes = λ o. tt;
}

pub returns : goal.returns
returns g c = record {
  joins = λ s u xs st su sa.
      let more : 0 < length c.in-Some.entries.now = grind (arith, nat_tests) in
      fold_joined _ _ s u xs c.args.arguments _ c.in-Some.ensures.1 sa _ _ c.args.base st su more (sym c.has_spread.ensures ∙ c.if-has_spread.false) c.count_expressions.ensures
      (sym c.string_concat_prefers_template.ensures ∙ c.if-not-string_concat_prefers_template.false) c.string_concat_can_interleave.ensures c.if-not-string_concat_can_interleave.false;
  writes = λ o. tt;
}
