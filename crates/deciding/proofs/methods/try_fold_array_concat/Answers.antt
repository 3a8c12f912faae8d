use Rattle.rules.specs.Space.{elements_by}
use Rattle.std.proofs.Common.{refl, ◌<◌, length, arith}
use Rattle.std.proofs.lemmas.Bool.Decides.{nat_tests}
use Rattle.deciding.proofs.Folding.{fold_itself, fold_none, fold_all, fold_some}
use Rattle.deciding.proofs.methods.try_fold_array_concat.Goals as goal

pub returns-then-is_empty : goal.returns-then-is_empty
returns-then-is_empty c = record {
  concats = λ a f j es xs sf so se sa.
      fold_itself _ a f j es xs c.args.arguments _ c.in-Some.ensures.1 sa _ so (grind (arith, nat_tests));
  writes = λ j es. tt;
}

pub returns-then-taken-eq0 : goal.returns-then-taken-eq0
returns-then-taken-eq0 c = record {
  concats = λ a f j es xs sf so se sa.
      let more : 0 < length c.in-Some.entries.now = grind (arith, nat_tests) in
      fold_none _ a f j es xs c.args.arguments _ c.in-Some.ensures.1 sa _ more c.count_taken-taken.ensures c.if-taken-eq0.true;
  writes = λ j es. tt;
}

pub returns-then-taken-entries : goal.returns-then-taken-entries
unfolding elements_by
returns-then-taken-entries c = record {
  concats = λ a f j es xs sf so se sa.
      fold_all _ a f j es xs c.args.arguments _ c.in-Some.ensures.1 sa _ c.args.elements se c.count_taken-taken.ensures c.if-taken-eq0.false c.if-taken-entries.true;
  writes = λ j es k fs. refl;
}

pub returns-else-taken-entries : goal.returns-else-taken-entries
returns-else-taken-entries c = record {
  concats = λ a f j es xs sf so se sa.
      fold_some _ a f j es xs c.args.arguments _ c.in-Some.ensures.1 sa _ c.args.callee c.args.elements sf se c.count_taken-taken.ensures c.if-taken-eq0.false c.if-taken-entries.false;
  writes = λ j es. tt;
}
