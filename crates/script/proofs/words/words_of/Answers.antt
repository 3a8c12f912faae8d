use Rattle.std.proofs.Common.{◌∙◌, rules}
use Rattle.std.proofs.lemmas.Iterator.Consumers.{map_from_collect}
use Rattle.std.proofs.lemmas.Iterator.Splits.{YieldsList-from_str_split}
use Rattle.std.proofs.lemmas.Result.{IfOk-at_ok}
use Rattle.script.proofs.words.words_of.Goals as goal

pub returns : goal.returns
returns c =
    let all = map_from_collect c.collect.result c.collect.ensures.ran (YieldsList-from_str_split 0x20 c.args.line.now (search rules) (c.split.ensures.text ∙ c.in_ok-from_utf8.ensures.cases.0) c.split.ensures.has_more c.split.ensures.pattern) in
    IfOk-at_ok _ c.in_ok-collect.was all
