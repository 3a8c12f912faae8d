use Rattle.std.proofs.Common.{◌∙◌}
use Rattle.script.proofs.Requested.{words_read}
use Rattle.cases.proofs.Asking.{asks_case}
use Rattle.cases.proofs.case.Case.parse.Goals as goal

pub returns : goal.returns
returns c =
    let words = words_read c.args.line.now _ _ c.in_ok-words.ensures c.as_slice.ensures.value in
    asks_case c.args.line.now _ _ _ c.as_slice.result.now _ words c.in-case.len_at_least c.in-case.is-case (c.in_ok-bytes_of.ensures ∙ c.as_bytes.ensures.value) c.in_ok-rooms_of.ensures c.in_ok-switch_of.ensures c.in_ok-switch_of-2.ensures
