use Rattle.std.proofs.Common.{◌∙◌, ap, sym, map, rules}
use Rattle.std.proofs.lemmas.Iterator.Consumers.{map_from_collect}
use Rattle.std.proofs.lemmas.Iterator.Splits.{YieldsList-from_str_split}
use Rattle.std.proofs.lemmas.Result.{IfOk-at_ok}
use Rattle.cases.proofs.Asking.{rooms_said}
use Rattle.cases.proofs.case.rooms_of.Goals as goal

pub returns : goal.returns
returns c =
    let all = map_from_collect c.collect.result c.collect.ensures.ran (YieldsList-from_str_split 0x2c c.args.word.now (search rules) c.split.ensures.text c.split.ensures.has_more c.split.ensures.pattern) in
    let parts = sym (IfOk-at_ok _ c.in_ok-rooms.was all) ∙ ap (map (λ x. x.now)) (sym c.as_slice.ensures.value) in
    rooms_said c.args.word.now _ c.as_slice.result.now _ parts c.in-len3.len_at_least c.in-len3.len_below
    (rw c.as_bytes.ensures.value at c.in_ok-number_of.ensures)
    (rw c.as_bytes-2.ensures.value at c.in_ok-number_of-2.ensures)
    (rw c.as_bytes-3.ensures.value at c.in_ok-number_of-3.ensures)
