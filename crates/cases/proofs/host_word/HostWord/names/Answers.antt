use Rattle.std.proofs.Common.{◌∙◌, ap, sym, vec_items, rules, tests}
use Rattle.std.proofs.lemmas.Iterator.{YieldsList-from_slice, YieldsList-from_map_by}
use Rattle.std.proofs.lemmas.Iterator.Consumers.{map_from_collect}
use Rattle.std.proofs.lemmas.Result.{IfOk-weaker}
use Rattle.cases.specs.Items.{names_said}
use Rattle.cases.proofs.host_word.HostWord.names.Goals as goal

pub returns-in-Structural : goal.returns-in-Structural
returns-in-Structural c =
    IfOk-weaker c.collect.result _ _
    (λ v e. e ∙ ap names_said (sym c.in-Structural.is))
    (map_from_collect c.collect.result c.collect.ensures.ran (YieldsList-from_map_by _ (λ r. r.now) vec_items (YieldsList-from_slice c.in-Structural.names.items cc) c.map.ensures.closure (λ x r q k. search (rules, tests))))
