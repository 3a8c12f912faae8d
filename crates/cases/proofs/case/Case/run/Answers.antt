use Rattle.std.proofs.Common.{◌∙◌}
use Rattle.std.proofs.lemmas.Result.{IfOk-weaker}
use Rattle.cases.proofs.Answering.{written_so, answered_run}
use Rattle.cases.proofs.Asking.{refused_run}
use Rattle.cases.proofs.case.Case.run.Goals as goal

pub returns : goal.returns
returns c =
    let rooms = c.stores.ensures.rooms ∙ c.in_ok-memory.ensures in
    IfOk-weaker c.format-in-Err.result _ _
    (λ s printed. refused_run c.args.self.now.file.items c.as_slice.result.now _ c.args.self.now.rooms _ c.args.self.now.support c.args.self.now.calls.items c.in-Err.refused.fault c.as_slice.ensures.value rooms c.in-Err.ensures.0 printed)
    c.format-in-Err.ensures.ok

pub returns-in-Ok : goal.returns-in-Ok
returns-in-Ok c =
    let rooms = c.stores.ensures.rooms ∙ c.in_ok-memory.ensures in
    let made = c.in_ok-make_calls-in-Ok.ensures.made in
    let told = written_so _ _ _ _ _ _ c.in_ok-text-in-Ok.ensures.ok made.1 (c.as_str.ensures.value ∙ c.in_ok-format-in-Ok.ensures.ok) c.in_ok-push_str-in-Ok.ensures.bytes in
    answered_run c.args.self.now.file.items c.as_slice.result.now c.args.self.now.rooms c.args.self.now.support c.args.self.now.calls.items c.stores.result c.in-Ok.loaded c.open-session.result c.make_calls.new.session c.end.result c.of.result made.0 _
    c.as_slice.ensures.value rooms c.in-Ok.ensures c.open-session.ensures made.2 c.end.ensures c.of.ensures.root c.of.ensures.rewrites c.of.ensures.counts told
