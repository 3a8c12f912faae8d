use Rattle.std.proofs.Common.{◌++◌, codes, ap, ◌∙◌, string_bytes}
use Rattle.cases.proofs.Making.{none_written, call_written}
use Rattle.cases.proofs.case.Case.make_calls.Goals as goal

pub loop-call-init : goal.loop-call-init
loop-call-init c = none_written (string_bytes c.args.text.now) c.args.session.now c.counts-loaded.result.nodes c.deref-call-items.result.now

pub loop-call-preserved : goal.loop-call-preserved
loop-call-preserved c =
    call_written (string_bytes c.args.text.now) (string_bytes c.loop-call.text) (string_bytes c.push_str-in-loop-call.new.self) c.args.session.now c.loop-call.session c.make.new.session c.counts-loaded.result.nodes c.deref-call-items.result.now (string_bytes c.in_ok-make.field-0) c.loop-call.call-index c.call-item.result
    c.loop-call.invariant c.loop-call-test.true c.call-item.is c.in_ok-make.ensures.made c.in_ok-make.ensures.given
    (c.in_ok-push_str-2.ensures.bytes
    ∙ ap (λ xs. xs ++ c.as_str.result.now) c.in_ok-push_str.ensures.bytes
    ∙ ap (λ ys. string_bytes c.loop-call.text ++ codes "; " ++ ys) c.as_str.ensures.value)
