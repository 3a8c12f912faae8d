use Rattle.std.proofs.Common.{◌∙◌, ap, refl, map, string_bytes}
use Rattle.std.proofs.lemmas.Result.{IfOk-weaker}
use Rattle.model.specs.Calls.{Call}
use Rattle.cases.specs.declared.call.CaseCall.TheVariants.{Enter, Leave, Try}
use Rattle.cases.specs.Items.{answers_said, call_of_trial}
use Rattle.cases.proofs.Making.{call_told}
use Rattle.cases.proofs.call.CaseCall.make.Goals as goal
use Rattle.cases.proofs.call.CaseCall.make.Goals.{in-Enter, in-Leave, in-Try+in_ok-names-in-Try}

pub returns-clause-made : goal.returns-clause-made
returns-clause-made c = IfOk-weaker c.format-2.result _ _ (λ s shown. elim c.match-self.branch [
  | in-Enter w ↦
      call_told c.args.loaded c.args.self.now (Enter w.in-Enter.child) _ (Call.enter w.in-Enter.child) c.args.session.now w.make-answer.new.self c.match-self.session w.make-answer.result c.match-self.answer (string_bytes s)
      w.in-Enter.is w.session-is w.answer-is shown w.make-answer.ensures.made refl (λ m n x. x)
  | in-Leave w ↦
      call_told c.args.loaded c.args.self.now Leave _ Call.leave c.args.session.now w.make-answer-in-Leave.new.self c.match-self.session w.make-answer-in-Leave.result c.match-self.answer (string_bytes s)
      w.in-Leave.is w.session-is w.answer-is shown w.make-answer-in-Leave.ensures.made refl (λ m n x. x)
  | in-Try+in_ok-names-in-Try w ↦
      call_told c.args.loaded c.args.self.now (Try w.in-Try.trial w.in-Try.word) _ (call_of_trial w.in-Try.trial (answers_said c.args.loaded w.in-Try.word)) c.args.session.now w.make-answer-in-Try.new.self c.match-self.session w.make-answer-in-Try.result c.match-self.answer (string_bytes s)
      w.in-Try.is w.session-is w.answer-is shown w.make-answer-in-Try.ensures.made
      (w.with.ensures ∙ ap (call_of_trial w.in-Try.trial) (w.host.ensures (ap (map (λ name. name.now)) w.as_slice.ensures.value ∙ w.in_ok-names-in-Try.ensures)))
      (λ m n x. x)
]) c.format-2.ensures.ok
