-- Calls and answers that are values, as the definitions have them.
use Rattle.std.specs.Prelude.{List}
use Rattle.host.specs.Answers.{Answers}
use Rattle.model.specs.Calls.{Call, Answer, Makes}
use Rattle.model.specs.Tries.{Rule, Try}
use Rattle.session.specs.declared.call.Call.{Call as CallValue}
use Rattle.session.specs.declared.call.Call.TheVariants.{Enter, Leave, Chain, Method, Property, Sweep}
use Rattle.session.specs.declared.call.Answer.{Answer as AnswerValue}
use Rattle.session.specs.declared.call.Answer.TheVariants.{Moved, Tried, Swept}
use Rattle.session.specs.declared.session.Session.{Session}
use Rattle.session.specs.Following.{given_of, Follows}

-- A host is known by its answers.
abbrev pub call_of : {H : Type 0} → (H → Answers) → CallValue H → Call
call_of a (Enter k) = Call.enter k
call_of a Leave = Call.leave
call_of a (Chain h) = Call.rewrite Rule.chain (a h.now)
call_of a (Method h) = Call.rewrite Rule.method (a h.now)
call_of a (Property h) = Call.rewrite Rule.property (a h.now)
call_of a (Sweep h) = Call.sweep (a h.now)

abbrev pub answer_of : AnswerValue → Answer
answer_of (Moved r) = Answer.moves r
answer_of (Tried r) = Answer.tries r
answer_of (Swept r) = Answer.sweeps r

-- The caller's view of a call.
abbrev pub MakesCall : {H : Type 0} → (H → Answers) → CallValue H → (old new : Session) → AnswerValue → Type 0
MakesCall a call old new result = Follows (λ m n. (ts : List Try) × Makes (given_of old) m (call_of a call) (answer_of result) n ts) old new
