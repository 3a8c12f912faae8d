-- What a line is answered with, from what it asks for. Assumes nothing.
use Rattle.std.proofs.Common.{ℕ, ◌*◌, min, List, length, Ok, Err, Result, sym, subst, Vec}
use Rattle.std.specs.declared.alloc.AllocError.{AllocError}
use Rattle.std.specs.declared.alloc.Global.{Global}
use Rattle.script.specs.Lines.{AnswerOf}
use Rattle.script.specs.Replies.{Replies}
use Rattle.script.specs.Requests.{Asks}
use Rattle.script.specs.Runs.{Answers}
use Rattle.script.specs.declared.answer.Answer.{Answer}
use Rattle.script.specs.declared.failure.Failure.{Failure}
use Rattle.script.specs.declared.failure.Failure.TheVariants.{Refused, Memory}
use Rattle.script.specs.declared.request.Call.{Call}

pub answered : (line : List ℕ) (call : Call) (bytes : List ℕ) (room : ℕ) (made : Result (Vec ℕ Global) Failure) (r : Result Answer AllocError) → Asks line call bytes room → Answers call bytes (min room (2 * length bytes)) made → AnswerOf made r → Replies line r
answered line call bytes room (Ok v) r a m e = subst (Replies line) (sym e) (call, bytes, room, a, m)
answered line call bytes room (Err (Refused f)) r a m e = subst (Replies line) (sym e) (call, bytes, room, a, m)
answered line call bytes room (Err Memory) r a m e = subst (Replies line) (sym e) tt
