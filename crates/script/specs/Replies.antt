-- What a line is answered with.
use Rattle.std.specs.Prelude.{ℕ, ◌*◌, min, List, length, Ok, Err, Result, Vec}
use Rattle.std.specs.declared.alloc.AllocError.{AllocError}
use Rattle.std.specs.declared.alloc.Global.{Global}
use Rattle.script.specs.Requests.{Asks}
use Rattle.script.specs.Runs.{Answers}
use Rattle.script.specs.Words.{Bytes}
use Rattle.script.specs.declared.answer.Answer.{Answer}
use Rattle.script.specs.declared.answer.Answer.TheVariants.{Text, Refused, Malformed}
use Rattle.script.specs.declared.failure.Failure.{Failure}
use Rattle.script.specs.declared.failure.Failure.TheVariants.{Refused as Turned}
use Rattle.script.specs.declared.request.Call.{Call}

-- The line asks for a call, and this is what the call makes.
abbrev pub Served : List ℕ → Result (Vec ℕ Global) Failure → Type 0
Served line r =
    (call : Call) × (bytes : List ℕ) × (room : ℕ) × Asks line call bytes room × Answers call bytes (min room (2 * length bytes)) r

-- A line that asks for nothing is malformed. Nothing is said where memory is short.
abbrev pub Replies : List ℕ → Result Answer AllocError → Type 0
Replies line (Ok (Text v)) = Served line (Ok v)
Replies line (Ok (Refused e)) = Served line (Err (Turned e))
Replies line (Ok Malformed) = (call : Call) (bytes : List ℕ) (room : ℕ) → Bytes bytes → Asks line call bytes room → ⊥
Replies line (Err e) = Unit {0}
