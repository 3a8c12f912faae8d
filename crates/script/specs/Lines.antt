-- The lines of the protocol that answer a request.
use Rattle.std.specs.Prelude.{◌≡◌, ℕ, List, ◌++◌, Ok, Err, Result, Vec, vec_items, codes, decimal}
use Rattle.std.specs.declared.alloc.AllocError.{AllocError}
use Rattle.std.specs.declared.alloc.Global.{Global}
use Rattle.std.specs.Allocator.{alloc_error}
use Rattle.base.specs.Faults.{number, layer, node}
use Rattle.script.specs.declared.answer.Answer.{Answer}
use Rattle.script.specs.declared.answer.Answer.TheVariants.{Text, Refused, Malformed}
use Rattle.script.specs.declared.failure.Failure.{Failure}
use Rattle.script.specs.declared.failure.Failure.TheVariants.{Refused as Turned, Memory}
use Rattle.script.specs.Hex.{hexed}

-- The answer that says what a call made. There is none where memory was short.
abbrev pub AnswerOf : Result (Vec ℕ Global) Failure → Result Answer AllocError → Type 0
AnswerOf (Ok v) r = r ≡ Ok (Text v)
AnswerOf (Err (Turned e)) r = r ≡ Ok (Refused e)
AnswerOf (Err Memory) r = r ≡ Err alloc_error

abbrev pub line_of : Answer → List ℕ
line_of (Text v) = codes "ok " ++ hexed (vec_items v)
line_of (Refused e) = codes "refused " ++ (decimal (number e) ++ (codes " layer " ++ (decimal (layer e) ++ (codes " node " ++ decimal (node e)))))
line_of Malformed = codes "malformed"
