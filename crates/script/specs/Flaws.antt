-- What is made of a line that was read.
use Rattle.std.specs.Prelude.{◌≡◌, Option, Ok, Err, Result, MatchOption, MatchResult}
use Rattle.std.specs.declared.alloc.AllocError.{AllocError}
use Rattle.script.specs.declared.flaw.Flaw.{Flaw}
use Rattle.script.specs.declared.flaw.Flaw.TheVariants.{Malformed, Memory}

-- What was read is there, nothing is there where the line was malformed, and the error is there where memory was short.
abbrev pub Recognized : {T : Type 0} → Result T Flaw → Result (Option T) AllocError → Type 0
Recognized read r = MatchResult r (λ o. MatchOption o (read ≡ Err Malformed) (λ request. read ≡ Ok request)) (λ _. read ≡ Err Memory)
