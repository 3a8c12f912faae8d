-- What is told of a text that is written, in numbers.
use Rattle.std.specs.Prelude.{◌≡◌, ℕ, Ok, Err, Result}
use Rattle.base.specs.declared.fault.Fault.{Fault}
use Rattle.base.specs.Faults.{number}
use Rattle.mirabellejib.specs.declared.texts.Written.{Written}

abbrev pub written_of : Result ℕ Fault → Written
written_of (Ok n) = record { len = n; fault = 0 }
written_of (Err e) = record { len = 0; fault = number e }

-- It tells what a call answered, of which this is so.
abbrev pub Tells : (Result ℕ Fault → Type 0) → Written → Type 0
Tells Is w = (r : Result ℕ Fault) × Is r × (w ≡ written_of r)
