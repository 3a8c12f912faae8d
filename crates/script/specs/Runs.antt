-- What a call of the library answers.
use Rattle.std.specs.Prelude.{◌≡◌, ℕ, ◌≤◌, List, [], ◌∷◌, length, Ok, Err, vec_items, Result, Vec}
use Rattle.std.specs.declared.alloc.Global.{Global}
use Rattle.base.specs.Questions.{Refuses}
use Rattle.text.specs.Stored.{stored, Stores}
use Rattle.template.specs.Cooked.{Cooks}
use Rattle.template.specs.Escaped.{raw_of}
use Rattle.script.specs.declared.request.Call.{Call}
use Rattle.script.specs.declared.request.Call.TheVariants.{Escape, Cook}
use Rattle.script.specs.declared.failure.Failure.{Failure}
use Rattle.script.specs.declared.failure.Failure.TheVariants.{Refused, Memory}

-- The text that the bytes mean to the call, and the form in which it answers.
abbrev pub Means : Call → List ℕ → List ℕ → Type 0
Means Escape bytes us = Stores bytes us
Means Cook bytes us = Cooks bytes us

abbrev pub form : Call → List ℕ → List ℕ
form Escape us = raw_of us
form Cook us = stored us

-- The answer for an output of `room` bytes. Nothing is said where memory is short.
abbrev pub Answers : Call → List ℕ → ℕ → Result (Vec ℕ Global) Failure → Type 0
Answers call bytes room (Ok v) = (us : List ℕ) × Means call bytes us × (vec_items v ≡ form call us) × (length (form call us) ≤ room)
Answers call bytes room (Err (Refused e)) =
    Refuses (((12, 0), (us : List ℕ) × Means call bytes us) ∷ ((13, 0), (us : List ℕ) → Means call bytes us → length (form call us) ≤ room) ∷ []) e
Answers call bytes room (Err Memory) = Unit {0}
