-- What a call answers is one thing, and so is what it leaves in its output: its definition leaves nothing open. That
-- there is such an answer for each input is seen from the call, which gives one.
use Rattle.std.specs.Prelude.{◌≡◌, ℕ, List, Option, Result, Ok, Err}
use Rattle.base.specs.declared.fault.Fault.{Fault}
use Rattle.base.specs.Questions.{named}
use Rattle.base.specs.Runs.{Appended}
use Rattle.text.specs.Calls.{Counts, Picks, Joins}
use Rattle.template.specs.Calls.{Escapes, CooksInto}

-- The same value, or a fault of the same number and node.
abbrev pub SameAnswer : {A : Type 0} → Result A Fault → Result A Fault → Type 0
SameAnswer (Ok a) (Ok b) = a ≡ b
SameAnswer (Ok a) (Err f) = ⊥
SameAnswer (Err e) (Ok b) = ⊥
SameAnswer (Err e) (Err f) = named e ≡ named f

-- And the same output.
abbrev pub OneOutcome : (List ℕ → List ℕ → Result ℕ Fault → Type 0) → Type 0
OneOutcome Leaves = (old new other : List ℕ) (r q : Result ℕ Fault) → Leaves old new r → Leaves old other q → SameAnswer r q × (new ≡ other)

pub record EachCallHasOneAnswer : Type 0 where
  pub appends : (count : ℕ) (more : List ℕ) → OneOutcome (λ old new r. Appended old count more new r)
  pub counts : (text : List ℕ) (r q : Result ℕ Fault) → Counts text r → Counts text q → SameAnswer r q
  pub picks : (text : List ℕ) (n : ℕ) (r q : Result (Option ℕ) Fault) → Picks text n r → Picks text n q → SameAnswer r q
  pub joins : (left right : List ℕ) → OneOutcome (λ old new r. Joins left right old new r)
  pub escapes : (text : List ℕ) → OneOutcome (λ old new r. Escapes text old new r)
  pub cooks : (raw : List ℕ) → OneOutcome (λ old new r. CooksInto raw old new r)
