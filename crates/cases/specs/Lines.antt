-- What a line of the whole protocol is answered with.
use Rattle.std.specs.Prelude.{◌≡◌, ℕ, ◌⊎◌, List, Ok}
use Rattle.store.specs.declared.stores.Counts.{Counts}
use Rattle.script.specs.Lines.{line_of}
use Rattle.script.specs.Replies.{Replies}
use Rattle.script.specs.declared.answer.Answer.{Answer}
use Rattle.deciding.specs.declared.place.Support.{Support}
use Rattle.cases.specs.declared.call.CaseCall.{CaseCall}
use Rattle.cases.specs.Cases.{AsksCase, RunOf}

-- The line of its reply; or it asks for a case, and this comes of it.
abbrev pub AnswersLine : List ℕ → List ℕ → Type 0
AnswersLine line text =
    ((a : Answer) × Replies line (Ok a) × (text ≡ line_of a))
    ⊎ ((file : List ℕ) × (rooms : Counts) × (support : Support) × (calls : List CaseCall) × AsksCase line file rooms support × RunOf file rooms support calls text)
