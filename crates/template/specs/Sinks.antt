-- What takes a text piece by piece.
use Rattle.std.specs.Prelude.{ℕ, List, [], ◌∷◌, ◌++◌, Ok, Err, Result}
use Rattle.base.specs.declared.fault.Fault.{Fault}
use Rattle.base.specs.Questions.{Refuses}

-- Whatever was taken since some start, the piece is taken behind it.
abbrev pub Adds : {S : Type 0} (Took : S → List ℕ → S → Type 0) (old : S) (piece : List ℕ) (new : S) → Type 0
Adds {S} Took old piece new = (start : S) (bytes : List ℕ) → Took start bytes old → Took start (bytes ++ piece) new

-- One walk over an input that Means the text us hands `form us` on, or only some front of it where the input means no
-- text.
abbrev pub Walks : {S : Type 0} (Means : List ℕ → Type 0) (form : List ℕ → List ℕ) (Took : S → List ℕ → S → Type 0) (old new : S) → Result (Unit {0}) Fault → Type 0
Walks Means form Took old new (Ok u) = (us : List ℕ) × Means us × Adds Took old (form us) new
Walks Means form Took old new (Err e) = Refuses (((12, 0), (us : List ℕ) × Means us) ∷ []) e × ((front : List ℕ) × Adds Took old front new)
