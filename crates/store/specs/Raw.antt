-- Raw template text behind the text that it is of.
use Rattle.std.specs.Prelude.{◌≡◌, ℕ, ◌+◌, ◌≤◌, List, [], ◌∷◌, ◌++◌, length, take, drop, Ok, Err, Result}
use Rattle.base.specs.declared.fault.Fault.{Fault}
use Rattle.base.specs.Questions.{Refuses}
use Rattle.text.specs.Stored.{Stores, Lawful}
use Rattle.template.specs.Escaped.{raw_of}

-- Behind the first `len` bytes stands the raw text of those from `start` on; or nothing is written, where these are
-- none or no text, or for want of room. (No origin: a notion of ours.)
abbrev pub AppendsRawTo : (old : List ℕ) (start len : ℕ) (new : List ℕ) → Result ℕ Fault → Type 0
AppendsRawTo old start len new (Ok n) =
    (us : List ℕ) × Stores (drop start (take len old)) us × (n ≡ len + length (raw_of us)) × (start ≤ len) × (n ≤ length old)
    × (new ≡ take len old ++ raw_of us ++ drop n old)
AppendsRawTo old start len new (Err e) =
    (new ≡ old)
    × Refuses (((13, 0), start ≤ len)
    ∷ ((12, 0), Lawful (drop start (take len old)))
    ∷ ((13, 0), (us : List ℕ) → Stores (drop start (take len old)) us → len + length (raw_of us) ≤ length old)
    ∷ []) e
