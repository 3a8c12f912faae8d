-- How long a text is in stored form and as raw text, and how it begins and ends.
use Rattle.std.specs.Prelude.{◌≡◌, ℕ, ◌+◌, ◌^◌, ◌<◌, Bool, false, List, [], ◌∷◌, ◌++◌, length, Ok, Err, Result, MatchBool, ◌≢◌}
use Rattle.base.specs.declared.fault.Fault.{Fault}
use Rattle.base.specs.Questions.{Refuses}
use Rattle.text.specs.Laws.{begins_trailing}
use Rattle.text.specs.Points.{ends}
use Rattle.text.specs.Stored.{stored, Stores, Lawful}
use Rattle.template.specs.Escaped.{raw_of}
use Rattle.template.specs.declared.extent.Extent.{Extent}

-- The extent is that of the text us. (No origin: a notion of ours.)
pub record Measures (e : Extent) (us : List ℕ) : Type 0 where
  pub stored_length : e.stored ≡ length (stored us)
  pub raw_length : e.raw ≡ length (raw_of us)
  pub how_it_begins : e.begins_trailing ≡ begins_trailing us
  pub how_it_ends : e.ends_leading ≡ ends false us

-- The extent of the text that the bytes store. (No origin: a notion of ours.)
abbrev pub MeasuresText : List ℕ → Result Extent Fault → Type 0
MeasuresText text (Ok e) = (us : List ℕ) × Stores text us × Measures e us
MeasuresText text (Err e) = Refuses (((12, 0), Lawful text) ∷ []) e

-- The extent of any two texts that are measured, the second one behind the first: as far as there is a number for both
-- raw lengths together. (No origin: a notion of ours.)
abbrev pub MeasuresBoth : (first next both : Extent) → Type 0
MeasuresBoth first next both =
    (us vs : List ℕ) → Measures first us → Measures next vs → length (raw_of us) + length (raw_of vs) < 2 ^ 64 → Measures both (us ++ vs)

-- Whether the raw text of any text that is measured is another than its stored form. (No origin: a notion of ours.)
abbrev pub TellsEscaped : Extent → Bool → Type 0
TellsEscaped e escaped = (us : List ℕ) → Measures e us → MatchBool escaped (raw_of us ≢ stored us) (raw_of us ≡ stored us)
