-- What one walk over a text finds.
use Rattle.std.specs.Prelude.{◌≡◌, ℕ, true, false, List, [], ◌∷◌, ◌++◌, length, Some, None, Ok, Err, Option, Result}
use Rattle.std.proofs.Math.Utf8.{encodes}
use Rattle.std.specs.List.{slice_get}
use Rattle.base.specs.declared.fault.Fault.{Fault}
use Rattle.base.specs.Questions.{Refuses}
use Rattle.text.specs.Utf16.{leading, units}
use Rattle.text.specs.Points.{Canonical, ends}
use Rattle.text.specs.Stored.{Lawful}
use Rattle.text.specs.declared.survey.Survey.{Survey}

-- The leading surrogate that the code points end with, if they do.
abbrev pub EndsWith : Option ℕ → List ℕ → Type 0
EndsWith None cs = ends false cs ≡ false
EndsWith (Some h) cs = (ds : List ℕ) × (cs ≡ ds ++ h ∷ []) × (leading h ≡ true)

-- The code points of a text, and what was found of them.
abbrev pub Found : List ℕ → ℕ → Survey → List ℕ → Type 0
Found text n s cs =
    Canonical false cs × (encodes cs ≡ text) × (s.units ≡ length (units cs)) × (s.picked ≡ slice_get (units cs) n) × EndsWith s.lead cs

abbrev pub Surveyed : List ℕ → ℕ → Result Survey Fault → Type 0
Surveyed text n (Ok s) = (cs : List ℕ) × Found text n s cs
Surveyed text n (Err e) = Refuses (((12, 0), Lawful text) ∷ []) e
