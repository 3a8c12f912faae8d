-- Cases: what a line asks for, and what comes of it.
use Rattle.std.specs.Prelude.{◌≡◌, ◌==◌, ℕ, ◌⊎◌, Bool, cond, List, [], ◌∷◌, ◌++◌, length, codes}
use Rattle.std.specs.List.{slice_split}
use Rattle.std.specs.Str.Parse.{IsNumeral, digits_value}
use Rattle.base.specs.Questions.{Refuses}
use Rattle.base.specs.declared.fault.Fault.{Fault}
use Rattle.tree.specs.Heap.{Held}
use Rattle.tree.specs.Tree.{Tree, label}
use Rattle.store.specs.declared.stores.Counts.{Counts}
use Rattle.file.specs.Layout.{root}
use Rattle.file.specs.Lawful.{LawfulFile, Fits, load_questions}
use Rattle.file.specs.Payoff.{DenotesPayoff}
use Rattle.deciding.specs.declared.place.Support.{Support}
use Rattle.deciding.specs.Plans.{settings_of}
use Rattle.model.specs.Model.{Model, Opened}
use Rattle.script.specs.Hex.{hexed}
use Rattle.script.specs.Lines.{line_of}
use Rattle.script.specs.Words.{words}
use Rattle.script.specs.declared.answer.Answer.TheVariants.{Refused}
use Rattle.cases.specs.declared.call.CaseCall.{CaseCall}
use Rattle.cases.specs.Items.{MakesItems, end_of}
use Rattle.cases.specs.Rooms.{within_limits}

abbrev pub Says : List ℕ → ℕ → Type 0
Says digits n = IsNumeral 10 digits × (digits_value 10 digits ≡ n)

-- The word has three numerals with commas between them, which are the rooms.
abbrev pub RoomsSaid : Counts → List ℕ → Type 0
RoomsSaid rooms word =
    (nodes : List ℕ) × (entries : List ℕ) × (text : List ℕ)
    × (slice_split (λ b. b == 0x2c) word ≡ nodes ∷ entries ∷ text ∷ [])
    × Says nodes rooms.nodes × Says entries rooms.entries × Says text rooms.text

-- The word is a switch: 0 is off, and 1 is on.
abbrev pub SwitchSaid : Bool → List ℕ → Type 0
SwitchSaid on word = word ≡ cond on (codes "1") (codes "0")

-- The line asks for a case of this file, with these rooms, for an engine that supports this.
abbrev pub AsksCase : List ℕ → List ℕ → Counts → Support → Type 0
AsksCase line file rooms support =
    (room : List ℕ) × (templates : List ℕ) × (power : List ℕ) × (others : List (List ℕ))
    × (words line ≡ codes "case" ∷ hexed file ∷ room ∷ templates ∷ power ∷ others)
    × RoomsSaid rooms room × SwitchSaid support.templates templates × SwitchSaid support.power power

-- The file is lawful and fits. A session is opened on its tree, the calls are made, and the text tells what came of each, and
-- how the session ended.
pub record Answered (file : List ℕ) (rooms : Counts) (support : Support) (calls : List CaseCall) (text : List ℕ) : Type 0 where
  pub contents : Held
  pub lawful : LawfulFile file contents
  pub fits : Fits file rooms
  pub tree : Tree
  pub denotes : DenotesPayoff contents (root file) tree
  pub start : Model
  pub opened : Opened tree start
  pub end : Model
  pub items : List ℕ
  pub made : MakesItems (record { supported = settings_of support; rooms = rooms }) (length contents.nodes) start calls items end
  pub told : text ≡ codes "loaded" ++ (items ++ (codes "; " ++ end_of (label end.whole) end.rewrites end.held))

-- What comes of a case: the line of the refusal, or what its calls make of a lawful file that fits.
abbrev pub RunOf : List ℕ → Counts → Support → List CaseCall → List ℕ → Type 0
RunOf file rooms support calls text =
    ((fault : Fault) × Refuses (load_questions file (within_limits rooms)) fault × (text ≡ line_of (Refused fault)))
    ⊎ Answered file (within_limits rooms) support calls text
