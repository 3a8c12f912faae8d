-- Cooking a raw text part by part.
use Rattle.std.specs.Prelude.{◌≡◌, ℕ, true, false, ◌&&◌, List, [], ◌∷◌, ◌++◌, Some, None, Option}
use Rattle.text.specs.Stored.{stored}
use Rattle.text.specs.Utf16.{leading, trailing, paired}
use Rattle.template.specs.Cooked.{Spells}
use Rattle.template.specs.Grammar.{TemplateCharacter, values}
use Rattle.template.specs.Raw.{part_bytes, Holds}
use Rattle.template.specs.Sinks.{Adds}
use Rattle.template.specs.declared.raw.RawPart.{RawPart}

-- The withheld surrogate as units.
abbrev pub withheld : Option ℕ → List ℕ
withheld None = []
withheld (Some h) = h ∷ []

-- The code point c is a trailing surrogate, and x the one that it makes with the leading one before it.
abbrev pub Completes : Option ℕ → ℕ → ℕ → Type 0
Completes lead c x = (h : ℕ) × (lead ≡ Some h) × (leading h ≡ true) × (trailing c ≡ true) × (x ≡ paired h c)

-- The code point c makes none with what is withheld.
abbrev pub Apart : Option ℕ → ℕ → Type 0
Apart None c = Unit {0}
Apart (Some h) c = (leading h && trailing c) ≡ false

-- Behind what is withheld the units us are the bytes `front`, and then `next` is withheld, whatever follows.
abbrev pub Becomes : (lead : Option ℕ) (us front : List ℕ) (next : Option ℕ) → Type 0
Becomes lead us front next = (vs : List ℕ) → stored (withheld lead ++ (us ++ vs)) ≡ front ++ stored (withheld next ++ vs)

-- The units us are handed on: taken as far as their bytes are certain.
abbrev pub Hands : {S : Type 0} (Took : S → List ℕ → S → Type 0) (old : S) (lead : Option ℕ) (us : List ℕ) (new : S) (next : Option ℕ) → Type 0
Hands Took old lead us new next = (front : List ℕ) × Adds Took old front new × Becomes lead us front next

-- A part as the reader gives it.
abbrev pub Stands : RawPart → Type 0
Stands part = (rest : List ℕ) × (ts : List TemplateCharacter) × Holds part rest ts × Spells (part_bytes part) ts

-- The template value of the part is handed on.
abbrev pub HandsPart : {S : Type 0} (Took : S → List ℕ → S → Type 0) (old : S) (lead : Option ℕ) (part : RawPart) (new : S) (next : Option ℕ) → Type 0
HandsPart Took old lead part new next =
    (rest : List ℕ) (ts : List TemplateCharacter) → Holds part rest ts → Spells (part_bytes part) ts → Hands Took old lead (values ts) new next
