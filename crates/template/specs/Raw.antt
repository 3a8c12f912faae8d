-- Reading raw template text part by part: plain runs, escapes and line continuations.
use Rattle.std.specs.Prelude.{◌≡◌, ℕ, ◌<◌, true, ◌⊎◌, List, [], ◌∷◌, ◌++◌, length, Some, None, Ok, Err, Option, Result, nat_eq}
use Rattle.base.specs.declared.fault.Fault.{Fault}
use Rattle.base.specs.Questions.{Refuses}
use Rattle.template.specs.Grammar.{LineEnd, Escape, TemplateCharacter, dollar, escape, continuation, line_end, other, escape_code, AllAllowed, starts}
use Rattle.template.specs.Cooked.{Spells, WellFormed}
use Rattle.template.specs.declared.raw.RawPart.{RawPart}
use Rattle.template.specs.declared.raw.RawPart.TheVariants.{Plain, Escaped, Continuation}
use Rattle.template.specs.declared.raw.RawReader.{RawReader}

-- What is left to read.
abbrev pub left_of : RawReader → List ℕ
left_of s = s.rest.now

abbrev pub part_bytes : RawPart → List ℕ
part_bytes (Plain bytes) = bytes.now
part_bytes (Escaped bytes code) = bytes.now
part_bytes (Continuation bytes) = bytes.now

-- Template characters without a backslash.
abbrev pub Unescaped : List TemplateCharacter → Type 0
Unescaped [] = Unit {0}
Unescaped (dollar ∷ ts) = Unescaped ts
Unescaped (escape e ∷ ts) = ⊥
Unescaped (continuation l ∷ ts) = ⊥
Unescaped (line_end l ∷ ts) = Unescaped ts
Unescaped (other c ∷ ts) = Unescaped ts

-- The template characters of a part that stands before the bytes `rest`: a plain run is as long as can be, an escape
-- is one with the code point that it stands for, and a line continuation is one.
abbrev pub Holds : RawPart → List ℕ → List TemplateCharacter → Type 0
Holds (Plain bytes) rest ts = Unescaped ts × (0 < length ts) × ((rest ≡ []) ⊎ (starts (λ b. nat_eq b 0x5C) rest ≡ true))
Holds (Escaped bytes code) rest ts = (e : Escape) × (ts ≡ escape e ∷ []) × (escape_code e ≡ code)
Holds (Continuation bytes) rest ts = (l : LineEnd) × (ts ≡ continuation l ∷ [])

-- The part stands in front of the bytes that are left. It is well formed on its own and before them: every lookahead
-- asks for an ASCII character, and bytes in UTF-8 begin with one exactly where the text does.
abbrev pub Reads : RawPart → List ℕ → List ℕ → Type 0
Reads part left rest =
    (ts : List TemplateCharacter) × Holds part rest ts × Spells (part_bytes part) ts × (left ≡ part_bytes part ++ rest)
    × AllAllowed ts rest

-- No part can be read at the front of the bytes.
abbrev pub Partless : List ℕ → Type 0
Partless raw = (part : RawPart) (rest : List ℕ) → Reads part raw rest → ⊥

-- One step: the next part, the end, or a refusal where no part can be read and so what is left is malformed.
abbrev pub NextPart : RawReader → RawReader → Result (Option RawPart) Fault → Type 0
NextPart s t (Ok (Some part)) = Reads part (left_of s) (left_of t)
NextPart s t (Ok None) = (left_of s ≡ []) × (left_of t ≡ [])
NextPart s t (Err e) = Refuses (((12, 0), WellFormed (left_of s)) ∷ []) e × Partless (left_of s) × (left_of t ≡ left_of s)
