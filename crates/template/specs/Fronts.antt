-- What stands at the front of raw template text.
use Rattle.std.specs.Prelude.{◌≡◌, ℕ, min, true, false, List, [], ◌++◌, length, drop, Some, None, Option, ◌==◌, ◌≢◌, nat_eq}
use Rattle.std.proofs.Math.Utf8.{scalar, encode, encodes}
use Rattle.template.specs.Grammar.{LineEnd, Escape, TemplateCharacter, escape, source, line_source, line_allowed, escape_code, Allowed, HexDigits, mv, starts}
use Rattle.template.specs.Cooked.{WellFormed}
use Rattle.template.specs.Raw.{part_bytes, Reads, Partless}
use Rattle.template.specs.declared.raw.RawPart.{RawPart}
use Rattle.template.specs.declared.raw.escapes.EscapeCode.{EscapeCode}

-- The bytes begin with no character, in UTF-8.
abbrev pub Unreadable : List ℕ → Type 0
Unreadable bytes = (c : ℕ) (rest : List ℕ) → scalar c ≡ true → bytes ≢ encode c ++ rest

-- No template character stands at the front of the bytes.
abbrev pub Frontless : List ℕ → Type 0
Frontless raw = (t : TemplateCharacter) (rest : List ℕ) → Allowed t rest → encodes (source t) ++ rest ≢ raw

-- The template character t stands at the front of the bytes: on its own, and before `rest`.
abbrev pub Fronts : List ℕ → TemplateCharacter → List ℕ → Type 0
Fronts raw t rest = (raw ≡ encodes (source t) ++ rest) × Allowed t [] × Allowed t rest

-- The number that hexadecimal digits write, where one above 0x10FFFF is 0x110000.
abbrev pub capped : List ℕ → ℕ
capped ds = min (mv ds) 0x110000

-- The bytes begin with n hexadecimal digits.
abbrev pub Digits : ℕ → List ℕ → Option EscapeCode → Type 0
Digits n bytes None = (ds rest : List ℕ) → length ds ≡ n → HexDigits ds → bytes ≢ ds ++ rest
Digits n bytes (Some r) = (ds : List ℕ) × (length ds ≡ n) × HexDigits ds × (bytes ≡ ds ++ r.rest.now) × (r.code ≡ capped ds)

-- An escape that stands for the code point stands at the front of the bytes, before `rest`.
abbrev pub StandsFor : List ℕ → ℕ → List ℕ → Type 0
StandsFor raw code rest = (e : Escape) × (escape_code e ≡ code) × Fronts raw (escape e) rest

-- The escape at the front of the bytes, which begin with a backslash.
abbrev pub EscapesTo : List ℕ → Option EscapeCode → Type 0
EscapesTo raw None = Frontless raw
EscapesTo raw (Some r) = StandsFor raw r.code r.rest.now

-- The character c before `rest` begins a line end, and `more` follows it.
abbrev pub EndsLine : ℕ → List ℕ → List ℕ → Type 0
EndsLine c rest more = (l : LineEnd) × (encode c ++ rest ≡ encodes (line_source l) ++ more) × line_allowed l [] × line_allowed l more

-- A character without a backslash stands at the front of the bytes, before `rest`: no ` and no $ before {.
abbrev pub PlainAt : List ℕ → List ℕ → Type 0
PlainAt bytes rest =
    (c : ℕ) × (scalar c ≡ true) × ((c == 0x60) ≡ false) × ((c == 0x5C) ≡ false)
    × ((c == 0x24) ≡ true → starts (λ b. nat_eq b 0x7B) rest ≡ false) × (bytes ≡ encode c ++ rest)

-- The part at the front of the bytes.
abbrev pub Parts : List ℕ → Option RawPart → Type 0
Parts raw None = (WellFormed raw → ⊥) × Partless raw
Parts raw (Some part) = Reads part raw (drop (length (part_bytes part)) raw)
