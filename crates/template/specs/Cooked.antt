-- Raw template text, well formed and cooked.
use Rattle.std.specs.Prelude.{◌≡◌, ℕ, List, []}
use Rattle.std.proofs.Math.Utf8.{encodes}
use Rattle.text.specs.Stored.{Stores}
use Rattle.template.specs.Grammar.{TemplateCharacter, sources, values, AllAllowed}

-- These bytes, in UTF-8, are the source of the template characters ts.
abbrev pub Spells : List ℕ → List TemplateCharacter → Type 0
Spells raw ts = AllAllowed ts [] × (encodes (sources ts) ≡ raw)

abbrev pub WellFormed : List ℕ → Type 0
WellFormed raw = (ts : List TemplateCharacter) × Spells raw ts

-- The raw text cooks to the text us: its template value. ECMA-262, "Static Semantics: TV".
abbrev pub Cooks : List ℕ → List ℕ → Type 0
Cooks raw us = (ts : List TemplateCharacter) × Spells raw ts × (values ts ≡ us)

-- The raw text is well formed, and cooks to the text with this stored form.
abbrev pub CooksTo : List ℕ → List ℕ → Type 0
CooksTo raw cooked = (us : List ℕ) × Cooks raw us × Stores cooked us
