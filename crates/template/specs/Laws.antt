-- What holds of escaping and cooking, whatever the text.
use Rattle.std.specs.Prelude.{◌≡◌, ℕ, ◌*◌, ◌≤◌, List, [], ◌∷◌, ◌++◌, length}
use Rattle.std.proofs.Math.Utf8.{encodes}
use Rattle.text.specs.Stored.{stored}
use Rattle.text.specs.Utf16.{Text}
use Rattle.template.specs.Grammar.{TemplateCharacter, sources, values, AllAllowed}
use Rattle.template.specs.Cooked.{Cooks}
use Rattle.template.specs.Escaped.{raw_of}

-- Escaped text is well formed, and cooks back to the text.
abbrev pub EscapedTextCooksBack : Type 0
EscapedTextCooksBack = (us : List ℕ) → Text us → Cooks (raw_of us) us

-- The raw text of a$ is a\$, and that of CR is \r.
abbrev pub EscapeExamples : Type 0
EscapeExamples = (raw_of (0x61 ∷ 0x24 ∷ []) ≡ 0x61 ∷ 0x5C ∷ 0x24 ∷ []) × (raw_of (0x0D ∷ []) ≡ 0x5C ∷ 0x72 ∷ [])

-- A raw text cooks to at most one text.
abbrev pub CookingIsOne : Type 0
CookingIsOne = (raw us vs : List ℕ) → Cooks raw us → Cooks raw vs → us ≡ vs

-- Raw text whose front reads as the template characters ts, before the rest, cooks to the value of ts and then what
-- the rest cooks to.
abbrev pub WholeCooksAsItsParts : Type 0
WholeCooksAsItsParts =
    (front rest : List ℕ) (ts : List TemplateCharacter) (us : List ℕ) → encodes (sources ts) ≡ front
    → AllAllowed ts rest → Cooks rest us → Cooks (front ++ rest) (values ts ++ us)

-- No raw text cooks to more than twice as many bytes.
abbrev pub CookedAtMostTwice : Type 0
CookedAtMostTwice = (raw us : List ℕ) → Cooks raw us → length (stored us) ≤ 2 * length raw
