-- The stored form of a text: its code points in UTF-8, a lone surrogate in three bytes.
use Rattle.std.specs.Prelude.{◌≡◌, ℕ, List}
use Rattle.std.proofs.Math.Utf8.{encodes}
use Rattle.text.specs.Utf16.{Text, points}

abbrev pub stored : List ℕ → List ℕ
stored us = encodes (points us)

-- These bytes are the stored form of the text us.
abbrev pub Stores : List ℕ → List ℕ → Type 0
Stores bytes us = Text us × (stored us ≡ bytes)

-- These bytes are the stored form of some text.
abbrev pub Lawful : List ℕ → Type 0
Lawful bytes = (us : List ℕ) × Stores bytes us
