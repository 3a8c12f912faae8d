-- Reading a line and a word of the protocol. A word stands for bytes if it is what they are written as.
use Rattle.std.specs.Prelude.{◌≡◌, ◌==◌, ℕ, List, [], ◌∷◌, length, Some, None, Ok, Err, vec_items, Option, Result, Vec, ◌≢◌, map, IsUtf8}
use Rattle.std.specs.List.{slice_split}
use Rattle.std.specs.Borrow.{Bor}
use Rattle.std.specs.declared.alloc.Global.{Global}
use Rattle.script.specs.declared.flaw.Flaw.{Flaw}
use Rattle.script.specs.declared.flaw.Flaw.TheVariants.{Malformed, Memory}
use Rattle.script.specs.Hex.{Byte, hexed}

-- The words of a line: the parts between its spaces.
abbrev pub words : List ℕ → List (List ℕ)
words line = slice_split (λ b. b == 0x20) line

-- What is read are the words of the line; what is called malformed is no UTF-8. Nothing is said where memory is short.
abbrev pub WordsRead : List ℕ → Result (Vec (Bor (List ℕ)) Global) Flaw → Type 0
WordsRead line (Ok v) = map (λ word. word.now) (vec_items v) ≡ words line
WordsRead line (Err Malformed) = ¬ (IsUtf8 line)
WordsRead line (Err Memory) = Unit {0}

-- The words are two or three; None where they are fewer or more.
abbrev pub TwoOrThree : List (List ℕ) → Option (Bor (List ℕ) × Bor (List ℕ) × Option (Bor (List ℕ))) → Type 0
TwoOrThree ws None = (length ws ≢ 2) × (length ws ≢ 3)
TwoOrThree ws (Some (first, second, None)) = ws ≡ first.now ∷ second.now ∷ []
TwoOrThree ws (Some (first, second, Some third)) = ws ≡ first.now ∷ second.now ∷ third.now ∷ []

abbrev pub Bytes : List ℕ → Type 0
Bytes [] = Unit {0}
Bytes (b ∷ bs) = Byte b × Bytes bs

-- What is read is written so; what is called malformed is what no bytes are written as.
abbrev pub BytesRead : List ℕ → Result (Vec ℕ Global) Flaw → Type 0
BytesRead word (Ok v) = hexed (vec_items v) ≡ word
BytesRead word (Err Malformed) = (bs : List ℕ) → Bytes bs → hexed bs ≢ word
BytesRead word (Err Memory) = Unit {0}
