-- Line ends in raw text.
use Rattle.std.specs.Prelude.{◌≡◌, ℕ, Bool, true, false, cond, ◌&&◌, List, [], ◌∷◌, Some, None, Option, ◌==◌}

-- CR and CR LF become LF; every other character stays. The flag says that the character before was CR.
abbrev pub normal : Bool → List ℕ → List ℕ
normal after_cr [] = []
normal after_cr (c ∷ cs) =
    cond (c == 0x0D) (0x0A ∷ normal true cs)
    (cond (after_cr && c == 0x0A) (normal false cs) (c ∷ normal false cs))

-- What the character c stands for, whatever follows it.
abbrev pub LineByte : Bool → ℕ → Option ℕ → Type 0
LineByte after_cr c None = (cs : List ℕ) → normal after_cr (c ∷ cs) ≡ normal (c == 0x0D) cs
LineByte after_cr c (Some b) = (cs : List ℕ) → normal after_cr (c ∷ cs) ≡ b ∷ normal (c == 0x0D) cs
