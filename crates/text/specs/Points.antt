-- The code points of a text, read one after the other.
use Rattle.std.specs.Prelude.{◌≡◌, ℕ, ◌≤◌, Bool, false, cond, ◌&&◌, List, [], ◌∷◌, Some, None, Option}
use Rattle.text.specs.Utf16.{leading, trailing}

-- These are code points as a text spells them: none is above 0x10FFFF, and no leading surrogate stands right before
-- a trailing one, since the two would spell one code point. The flag says that a leading surrogate stands in front.
abbrev pub Canonical : Bool → List ℕ → Type 0
Canonical led [] = Unit {0}
Canonical led (c ∷ cs) = (c ≤ 0x10FFFF) × ((led && trailing c) ≡ false) × Canonical (leading c) cs

-- Whether a leading surrogate stands last.
abbrev pub ends : Bool → List ℕ → Bool
ends led [] = led
ends led (c ∷ cs) = ends (leading c) cs

-- The leading surrogate that stands last, if one does. (No origin: a notion of ours.)
abbrev pub last_leading : List ℕ → Option ℕ
last_leading [] = None
last_leading (u ∷ []) = cond (leading u) (Some u) None
last_leading (u ∷ v ∷ us) = last_leading (v ∷ us)

-- The trailing surrogate that stands first, if one does. (No origin: a notion of ours.)
abbrev pub first_trailing : List ℕ → Option ℕ
first_trailing [] = None
first_trailing (u ∷ us) = cond (trailing u) (Some u) None
