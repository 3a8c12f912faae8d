-- One step through a stored text.
use Rattle.std.proofs.Common.{◌≡◌, ℕ, ◌<◌, Bool, true, ◌&&◌, List, [], ◌∷◌, ◌++◌, length, sym, ap, ◌∙◌, inl, inr, arith}
use lib.Utf8.{encode, encodes}
use Rattle.std.proofs.lemmas.Bool.{and_from, both_ways}
use Rattle.std.proofs.lemmas.Str.{encode_same}
use Rattle.text.specs.Utf16.{trailing}
use Rattle.text.specs.Points.{Canonical}
use Rattle.text.specs.Character.{Lacks}
use Rattle.text.specs.Reader.{Readable}

-- Bytes that begin with no character cannot be read on.
pub stops : (led : Bool) (bytes : List ℕ) → Lacks bytes 0x110000 → 0 < length bytes → Readable led bytes → ⊥
stops led bytes bad some (inl e) = omega (arith, ap length e)
stops led bytes bad some (inr r) = bad r.0 r.1 (omega (arith, r.2)) r.4

-- Nor can those that begin with a trailing surrogate behind a leading one.
pub clashes : (led : Bool) (bytes rest : List ℕ) (x : ℕ) → bytes ≡ encode x ++ rest → 0 < length bytes → led ≡ true → trailing x ≡ true → Readable led bytes → ⊥
clashes led bytes rest x b some l t (inl e) = omega (arith, ap length e)
clashes led bytes rest x b some l t (inr r) =
    let same = encode_same r.0 x r.1 rest (sym r.4 ∙ b) in
    both_ways (led && trailing r.0) r.3 (and_from led (trailing r.0) l (ap trailing same.0 ∙ t))

-- Bytes that go on as a text can be read on.
pub goes_on : (led : Bool) (bytes cs : List ℕ) → Canonical led cs → encodes cs ≡ bytes → Readable led bytes
goes_on led bytes [] k e = inl (sym e)
goes_on led bytes (c ∷ cs) k e = inr (c, encodes cs, k.0, k.1, sym e)
