-- UTF-8 by the number of bytes.
use Rattle.std.proofs.Common.{◌≡◌, ℕ, ◌+◌, ◌-◌, ◌*◌, ◌/◌, ◌%◌, ◌^◌, ◌<◌, ◌≤◌, max, ltb, [], ◌∷◌, length, get_or, sym, refl, ap, ◌∙◌, ⊎_elim, arith}
use lib.Count.{leading_unique}
use lib.Utf8.{encode}
use Rattle.std.proofs.lemmas.Bool.{cond-true, cond-false, cases_lt, lt-ltb, le-ltb}
use Rattle.text.specs.Character.{lead_length}

pub encode_1 : (c : ℕ) → c < 0x80 → encode c ≡ c ∷ []
unfolding encode
encode_1 c h = cond-true (ltb c 0x80) _ _ (lt-ltb c 0x80 h)

pub encode_2 : (c : ℕ) → 0x80 ≤ c → c < 0x800 → encode c ≡ (0xC0 + c / 0x40) ∷ (0x80 + c % 0x40) ∷ []
unfolding encode
encode_2 c l h = cond-false (ltb c 0x80) _ _ (le-ltb c 0x80 l) ∙ cond-true (ltb c 0x800) _ _ (lt-ltb c 0x800 h)

pub encode_3 : (c : ℕ) → 0x800 ≤ c → c < 0x10000 → encode c ≡ (0xE0 + c / 0x1000) ∷ (0x80 + c / 0x40 % 0x40) ∷ (0x80 + c % 0x40) ∷ []
unfolding encode
encode_3 c l h =
    cond-false (ltb c 0x80) _ _ (le-ltb c 0x80 (omega arith))
    ∙ cond-false (ltb c 0x800) _ _ (le-ltb c 0x800 l)
    ∙ cond-true (ltb c 0x10000) _ _ (lt-ltb c 0x10000 h)

pub encode_4 : (c : ℕ) → 0x10000 ≤ c → encode c ≡ (0xF0 + c / 0x40000) ∷ (0x80 + c / 0x1000 % 0x40) ∷ (0x80 + c / 0x40 % 0x40) ∷ (0x80 + c % 0x40) ∷ []
unfolding encode
encode_4 c l =
    cond-false (ltb c 0x80) _ _ (le-ltb c 0x80 (omega arith))
    ∙ cond-false (ltb c 0x800) _ _ (le-ltb c 0x800 (omega arith))
    ∙ cond-false (ltb c 0x10000) _ _ (le-ltb c 0x10000 l)

-- A code point by its width: the first byte of each width has a range of its own.
pub data Width (c : ℕ) : Type 0 where
  w1 : c < 0x80 → encode c ≡ c ∷ [] → Width c
  w2 : 0x80 ≤ c → c < 0x800 → encode c ≡ (0xC0 + c / 0x40) ∷ (0x80 + c % 0x40) ∷ [] → Width c
  w3 : 0x800 ≤ c → c < 0x10000 → encode c ≡ (0xE0 + c / 0x1000) ∷ (0x80 + c / 0x40 % 0x40) ∷ (0x80 + c % 0x40) ∷ [] → Width c
  w4 : 0x10000 ≤ c → encode c ≡ (0xF0 + c / 0x40000) ∷ (0x80 + c / 0x1000 % 0x40) ∷ (0x80 + c / 0x40 % 0x40) ∷ (0x80 + c % 0x40) ∷ [] → Width c

pub width_of : (c : ℕ) → Width c
width_of c =
    ⊎_elim
    (λ a. w1 a (encode_1 c a))
    (λ a. ⊎_elim
    (λ b. w2 a b (encode_2 c a b))
    (λ b. ⊎_elim (λ d. w3 b d (encode_3 c b d)) (λ d. w4 d (encode_4 c d)) (cases_lt c 0x10000))
    (cases_lt c 0x800))
    (cases_lt c 0x80)

-- ---- the leading one bits of a byte

lead_ones : (b n m : ℕ) → n + m ≡ 8 → 0xFF - b < 2 ^ m → 2 ^ m ≤ 2 * (0xFF - b) + 1 → lead_length b ≡ max 1 n
lead_ones b n m e low high = ap (max 1) (sym (leading_unique 8 (0xFF - b) n m e low high))

pub lead_1 : (b : ℕ) → b < 0x80 → lead_length b ≡ 1
lead_1 b h = lead_ones b 0 8 refl (omega arith) (omega arith)

pub lead_2 : (b : ℕ) → 0xC0 ≤ b → b < 0xE0 → lead_length b ≡ 2
lead_2 b l h = lead_ones b 2 6 refl (omega arith) (omega arith)

pub lead_3 : (b : ℕ) → 0xE0 ≤ b → b < 0xF0 → lead_length b ≡ 3
lead_3 b l h = lead_ones b 3 5 refl (omega arith) (omega arith)

pub lead_4 : (b : ℕ) → 0xF0 ≤ b → b < 0xF8 → lead_length b ≡ 4
lead_4 b l h = lead_ones b 4 4 refl (omega arith) (omega arith)

-- The leading one bits of a character's first byte count its bytes.
pub lead_counts : (c : ℕ) → c < 0x110000 → lead_length (get_or (encode c) 0 0) ≡ length (encode c)
lead_counts c h = go (width_of c)
  where
    go : Width c → lead_length (get_or (encode c) 0 0) ≡ length (encode c)
    go (w1 a e) = ap (λ l. lead_length (get_or l 0 0)) e ∙ lead_1 c a ∙ sym (ap length e)
    go (w2 a b e) = ap (λ l. lead_length (get_or l 0 0)) e ∙ lead_2 (0xC0 + c / 0x40) (omega arith) (omega arith) ∙ sym (ap length e)
    go (w3 a b e) = ap (λ l. lead_length (get_or l 0 0)) e ∙ lead_3 (0xE0 + c / 0x1000) (omega arith) (omega arith) ∙ sym (ap length e)
    go (w4 a e) = ap (λ l. lead_length (get_or l 0 0)) e ∙ lead_4 (0xF0 + c / 0x40000) (omega arith) (omega arith) ∙ sym (ap length e)
