-- The digits of \u{...}.
use Rattle.std.proofs.Common.{◌≡◌, ℕ, suc, ◌+◌, ◌<◌, ◌&&◌, eqb, ltb, leb, ◌⊎◌, List, [], ◌∷◌, ◌++◌, length, get_or, take, drop, None, sym, refl, ap, ◌∙◌, inl, inr, arith, lit<}
use lib.Utf8.{encode}
use Rattle.std.proofs.lemmas.Bool.{cond-false, cond_both, ne_eqb, and_left, and_right, le-ltb, lt-leb}
use Rattle.std.proofs.lemmas.List.{append_assoc, get_or-take, take-append-drop, drop_more, length-take-le}
use Rattle.template.specs.Grammar.{code_point, HexDigits, is_hex, mv}
use Rattle.template.specs.Fronts.{Frontless, StandsFor, capped}
use Rattle.template.proofs.First.{digits_of, digits_found, push, braced}
use Rattle.template.proofs.Hex.{hex_front}
use Rattle.template.proofs.Backslashes.{no_escape_at}

-- No byte is a closing brace.
abbrev pub Open : List ℕ → Type 0
Open bytes = (k : ℕ) → k < length bytes → get_or bytes k 0 ≡ 0x7D → ⊥

-- Without a closing brace there are no digits up to one.
open_lost : (after : List ℕ) → Open after → digits_of after ≡ None
open_lost [] h = refl
open_lost (b ∷ after) h =
    cond_both (is_hex b) _ _ (λ o. o ≡ None) (λ _. ap (push b) (open_lost after (λ k l e. h (suc k) (omega arith) e)))
    (λ _. cond-false (eqb b 0x7D) _ None (ne_eqb b 0x7D (h 0 (omega arith))))

-- Nor where something else stands before the first one.
digits_lost : (bs tail : List ℕ) → Open bs → (HexDigits bs → ⊥) → digits_of (bs ++ 0x7D ∷ tail) ≡ None
digits_lost [] tail h bad = absurd (bad tt)
digits_lost (b ∷ bs) tail h bad =
    cond_both (is_hex b) _ _ (λ o. o ≡ None) (λ k. ap (push b) (digits_lost bs tail (λ i l e. h (suc i) (omega arith) e) (λ ds. bad (k, ds))))
    (λ _. cond-false (eqb b 0x7D) _ None (ne_eqb b 0x7D (h 0 (omega arith))))

-- What follows \u{ has no digits up to a brace.
no_digits : (after : List ℕ) → braced (digits_of after) ≡ None → Frontless (0x5C ∷ 0x75 ∷ 0x7B ∷ after)
no_digits after none = no_escape_at 0x75 (0x7B ∷ after) (lit< tt) none

pub unclosed : (after : List ℕ) → Open after → Frontless (0x5C ∷ 0x75 ∷ 0x7B ∷ after)
unclosed after h = no_digits after (ap braced (open_lost after h))

pub no_number : (after bs tail : List ℕ) → after ≡ bs ++ 0x7D ∷ tail → Open bs → (HexDigits bs → ⊥) → Frontless (0x5C ∷ 0x75 ∷ 0x7B ∷ after)
no_number after bs tail split h bad = no_digits after (ap (λ xs. braced (digits_of xs)) split ∙ ap braced (digits_lost bs tail h bad))

-- There are none, or their number is too large.
pub no_code_point : (after bs tail : List ℕ) → after ≡ bs ++ 0x7D ∷ tail → HexDigits bs → (length bs ≡ 0) ⊎ (0x10FFFF < mv bs) → Frontless (0x5C ∷ 0x75 ∷ 0x7B ∷ after)
no_code_point after bs tail split h bad =
    no_digits after
    (ap (λ xs. braced (digits_of xs)) split
    ∙ ap braced (digits_found bs tail h)
    ∙ cond-false (ltb 0 (length bs) && leb (mv bs) 0x10FFFF) _ None
    (elim bad [
      | inl k ↦ and_left (ltb 0 (length bs)) (leb (mv bs) 0x10FFFF) (le-ltb 0 (length bs) (omega arith))
      | inr k ↦ and_right (ltb 0 (length bs)) (leb (mv bs) 0x10FFFF) (lt-leb (mv bs) 0x10FFFF k)
    ]))

pub braced_found : (after bs tail : List ℕ) (code : ℕ) → after ≡ bs ++ 0x7D ∷ tail → HexDigits bs → 0 < length bs → code ≡ capped bs → code < 0x110000 → StandsFor (0x5C ∷ 0x75 ∷ 0x7B ∷ after) code tail
unfolding encode
braced_found after bs tail code split h l v k = (
  code_point bs,
  omega arith,
  (
    ap (λ xs. 0x5C ∷ 0x75 ∷ 0x7B ∷ xs)
        (split ∙ sym (append_assoc bs (0x7D ∷ []) tail) ∙ ap (λ xs. xs ++ tail) (sym (hex_front bs (0x7D ∷ []) h))),
    (h, l, omega arith),
    (h, l, omega arith),
  ),
)

-- The first closing brace splits the bytes.
pub brace_split : (after : List ℕ) (i : ℕ) → i < length after → get_or after i 0 ≡ 0x7D → after ≡ take i after ++ 0x7D ∷ drop (i + 1) after
brace_split after i l h =
    sym (take-append-drop i after) ∙ ap (λ xs. take i after ++ xs) (drop_more after i 0 l ∙ ap (λ b. b ∷ drop (i + 1) after) h)

pub open_before : (after : List ℕ) (i : ℕ) → i < length after → ((k : ℕ) → k < i → get_or after k 0 ≡ 0x7D → ⊥) → Open (take i after)
open_before after i l h k m e =
    let below : k < i = omega (arith, length-take-le i after) in
    h k below (sym (get_or-take i after k 0 below) ∙ e)
