-- Lookahead in code points and in bytes.
use Rattle.std.proofs.Common.{◌≡◌, ℕ, ◌<◌, Bool, true, eqb, List, [], ◌∷◌, ◌++◌, length, sym, refl, ap, ◌∙◌, inl, inr, arith, length-append}
use lib.Utf8.{encode, encodes}
use Rattle.std.proofs.lemmas.Bool.{cases_Bool, eqb-true}
use Rattle.std.proofs.lemmas.List.{append_assoc}
use Rattle.std.proofs.lemmas.Str.{byte_from_char, char_from_byte, length-encode, len_utf8_bounds}
use Rattle.template.specs.Grammar.{TemplateCharacter, dollar, escape, continuation, line_end, other, Escape, single, non_escape, null, hex, hex4, code_point, LineEnd, lf, cr, ls, ps, crlf, sources, Allowed, AllAllowed, escape_allowed, line_allowed, is_decimal, starts}
use Rattle.template.proofs.Hex.{decimal_ascii}

-- A character takes a byte at least.
pub encode_some : (c : ℕ) (bytes : List ℕ) → 0 < length (encode c ++ bytes)
encode_some c bytes = omega (arith, length-append (encode c) bytes, length-encode c, len_utf8_bounds c)

-- A test that only ASCII passes says the same of the first character and of the first byte.
pub starts_front : (p : ℕ → Bool) → ((c : ℕ) → p c ≡ true → c < 128) → (c : ℕ) (bytes rest : List ℕ) → bytes ≡ encode c ++ rest → p c ≡ starts p bytes
starts_front p low c [] rest e = absurd (omega (arith, ap length e, encode_some c rest))
starts_front p low c (b ∷ bytes) rest e =
    elim (cases_Bool (p c)) [
      | inl h ↦ ap p (sym (byte_from_char (b ∷ bytes) rest c e (low c h)))
      | inr h ↦
          elim (cases_Bool (p b)) [
            | inl k ↦ ap p (char_from_byte (b ∷ bytes) rest c e (low b k) (omega arith))
            | inr k ↦ h ∙ sym k
          ]
    ]

-- Tests that only ASCII passes say the same of what two lists begin with.
abbrev pub Alike : List ℕ → List ℕ → Type 0
Alike xs ys = (p : ℕ → Bool) → ((c : ℕ) → p c ≡ true → c < 128) → starts p xs ≡ starts p ys

-- Characters begin like their bytes.
pub alike : (cs rest : List ℕ) → Alike (cs ++ rest) (encodes cs ++ rest)
alike [] rest p low = refl
alike (c ∷ cs) rest p low = starts_front p low c (encodes (c ∷ cs) ++ rest) (encodes cs ++ rest) (append_assoc (encode c) (encodes cs) rest)

-- What a production asks of what follows is such a test.
line_alike : (l : LineEnd) (xs ys : List ℕ) → Alike xs ys → line_allowed l xs → line_allowed l ys
line_alike lf xs ys s h = tt
line_alike cr xs ys s h = sym (s (λ c. eqb c 0x0A) (λ c k. omega (arith, eqb-true c 0x0A k))) ∙ h
line_alike ls xs ys s h = tt
line_alike ps xs ys s h = tt
line_alike crlf xs ys s h = tt

escape_alike : (e : Escape) (xs ys : List ℕ) → Alike xs ys → escape_allowed e xs → escape_allowed e ys
escape_alike (single c) xs ys s h = h
escape_alike (non_escape c) xs ys s h = h
escape_alike null xs ys s h = sym (s is_decimal decimal_ascii) ∙ h
escape_alike (hex a b) xs ys s h = h
escape_alike (hex4 a b c d) xs ys s h = h
escape_alike (code_point ds) xs ys s h = h

pub allowed_alike : (t : TemplateCharacter) (xs ys : List ℕ) → Alike xs ys → Allowed t xs → Allowed t ys
allowed_alike dollar xs ys s h = sym (s (λ c. eqb c 0x7B) (λ c k. omega (arith, eqb-true c 0x7B k))) ∙ h
allowed_alike (escape e) xs ys s h = escape_alike e xs ys s h
allowed_alike (continuation l) xs ys s h = line_alike l xs ys s h
allowed_alike (line_end l) xs ys s h = line_alike l xs ys s h
allowed_alike (other c) xs ys s h = h

all_allowed_alike : (ts : List TemplateCharacter) (xs ys : List ℕ) → Alike xs ys → AllAllowed ts xs → AllAllowed ts ys
all_allowed_alike [] xs ys s h = tt
all_allowed_alike (t ∷ ts) xs ys s h = (allowed_alike t (sources ts ++ xs) (sources ts ++ ys) (go (sources ts)) h.0, all_allowed_alike ts xs ys s h.1)
  where
    go : (cs : List ℕ) → Alike (cs ++ xs) (cs ++ ys)
    go [] = s
    go (c ∷ cs) = λ p low. refl

-- What is allowed before the bytes of characters is allowed before the characters.
pub allowed_bytes : (ts : List TemplateCharacter) (cs rest : List ℕ) → AllAllowed ts (encodes cs ++ rest) → AllAllowed ts (cs ++ rest)
allowed_bytes ts cs rest = all_allowed_alike ts (encodes cs ++ rest) (cs ++ rest) (λ p low. sym (alike cs rest p low))
