-- The bytes at the front of a list, and the code point that they spell.
use Rattle.std.proofs.Common.{◌≡◌, ℕ, zero, suc, ◌<◌, ◌≤◌, List, [], ◌∷◌, ◌++◌, length, get_or, drop, Some, None, Option, sym, ap, ◌∙◌, subst, arith, length-append, MatchOption}
use lib.Utf8.{encode}
use Rattle.text.specs.Character.{lead_length, Begins, Lacks, One, Two, Three, Four}
use Rattle.text.proofs.Widths.{Width, w1, w2, w3, w4, width_of, encode_1, encode_2, encode_3, encode_4, lead_counts}

-- The code point x in the first n bytes.
abbrev pub Coded : ℕ → List ℕ → ℕ → Type 0
Coded zero bytes x = ⊥
Coded (suc zero) bytes x = One (get_or bytes 0 0) x
Coded (suc (suc zero)) bytes x = Two (get_or bytes 0 0) (get_or bytes 1 0) x
Coded (suc (suc (suc zero))) bytes x = Three (get_or bytes 0 0) (get_or bytes 1 0) (get_or bytes 2 0) x
Coded (suc (suc (suc (suc zero)))) bytes x = Four (get_or bytes 0 0) (get_or bytes 1 0) (get_or bytes 2 0) (get_or bytes 3 0) x
Coded (suc (suc (suc (suc (suc n))))) bytes x = ⊥

coded_from : (bytes rest : List ℕ) (c : ℕ) → c < 0x110000 → bytes ≡ encode c ++ rest → Width c → Coded (length (encode c)) bytes c
coded_from bytes rest c h e (w1 a k) =
    let f : bytes ≡ c ∷ rest = e ∙ ap (λ l. l ++ rest) k in
    subst (λ l. Coded (length l) bytes c) (sym k) (a, ap (λ l. get_or l 0 0) f)
coded_from bytes rest c h e (w2 a b k) =
    let f = e ∙ ap (λ l. l ++ rest) k in
    subst (λ l. Coded (length l) bytes c) (sym k) (a, b, ap (λ l. get_or l 0 0) f, ap (λ l. get_or l 1 0) f)
coded_from bytes rest c h e (w3 a b k) =
    let f = e ∙ ap (λ l. l ++ rest) k in
    subst (λ l. Coded (length l) bytes c) (sym k) (a, b, ap (λ l. get_or l 0 0) f, ap (λ l. get_or l 1 0) f, ap (λ l. get_or l 2 0) f)
coded_from bytes rest c h e (w4 a k) =
    let f = e ∙ ap (λ l. l ++ rest) k in
    subst (λ l. Coded (length l) bytes c) (sym k) (a, h, ap (λ l. get_or l 0 0) f, ap (λ l. get_or l 1 0) f, ap (λ l. get_or l 2 0) f, ap (λ l. get_or l 3 0) f)

-- The first byte of a character is the first byte.
first_byte : (bytes rest : List ℕ) (c : ℕ) → bytes ≡ encode c ++ rest → Width c → get_or (encode c) 0 0 ≡ get_or bytes 0 0
first_byte bytes rest c e (w1 a k) = ap (λ l. get_or l 0 0) k ∙ sym (ap (λ l. get_or l 0 0) (e ∙ ap (λ l. l ++ rest) k))
first_byte bytes rest c e (w2 a b k) = ap (λ l. get_or l 0 0) k ∙ sym (ap (λ l. get_or l 0 0) (e ∙ ap (λ l. l ++ rest) k))
first_byte bytes rest c e (w3 a b k) = ap (λ l. get_or l 0 0) k ∙ sym (ap (λ l. get_or l 0 0) (e ∙ ap (λ l. l ++ rest) k))
first_byte bytes rest c e (w4 a k) = ap (λ l. get_or l 0 0) k ∙ sym (ap (λ l. get_or l 0 0) (e ∙ ap (λ l. l ++ rest) k))

-- Where no code point is in as many bytes as the first says, none stands at the front.
pub lacks : (n : ℕ) (bytes : List ℕ) → n ≡ lead_length (get_or bytes 0 0) → ((x : ℕ) → Coded n bytes x → ⊥) → Lacks bytes 0x110000
lacks n bytes l bad c rest h e =
    let w = width_of c in
    let long : length (encode c) ≡ n = sym (lead_counts c h) ∙ ap lead_length (first_byte bytes rest c e w) ∙ sym l in
    bad c (subst (λ k. Coded k bytes c) long (coded_from bytes rest c h e w))

-- And where one is, it does, and takes that many bytes.
abbrev pub Stands : List ℕ → ℕ → ℕ → Type 0
Stands bytes n x = (x < 0x110000) × Begins bytes x × (length (encode x) ≡ n)

stands : (front bytes : List ℕ) (x : ℕ) → x < 0x110000 → encode x ≡ front → bytes ≡ front ++ drop (length front) bytes → Stands bytes (length front) x
stands front bytes x h e f = (h, subst (λ l. bytes ≡ l ++ drop (length l) bytes) (sym e) f, ap length e)

pub begins : (n : ℕ) (bytes : List ℕ) (x : ℕ) → 0 < length bytes → Coded n bytes x → Stands bytes n x
begins zero bytes x p k = absurd k
begins (suc zero) [] x p k = absurd (omega arith)
begins (suc zero) (a ∷ bytes) x p k = stands (x ∷ []) (a ∷ bytes) x (omega arith) (encode_1 x k.0) (ap (λ y. y ∷ bytes) k.1)
begins (suc (suc zero)) [] x p k = absurd (omega arith)
begins (suc (suc zero)) (a ∷ []) x p k = absurd (omega arith)
begins (suc (suc zero)) (a ∷ b ∷ bytes) x p k = stands _ (a ∷ b ∷ bytes) x (omega arith) (encode_2 x k.0 k.1) (cc (k.2, k.3))
begins (suc (suc (suc zero))) [] x p k = absurd (omega arith)
begins (suc (suc (suc zero))) (a ∷ []) x p k = absurd (omega arith)
begins (suc (suc (suc zero))) (a ∷ b ∷ []) x p k = absurd (omega arith)
begins (suc (suc (suc zero))) (a ∷ b ∷ c ∷ bytes) x p k = stands _ (a ∷ b ∷ c ∷ bytes) x (omega arith) (encode_3 x k.0 k.1) (cc (k.2, k.3, k.4))
begins (suc (suc (suc (suc zero)))) [] x p k = absurd (omega arith)
begins (suc (suc (suc (suc zero)))) (a ∷ []) x p k = absurd (omega arith)
begins (suc (suc (suc (suc zero)))) (a ∷ b ∷ []) x p k = absurd (omega arith)
begins (suc (suc (suc (suc zero)))) (a ∷ b ∷ c ∷ []) x p k = absurd (omega arith)
begins (suc (suc (suc (suc zero)))) (a ∷ b ∷ c ∷ d ∷ bytes) x p k = stands _ (a ∷ b ∷ c ∷ d ∷ bytes) x k.1 (encode_4 x k.0) (cc (k.2, k.3, k.4, k.5))
begins (suc (suc (suc (suc (suc n))))) bytes x p k = absurd k

-- What is found in as many bytes as the first byte says is what stands at the front.
pub found : (n len : ℕ) (bytes : List ℕ) (o : Option ℕ) → 0 < length bytes → len ≡ lead_length (get_or bytes 0 0) → len ≡ n → MatchOption o ((x : ℕ) → Coded n bytes x → ⊥) (Coded n bytes) → MatchOption o (Lacks bytes 0x110000) (Stands bytes len)
found n len bytes None p l e k = lacks n bytes (sym e ∙ l) k
found n len bytes (Some x) p l e k = subst (λ m. Stands bytes m x) (sym e) (begins n bytes x p k)

pub begins_fits : (bytes : List ℕ) (x : ℕ) → Begins bytes x → length (encode x) ≤ length bytes
begins_fits bytes x b = omega (arith, ap length b, length-append (encode x) (drop (length (encode x)) bytes))

-- A code point takes one to four bytes.
pub coded_length : (n : ℕ) (bytes : List ℕ) (x : ℕ) → Coded n bytes x → (1 ≤ n) × (n ≤ 4)
coded_length zero bytes x k = absurd k
coded_length (suc zero) bytes x k = (omega arith, omega arith)
coded_length (suc (suc zero)) bytes x k = (omega arith, omega arith)
coded_length (suc (suc (suc zero))) bytes x k = (omega arith, omega arith)
coded_length (suc (suc (suc (suc zero)))) bytes x k = (omega arith, omega arith)
coded_length (suc (suc (suc (suc (suc n))))) bytes x k = absurd k
