-- Runs of plain text: raw text without escapes, its reading and its value.
use Rattle.std.proofs.Common.{◌≡◌, ℕ, ◌+◌, ◌/◌, ◌≤◌, Bool, true, false, cond, ◌&&◌, eqb, ltb, List, [], ◌∷◌, ◌++◌, sym, refl, ap, ◌∙◌, subst, ap₂, inl, inr, arith, lit<}
use lib.Utf8.{scalar, encode, encodes, next}
use Rattle.std.specs.List.{AllByRecursion as All}
use Rattle.std.proofs.lemmas.Bool.{eqb-true, ne_eqb, and_right, cases_Bool, cases_lt, cond-false, cond_both}
use Rattle.std.proofs.lemmas.Str.{encode_ascii}
use Rattle.text.specs.Utf16.{utf16}
use Rattle.template.specs.Lines.{normal}
use Rattle.template.specs.Grammar.{TemplateCharacter, dollar, escape, continuation, line_end, other, lf, cr, ls, ps, crlf, source, sources, value, Allowed, AllAllowed, starts}

-- The line end LF.
abbrev pub is_lf : TemplateCharacter → Bool
is_lf dollar = false
is_lf (escape e) = false
is_lf (continuation l) = false
is_lf (line_end lf) = true
is_lf (line_end cr) = false
is_lf (line_end ls) = false
is_lf (line_end ps) = false
is_lf (line_end crlf) = false
is_lf (other c) = false

-- CR before a reading: it joins an LF.
abbrev pub after_cr : List TemplateCharacter → List TemplateCharacter
after_cr [] = line_end cr ∷ []
after_cr (t ∷ ts) = cond (is_lf t) (line_end crlf ∷ ts) (line_end cr ∷ t ∷ ts)

-- A character other than CR, on its own.
abbrev pub plain : ℕ → TemplateCharacter
plain c =
    cond (eqb c 0x24) dollar
    (cond (eqb c 0x0A) (line_end lf)
    (cond (eqb c 0x2028) (line_end ls)
    (cond (eqb c 0x2029) (line_end ps) (other c))))

-- One character before a reading.
abbrev pub prepend : ℕ → List TemplateCharacter → List TemplateCharacter
prepend c ts = cond (eqb c 0x0D) (after_cr ts) (plain c ∷ ts)

-- The reading of plain text.
abbrev pub run : List ℕ → List TemplateCharacter
run [] = []
run (c ∷ cs) = prepend c (run cs)

-- Where c passes the test for n, what holds of n holds of c.
at_numeral : {A : Type 0} (P : ℕ → A → Type 0) (c n : ℕ) (x y : A) → P n x → (eqb c n ≡ false → P c y) → P c (cond (eqb c n) x y)
at_numeral P c n x y p q = cond_both (eqb c n) x y (P c) (λ e. subst (λ m. P m x) (sym (eqb-true c n e)) p) q

-- A fact on plain characters, by the character.
plain_cases : (P : ℕ → TemplateCharacter → Type 0) → P 0x24 dollar → P 0x0A (line_end lf) → P 0x2028 (line_end ls) → P 0x2029 (line_end ps) → (c : ℕ) → (eqb c 0x24 ≡ false → eqb c 0x0A ≡ false → eqb c 0x2028 ≡ false → eqb c 0x2029 ≡ false → P c (other c)) → P c (plain c)
plain_cases P d l s p c o =
    at_numeral P c 0x24 dollar _ d
    (λ x. at_numeral P c 0x0A (line_end lf) _ l
    (λ y. at_numeral P c 0x2028 (line_end ls) _ s
    (λ z. at_numeral P c 0x2029 (line_end ps) _ p (o x y z))))

-- A plain character is its own source.
pub plain_source : (c : ℕ) → source (plain c) ≡ c ∷ []
plain_source c = plain_cases (λ d t. source t ≡ d ∷ []) refl refl refl refl c (λ _ _ _ _. refl)

-- Its value is its units.
pub plain_value : (c : ℕ) → value (plain c) ≡ utf16 c
plain_value c = plain_cases (λ d t. value t ≡ utf16 d) refl refl refl refl c (λ _ _ _ _. refl)

-- It is the line end LF only where it is LF.
plain_lf : (c : ℕ) → eqb c 0x0A ≡ false → is_lf (plain c) ≡ false
plain_lf c = plain_cases (λ d t. eqb d 0x0A ≡ false → is_lf t ≡ false) (λ h. h) (λ h. h) (λ h. h) (λ h. h) c (λ _ _ _ _ _. refl)

-- CR before a text that does not begin with LF stands alone.
cr_alone : (c : ℕ) (cs : List ℕ) → eqb c 0x0A ≡ false → after_cr (run (c ∷ cs)) ≡ line_end cr ∷ run (c ∷ cs)
cr_alone c cs h =
    cond_both (eqb c 0x0D) (after_cr (run cs)) (plain c ∷ run cs) (λ ts. after_cr ts ≡ line_end cr ∷ ts)
    (λ _. again (run cs))
    (λ _. cond-false (is_lf (plain c)) _ _ (plain_lf c h))
  where
    again : (ts : List TemplateCharacter) → after_cr (after_cr ts) ≡ line_end cr ∷ after_cr ts
    again [] = refl
    again (t ∷ ts) = cond_both (is_lf t) (line_end crlf ∷ ts) (line_end cr ∷ t ∷ ts) (λ us. after_cr us ≡ line_end cr ∷ us) (λ _. refl) (λ _. refl)

-- Induction on a text and its reading: an empty text, a character other than CR, a CR alone, and a CR LF.
module _
    (P : List ℕ → List TemplateCharacter → Type 0)
    (nil : P [] [])
    (more : (c : ℕ) (cs : List ℕ) → eqb c 0x0D ≡ false → P cs (run cs) → P (c ∷ cs) (plain c ∷ run cs))
    (alone : (cs : List ℕ) → starts (λ c. eqb c 0x0A) cs ≡ false → P cs (run cs) → P (0x0D ∷ cs) (line_end cr ∷ run cs))
    (pair : (cs : List ℕ) → P cs (run cs) → P (0x0D ∷ 0x0A ∷ cs) (line_end crlf ∷ run cs))
  where
    run_cases : (cs : List ℕ) → P cs (run cs)
    run_cases [] = nil
    run_cases (c ∷ []) = at_numeral (λ d ts. P (d ∷ []) ts) c 0x0D (after_cr []) (plain c ∷ []) (alone [] refl nil) (λ e. more c [] e nil)
    run_cases (c ∷ d ∷ cs) =
        let tail = run_cases (d ∷ cs) in
        let later = run_cases cs in
        at_numeral (λ b ts. P (b ∷ d ∷ cs) ts) c 0x0D (after_cr (run (d ∷ cs))) (plain c ∷ run (d ∷ cs))
        (elim (cases_Bool (eqb d 0x0A)) [
          | inl e ↦ subst (λ b. P (0x0D ∷ b ∷ cs) (after_cr (run (b ∷ cs)))) (sym (eqb-true d 0x0A e)) (pair cs later)
          | inr e ↦ subst (P (0x0D ∷ d ∷ cs)) (sym (cr_alone d cs e)) (alone (d ∷ cs) e tail)
        ])
        (λ e. more c (d ∷ cs) e tail)

-- The reading of a text has that text for its source.
pub run_source : (cs : List ℕ) → sources (run cs) ≡ cs
run_source =
    run_cases (λ cs ts. sources ts ≡ cs) refl
    (λ c cs _ h. ap₂ (λ (xs ys : List ℕ). xs ++ ys) (plain_source c) h)
    (λ cs _ h. ap (λ ys. 0x0D ∷ ys) h)
    (λ cs h. ap (λ ys. 0x0D ∷ 0x0A ∷ ys) h)

-- Text without escapes before rest: no `, no \ and no ${.
abbrev pub Plain : List ℕ → List ℕ → Type 0
Plain [] rest = Unit {0}
Plain (c ∷ cs) rest = (scalar c ≡ true) × (eqb c 0x60 ≡ false) × (eqb c 0x5C ≡ false) × (eqb c 0x24 ≡ true → starts (λ d. eqb d 0x7B) (cs ++ rest) ≡ false) × Plain cs rest

-- A plain character is allowed, where $ is not before {.
pub plain_allowed : (c : ℕ) (rest : List ℕ) → scalar c ≡ true → eqb c 0x60 ≡ false → eqb c 0x5C ≡ false → (eqb c 0x24 ≡ true → starts (λ d. eqb d 0x7B) rest ≡ false) → eqb c 0x0D ≡ false → Allowed (plain c) rest
plain_allowed c rest =
    plain_cases (λ c t. scalar c ≡ true → eqb c 0x60 ≡ false → eqb c 0x5C ≡ false → (eqb c 0x24 ≡ true → starts (λ d. eqb d 0x7B) rest ≡ false) → eqb c 0x0D ≡ false → Allowed t rest)
    (λ _ _ _ h _. h refl) (λ _ _ _ _ _. tt) (λ _ _ _ _ _. tt) (λ _ _ _ _ _. tt) c
    (λ no_dollar no_lf no_ls no_ps s no_tick no_slash _ no_cr. (s, rw (no_tick, no_slash, no_dollar), rw (no_lf, no_cr, no_ls, no_ps)))

-- Two lists in a row begin with no such character where neither does.
starts_append : (p : ℕ → Bool) (cs rest : List ℕ) → starts p cs ≡ false → starts p rest ≡ false → starts p (cs ++ rest) ≡ false
starts_append p [] rest h k = k
starts_append p (c ∷ cs) rest h k = h

-- The reading of plain text is allowed, where no LF follows.
pub run_allowed : (cs rest : List ℕ) → Plain cs rest → starts (λ c. eqb c 0x0A) rest ≡ false → AllAllowed (run cs) rest
run_allowed cs rest h end =
    run_cases (λ cs ts. Plain cs rest → AllAllowed ts rest) (λ _. tt)
    (λ c cs e k p. (plain_allowed c (sources (run cs) ++ rest) p.0 p.1 p.2 (λ d. ap (λ xs. starts (λ x. eqb x 0x7B) (xs ++ rest)) (run_source cs) ∙ p.3 d) e, k p.4))
    (λ cs e k p. (ap (λ xs. starts (λ x. eqb x 0x0A) (xs ++ rest)) (run_source cs) ∙ starts_append (λ x. eqb x 0x0A) cs rest e end, k p.4))
    (λ cs k p. (tt, k p.4.4))
    cs h

-- After CR only an LF is left out.
pub normal_after : (cs : List ℕ) → starts (λ c. eqb c 0x0A) cs ≡ false → normal true cs ≡ normal false cs
normal_after [] h = refl
normal_after (c ∷ cs) h = ap (λ xs. cond (eqb c 0x0D) (0x0A ∷ normal true cs) xs) (cond-false (eqb c 0x0A) _ _ h)

-- A byte or character of 128 or more is left as it is.
normal_high : (b : Bool) (x : ℕ) (xs : List ℕ) → 128 ≤ x → normal b (x ∷ xs) ≡ x ∷ normal false xs
normal_high b x xs h =
    cond-false (eqb x 0x0D) _ _ (ne_eqb x 0x0D (λ e. omega arith))
    ∙ cond-false (b && eqb x 0x0A) _ _ (and_right b (eqb x 0x0A) (ne_eqb x 0x0A (λ e. omega arith)))

-- So are several such bytes.
high_bytes : (b : Bool) (x : ℕ) (hs xs : List ℕ) → All (λ y. 128 ≤ y) (x ∷ hs) → normal b (x ∷ hs ++ xs) ≡ x ∷ hs ++ normal false xs
high_bytes b x [] xs h = normal_high b x xs h.0
high_bytes b x (y ∷ hs) xs h = normal_high b x (y ∷ hs ++ xs) h.0 ∙ ap (λ ys. x ∷ ys) (high_bytes false y hs xs h.1)

-- So are the bytes of a character of 128 or more.
encode_high : (b : Bool) (c : ℕ) (xs : List ℕ) → 128 ≤ c → normal b (encode c ++ xs) ≡ encode c ++ normal false xs
unfolding encode
encode_high b c xs h =
    cond_both (ltb c 128) (c ∷ []) _ P (λ _. normal_high b c xs h)
    (λ _. cond_both (ltb c 2048) _ _ P (λ _. high_bytes b (192 + c / 64) (next c ∷ []) xs (omega arith))
    (λ _. cond_both (ltb c 65536) _ _ P (λ _. high_bytes b (224 + c / 4096) (next (c / 64) ∷ next c ∷ []) xs (omega arith))
    (λ _. high_bytes b (240 + c / 262144) (next (c / 4096) ∷ next (c / 64) ∷ next c ∷ []) xs (omega arith))))
  where
    P : List ℕ → Type 0
    P bs = normal b (bs ++ xs) ≡ bs ++ normal false xs

-- Bytes that are chosen by tests encode the characters that are chosen by them.
encodes_chosen : (x y : Bool) (a b c d e f : List ℕ) → a ≡ encodes d → b ≡ encodes e → c ≡ encodes f → cond x a (cond y b c) ≡ encodes (cond x d (cond y e f))
encodes_chosen true y a b c d e f p q r = p
encodes_chosen false true a b c d e f p q r = q
encodes_chosen false false a b c d e f p q r = r

-- Line ends are the same in characters and in bytes.
pub normal_encodes : (b : Bool) (cs : List ℕ) → normal b (encodes cs) ≡ encodes (normal b cs)
normal_encodes b [] = refl
normal_encodes b (c ∷ cs) =
    let t = normal_encodes true cs in
    let f = normal_encodes false cs in
    elim (cases_lt c 128) [
      | inl h ↦
          ap (λ bs. normal b (bs ++ encodes cs)) (encode_ascii c h)
          ∙ encodes_chosen (eqb c 0x0D) (b && eqb c 0x0A) _ _ _ (0x0A ∷ normal true cs) (normal false cs) (c ∷ normal false cs)
          (ap₂ (λ (xs ys : List ℕ). xs ++ ys) (sym (encode_ascii 0x0A (lit< tt))) t)
          f
          (ap₂ (λ (xs ys : List ℕ). xs ++ ys) (sym (encode_ascii c h)) f)
      | inr h ↦ encode_high b c (encodes cs) h ∙ ap (λ bs. encode c ++ bs) f ∙ sym (ap encodes (normal_high b c cs h))
    ]
