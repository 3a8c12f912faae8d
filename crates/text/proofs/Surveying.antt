-- The walk over a text: what one more code point adds.
use Rattle.std.proofs.Common.{◌≡◌, ℕ, ◌+◌, ◌<◌, ◌≤◌, true, false, ◌&&◌, List, [], ◌∷◌, ◌++◌, length, Some, None, Ok, Err, Option, Result, MatchBool, is_ok, sym, ap, ◌∙◌, subst, inl, inr, append_assoc, arith, length-append, MatchOption}
use lib.Utf8.{encode, encodes}
use Rattle.std.specs.List.{slice_get}
use Rattle.std.proofs.lemmas.List.{append-nil}
use Rattle.std.proofs.lemmas.Str.{encodes-append, length-encode, len_utf8_bounds}
use Rattle.text.specs.Utf16.{leading, trailing, utf16, units}
use Rattle.text.specs.Points.{Canonical, ends}
use Rattle.base.specs.declared.fault.Fault.{Fault}
use Rattle.base.specs.Questions.{Refuses}
use Rattle.text.specs.declared.character.Character.{Character}
use Rattle.text.specs.declared.reader.Characters.{Characters}
use Rattle.text.specs.declared.survey.Survey.{Survey}
use Rattle.text.specs.Reader.{rest_of, led_of, Readable, Next}
use Rattle.text.specs.Stored.{Lawful}
use Rattle.text.specs.Survey.{EndsWith, Surveyed}
use Rattle.text.proofs.Pairing.{canonical_append, ends_push, units_append, utf16_below, utf16_above, unlawful_more, stores_points}
use Rattle.text.proofs.Stepping.{goes_on}
use Rattle.text.proofs.Widths.{Width, w1, w2, w3, w4, width_of}

pub units_push : (done : List ℕ) (c : ℕ) → units (done ++ c ∷ []) ≡ units done ++ utf16 c
units_push done c = units_append done (c ∷ []) ∙ ap (λ l. units done ++ l) (append-nil (utf16 c))

pub encodes_push : (done rest : List ℕ) (c : ℕ) → encodes (done ++ c ∷ []) ++ rest ≡ encodes done ++ (encode c ++ rest)
encodes_push done rest c =
    ap (λ l. l ++ rest) (encodes-append done (c ∷ []) ∙ ap (λ l. encodes done ++ l) (append-nil (encode c)))
    ∙ append_assoc (encodes done) (encode c) rest

-- The walk ends with the leading surrogate that it read last.
pub ends_with : (done : List ℕ) (c : ℕ) (lead : Option ℕ) → MatchOption lead (leading c ≡ false) (λ h. (h ≡ c) × (leading c ≡ true)) → EndsWith lead (done ++ c ∷ [])
ends_with done c None k = ends_push false done c ∙ k
ends_with done c (Some h) k = (done, ap (λ x. done ++ x ∷ []) (sym k.0), ap leading k.0 ∙ k.1)

-- A code point takes no more units than bytes.
pub fewer_units : (c : ℕ) → length (utf16 c) ≤ length (encode c)
fewer_units c = go (width_of c)
  where
    go : Width c → length (utf16 c) ≤ length (encode c)
    go (w1 a e) = omega (arith, ap length e, ap length (utf16_below c (omega arith)))
    go (w2 a b e) = omega (arith, ap length e, ap length (utf16_below c (omega arith)))
    go (w3 a b e) = omega (arith, ap length e, ap length (utf16_below c (omega arith)))
    go (w4 a e) = omega (arith, ap length e, ap length (utf16_above c a))

-- Where the walk is: the code points read so far, and what was found of them.
abbrev pub Walked : List ℕ → ℕ → Characters → Survey → Type 0
Walked text n s found =
    (done : List ℕ) × Canonical false done × (encodes done ++ rest_of s ≡ text) × (led_of s ≡ ends false done)
    × (found.units ≡ length (units done)) × (found.picked ≡ slice_get (units done) n) × EndsWith found.lead done
    × (found.units + length (rest_of s) ≤ length text)

-- What one more code point adds to what was found.
pub record Added (found more : Survey) (code n : ℕ) : Type 0 where
  pub units_more : more.units ≡ found.units + length (utf16 code)
  pub picked_more : (us : List ℕ) → found.units ≡ length us → found.picked ≡ slice_get us n → more.picked ≡ slice_get (us ++ utf16 code) n
  pub lead_more : MatchOption more.lead (leading code ≡ false) (λ h. (h ≡ code) × (leading code ≡ true))

pub walk_more : (text : List ℕ) (n : ℕ) (s t : Characters) (h : Character) (found more : Survey) → Next s t (Ok (Some h)) → Added found more h.code n → Walked text n s found → Walked text n t more
walk_more text n s t h found more k a w =
    let done = w.0 in
    let c = h.code in
    let all = done ++ c ∷ [] in
    let us = units_push done c in
    let quiet : Canonical (ends false done) (c ∷ []) = (k.0, ap (λ b. b && trailing c) (sym w.3) ∙ k.1, tt) in (
      all,
      canonical_append false done (c ∷ []) w.1 quiet,
      encodes_push done (rest_of t) c ∙ ap (λ l. encodes done ++ l) (sym k.3) ∙ w.2,
      k.4 ∙ sym (ends_push false done c),
      a.units_more ∙ ap (λ m. m + length (utf16 c)) w.4 ∙ sym (length-append (units done) (utf16 c)) ∙ sym (ap length us),
      a.picked_more (units done) w.4 w.5 ∙ sym (ap (λ l. slice_get l n) us),
      ends_with done c more.lead a.lead_more,
      omega (arith, a.units_more, w.7, fewer_units c, ap length k.3, length-append (encode c) (rest_of t)),
    )

pub walk_less : (s t : Characters) (h : Character) → Next s t (Ok (Some h)) → length (rest_of t) < length (rest_of s)
walk_less s t h k =
    omega (arith, ap length k.3, length-append (encode h.code) (rest_of t), length-encode h.code, len_utf8_bounds h.code)

-- Where the rest does not go on, the whole is no text.
pub walk_refused : (text : List ℕ) (n : ℕ) (s : Characters) (found : Survey) (e : Fault) → Walked text n s found → Refuses (((12, 0), Readable (led_of s) (rest_of s)) ∷ []) e → Refuses (((12, 0), Lawful text) ∷ []) e
walk_refused text n s found e w (inl (p, q)) =
    inl (p, unlawful_more w.0 (rest_of s) text w.2 (λ cs k same. q (goes_on (led_of s) (rest_of s) cs (subst (λ b. Canonical b cs) (sym w.3) k) same)))
walk_refused text n s found e w (inr (p, q)) = absurd q

-- A walk is not refused exactly where the text is lawful.
pub lawful_where_surveyed : (text : List ℕ) (n : ℕ) (r : Result Survey Fault) → Surveyed text n r → MatchBool (is_ok r) (Lawful text) (Lawful text → ⊥)
lawful_where_surveyed text n (Ok s) k = (units k.0, stores_points text k.0 k.1.0 k.1.1)
lawful_where_surveyed text n (Err e) (inl r) = r.1
lawful_where_surveyed text n (Err e) (inr r) = absurd r.1
