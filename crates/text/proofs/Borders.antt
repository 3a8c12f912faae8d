-- The surrogates at the edges of a text.
use Rattle.std.proofs.Common.{◌≡◌, ℕ, zero, suc, ◌+◌, ◌-◌, ◌/◌, ◌%◌, ◌<◌, ◌≤◌, true, false, cond, ◌⊎◌, List, [], ◌∷◌, ◌++◌, length, get_or, take, drop, Some, None, Option, sym, refl, ap, ◌∙◌, inl, inr, arith, length-append, MatchOption, is_some}
use lib.Utf8.{encode, encodes}
use Rattle.std.proofs.lemmas.List.{append-nil, drop_at, drop-append-le, get_or_append_left, get_or-append-add, take-append-drop, drop_more, drop_all}
use Rattle.std.proofs.lemmas.Bool.{cases_Bool, cases_lt, cond-true, cond-false, and_right}
use Rattle.std.proofs.lemmas.Str.{cons_from_encodes, encodes_same}
use Rattle.text.specs.Utf16.{leading, trailing, points, units}
use Rattle.text.specs.Points.{ends, last_leading, first_trailing}
use Rattle.text.specs.Laws.{begins_trailing}
use Rattle.text.specs.Stored.{stored, Stores}
use Rattle.text.specs.Character.{Three}
use Rattle.text.proofs.Pairing.{leading_range, trailing_range, not_leading_above, not_trailing_below, units_points, units_append, utf16_below, before_plain}
use Rattle.text.proofs.Rejoin.{joins_as_units}
use Rattle.text.proofs.Widths.{Width, w1, w2, w3, w4, width_of, encode_3}

-- ---- where characters begin

-- A byte that goes on with a character is below 0xC0.
goes_on : (c k : ℕ) → 1 ≤ k → k < length (encode c) → Width c → get_or (encode c) k 0 < 0xC0
goes_on c zero l h w = absurd (omega arith)
goes_on c (suc zero) l h (w1 a e) = absurd (omega (arith, ap length e))
goes_on c (suc zero) l h (w2 a b e) = rw e (omega arith)
goes_on c (suc zero) l h (w3 a b e) = rw e (omega arith)
goes_on c (suc zero) l h (w4 a e) = rw e (omega arith)
goes_on c (suc (suc zero)) l h (w1 a e) = absurd (omega (arith, ap length e))
goes_on c (suc (suc zero)) l h (w2 a b e) = absurd (omega (arith, ap length e))
goes_on c (suc (suc zero)) l h (w3 a b e) = rw e (omega arith)
goes_on c (suc (suc zero)) l h (w4 a e) = rw e (omega arith)
goes_on c (suc (suc (suc zero))) l h (w1 a e) = absurd (omega (arith, ap length e))
goes_on c (suc (suc (suc zero))) l h (w2 a b e) = absurd (omega (arith, ap length e))
goes_on c (suc (suc (suc zero))) l h (w3 a b e) = absurd (omega (arith, ap length e))
goes_on c (suc (suc (suc zero))) l h (w4 a e) = rw e (omega arith)
goes_on c (suc (suc (suc (suc k)))) l h (w1 a e) = absurd (omega (arith, ap length e))
goes_on c (suc (suc (suc (suc k)))) l h (w2 a b e) = absurd (omega (arith, ap length e))
goes_on c (suc (suc (suc (suc k)))) l h (w3 a b e) = absurd (omega (arith, ap length e))
goes_on c (suc (suc (suc (suc k)))) l h (w4 a e) = absurd (omega (arith, ap length e))

-- A character that ends a text, and is not ASCII, is its last code point.
pub last_point : (cs : List ℕ) (front : List ℕ) (x : ℕ) → 0x800 ≤ x → x < 0x10000 → encodes cs ≡ front ++ encode x → (ds : List ℕ) × (cs ≡ ds ++ x ∷ [])
last_point [] front x l h e =
    absurd (omega (arith, ap length e, length-append front (encode x), ap length (encode_3 x l h)))
last_point (c ∷ cs) [] x l h e =
    let k = cons_from_encodes (c ∷ cs) [] x (e ∙ sym (append-nil (encode x))) in
    ([], k.1 ∙ ap (λ es. x ∷ es) (encodes_same k.0 [] k.2))
last_point (c ∷ cs) (b ∷ front) x l h e =
    let n = length (encode c) in
    let whole = b ∷ front in
    let wide = encode_3 x l h in
    elim (cases_lt (length whole) n) [
      | inl inside ↦
          let none_more : length whole ≡ length whole + 0 = omega arith in
          let here : get_or (encode c) (length whole) 0 ≡ get_or (encode x) 0 0 =
          sym (get_or_append_left (encode c) (encodes cs) 0 (length whole) inside)
          ∙ ap (λ t. get_or t (length whole) 0) e
          ∙ ap (λ k. get_or (whole ++ encode x) k 0) none_more
          ∙ get_or-append-add whole (encode x) 0 0
          in
          let low = goes_on c (length whole) (omega arith) inside (width_of c) in
          absurd (omega (arith, ap (λ t. get_or t 0 0) wide))
      | inr past ↦
          let rest : encodes cs ≡ drop n whole ++ encode x =
          sym (drop_at (encode c) (encodes cs) n refl) ∙ ap (drop n) e ∙ drop-append-le n whole (encode x) past
          in
          let k = last_point cs (drop n whole) x l h rest in
          (c ∷ k.0, ap (λ t. c ∷ t) k.1)
    ]

-- ---- the first unit

-- A unit that is no leading surrogate spells itself in front.
stored_front : (u : ℕ) (us : List ℕ) → leading u ≡ false → stored (u ∷ us) ≡ encode u ++ stored us
stored_front u us q = ap encodes (before_plain u (points us) q)

first_of : (u : ℕ) (us : List ℕ) → trailing u ≡ false → first_trailing (u ∷ us) ≡ None
first_of u us q = cond-false (trailing u) _ _ q

-- Where the bytes begin with a character of three bytes, that is the first unit.
pub first_is : (text us : List ℕ) (x : ℕ) → Stores text us → 0x800 ≤ x → x < 0x10000 → text ≡ encode x ++ drop (length (encode x)) text → first_trailing us ≡ cond (trailing x) (Some x) None
first_is text us x s l h e =
    let k = cons_from_encodes (points us) (drop (length (encode x)) text) x (s.1 ∙ e) in
    ap first_trailing (sym (units_points us s.0) ∙ ap units k.1 ∙ ap (λ v. v ++ units k.0) (utf16_below x h))

-- Where they begin with no trailing surrogate, the text does not.
pub first_none : (text us : List ℕ) → Stores text us → ((x : ℕ) (rest : List ℕ) → trailing x ≡ true → text ≡ encode x ++ rest → ⊥) → first_trailing us ≡ None
first_none text [] s bad = refl
first_none text (u ∷ us) s bad =
    elim (cases_Bool (trailing u)) [
      | inl t ↦
          let r = trailing_range u t in
          absurd (bad u (stored us) t (sym s.1 ∙ stored_front u us (not_leading_above u r.0)))
      | inr f ↦ first_of u us f
    ]

-- ---- the last unit

last_push : (us : List ℕ) (u : ℕ) → last_leading (us ++ u ∷ []) ≡ cond (leading u) (Some u) None
last_push [] u = refl
last_push (v ∷ []) u = refl
last_push (v ∷ w ∷ us) u = last_push (w ∷ us) u

-- A text ends with no leading surrogate, or with one.
pub last_cases : (us : List ℕ) → (last_leading us ≡ None) ⊎ ((vs : List ℕ) × (h : ℕ) × (us ≡ vs ++ h ∷ []) × (leading h ≡ true))
last_cases [] = inl refl
last_cases (u ∷ []) =
    elim (cases_Bool (leading u)) [
      | inl t ↦ inr ([], u, refl, t)
      | inr f ↦ inl (cond-false (leading u) _ _ f)
    ]
last_cases (u ∷ v ∷ us) =
    elim (last_cases (v ∷ us)) [
      | inl none ↦ inl none
      | inr some ↦ inr (u ∷ some.0, some.1, ap (λ l. u ∷ l) some.2, some.3)
    ]

-- A leading surrogate that stands last is a character of its own.
stored_back : (vs : List ℕ) (h : ℕ) → leading h ≡ true → stored (vs ++ h ∷ []) ≡ stored vs ++ encode h
stored_back vs h q =
    let r = leading_range h q in
    joins_as_units.0 vs (h ∷ []) (and_right (ends false vs) (trailing h) (not_trailing_below h (omega arith)))
    ∙ ap (λ l. stored vs ++ l) (append-nil (encode h))

-- Where the bytes end with a character of three bytes, that is the last unit.
pub last_is : (text us front : List ℕ) (x : ℕ) → Stores text us → 0x800 ≤ x → x < 0x10000 → text ≡ front ++ encode x → last_leading us ≡ cond (leading x) (Some x) None
last_is text us front x s l h e =
    let k = last_point (points us) front x l h (s.1 ∙ e) in
    let is : us ≡ units k.0 ++ x ∷ [] =
    sym (units_points us s.0)
    ∙ ap units k.1
    ∙ units_append k.0 (x ∷ [])
    ∙ ap (λ v. units k.0 ++ (v ++ [])) (utf16_below x h)
    in
    ap last_leading is ∙ last_push (units k.0) x

-- Where they end with no leading surrogate, the text does not.
pub last_none : (text us : List ℕ) → Stores text us → ((x : ℕ) (front : List ℕ) → leading x ≡ true → text ≡ front ++ encode x → ⊥) → last_leading us ≡ None
last_none text us s bad =
    elim (last_cases us) [
      | inl none ↦ none
      | inr some ↦
          absurd (bad some.1 (stored some.0) some.3 (sym s.1 ∙ ap stored some.2 ∙ stored_back some.0 some.1 some.3))
    ]

-- ---- whether there is one

pub some_first : (us : List ℕ) → is_some (first_trailing us) ≡ begins_trailing us
some_first [] = refl
some_first (u ∷ us) =
    elim (cases_Bool (trailing u)) [
      | inl t ↦ ap is_some (cond-true (trailing u) (Some u) None t) ∙ sym t
      | inr f ↦ ap is_some (cond-false (trailing u) (Some u) None f) ∙ sym f
    ]

pub some_last : (us : List ℕ) → is_some (last_leading us) ≡ ends false us
some_last [] = refl
some_last (u ∷ []) =
    elim (cases_Bool (leading u)) [
      | inl t ↦ ap is_some (cond-true (leading u) (Some u) None t) ∙ sym t
      | inr f ↦ ap is_some (cond-false (leading u) (Some u) None f) ∙ sym f
    ]
some_last (u ∷ v ∷ us) = some_last (v ∷ us)

-- ---- what is read from three bytes

abbrev pub ThreeAt : List ℕ → ℕ → ℕ → Type 0
ThreeAt text n x = Three (get_or text n 0) (get_or text (n + 1) 0) (get_or text (n + 2) 0) x

-- From n on there are three bytes.
from_three : (text : List ℕ) (n : ℕ) → n + 3 ≤ length text → text ≡ take n text ++ (get_or text n 0 ∷ get_or text (n + 1) 0 ∷ get_or text (n + 2) 0 ∷ drop (n + 3) text)
from_three text n h =
    sym (take-append-drop n text)
    ∙ ap (λ l. take n text ++ l) (
    drop_more text n 0 (omega arith)
    ∙ ap (λ l. get_or text n 0 ∷ l) (drop_more text (n + 1) 0 (omega arith))
    ∙ ap (λ k. get_or text n 0 ∷ get_or text (n + 1) 0 ∷ drop k text) (omega arith)
    ∙ ap (λ l. get_or text n 0 ∷ get_or text (n + 1) 0 ∷ l) (drop_more text (n + 2) 0 (omega arith))
    ∙ ap (λ k. get_or text n 0 ∷ get_or text (n + 1) 0 ∷ get_or text (n + 2) 0 ∷ drop k text) (omega arith)
    )

-- A character of three bytes is read from them.
three_of : (text front rest : List ℕ) (n x : ℕ) → 0x800 ≤ x → x < 0x10000 → length front ≡ n → text ≡ front ++ (encode x ++ rest) → ThreeAt text n x
three_of text front rest n x l h long e =
    let is : text ≡ front ++ ((0xE0 + x / 0x1000) ∷ (0x80 + x / 0x40 % 0x40) ∷ (0x80 + x % 0x40) ∷ rest) = e ∙ ap (λ t. front ++ (t ++ rest)) (encode_3 x l h) in
    let at : (k : ℕ) → get_or text (n + k) 0 ≡ get_or ((0xE0 + x / 0x1000) ∷ (0x80 + x / 0x40 % 0x40) ∷ (0x80 + x % 0x40) ∷ rest) k 0 =
    λ k. ap (λ t. get_or t (n + k) 0) is ∙ ap (λ m. get_or (front ++ ((0xE0 + x / 0x1000) ∷ (0x80 + x / 0x40 % 0x40) ∷ (0x80 + x % 0x40) ∷ rest)) (m + k) 0) (sym long)
    ∙ get_or-append-add front ((0xE0 + x / 0x1000) ∷ (0x80 + x / 0x40 % 0x40) ∷ (0x80 + x % 0x40) ∷ rest) k 0
    in
    (l, h, ap (λ k. get_or text k 0) (omega arith) ∙ at 0, at 1, at 2)

-- And what is read from three bytes stands there.
of_three : (text : List ℕ) (n x : ℕ) → n + 3 ≤ length text → ThreeAt text n x → text ≡ take n text ++ (encode x ++ drop (n + 3) text)
of_three text n x h k =
    let same : get_or text n 0 ∷ get_or text (n + 1) 0 ∷ get_or text (n + 2) 0 ∷ [] ≡ encode x = cc (k.2, k.3, k.4, encode_3 x k.0 k.1) in
    from_three text n h ∙ ap (λ l. take n text ++ (l ++ drop (n + 3) text)) same

-- The last three bytes, counted from the end.
abbrev pub LastThree : List ℕ → ℕ → Type 0
LastThree text x = Three (get_or text (length text - 3) 0) (get_or text (length text - 2) 0) (get_or text (length text - 1) 0) x

last_three : (text : List ℕ) (x : ℕ) → 3 ≤ length text → (ThreeAt text (length text - 3) x → LastThree text x) × (LastThree text x → ThreeAt text (length text - 3) x)
last_three text x long =
    let second : length text - 3 + 1 ≡ length text - 2 = omega arith in
    let third : length text - 3 + 2 ≡ length text - 1 = omega arith in
    let middle : get_or text (length text - 3 + 1) 0 ≡ get_or text (length text - 2) 0 = ap (λ k. get_or text k 0) second in
    let last : get_or text (length text - 3 + 2) 0 ≡ get_or text (length text - 1) 0 = ap (λ k. get_or text k 0) third in (
      λ k. (k.0, k.1, k.2, sym middle ∙ k.3, sym last ∙ k.4),
      λ k. (k.0, k.1, k.2, middle ∙ k.3, last ∙ k.4),
    )

-- ---- what the calls answer

pub first_short : (text us : List ℕ) → Stores text us → length text < 3 → first_trailing us ≡ None
first_short text us s h =
    first_none text us s
    (λ x rest t e.
    let r = trailing_range x t in
    omega (arith, ap length e, length-append (encode x) rest, ap length (encode_3 x (omega arith) (omega arith))))

pub first_unread : (text us : List ℕ) → Stores text us → ((x : ℕ) → ThreeAt text 0 x → ⊥) → first_trailing us ≡ None
first_unread text us s bad =
    first_none text us s
    (λ x rest t e. let r = trailing_range x t in bad x (three_of text [] rest 0 x (omega arith) (omega arith) refl e))

pub first_read : (text us : List ℕ) (x : ℕ) (o : Option ℕ) → Stores text us → 3 ≤ length text → ThreeAt text 0 x
    → MatchOption o (trailing x ≡ false) (λ l. (l ≡ x) × (trailing x ≡ true)) → o ≡ first_trailing us
first_read text us x o s long k found = answer o found ∙ sym (first_is text us x s k.0 k.1 front)
  where
    wide : length (encode x) ≡ 3
    wide = ap length (encode_3 x k.0 k.1)

    front : text ≡ encode x ++ drop (length (encode x)) text
    front = of_three text 0 x (omega arith) k ∙ ap (λ n. encode x ++ drop n text) (sym wide)

    answer : (o : Option ℕ) → MatchOption o (trailing x ≡ false) (λ l. (l ≡ x) × (trailing x ≡ true)) → o ≡ cond (trailing x) (Some x) None
    answer None f = sym (cond-false (trailing x) _ _ f)
    answer (Some l) f = ap Some f.0 ∙ sym (cond-true (trailing x) _ _ f.1)

pub last_short : (text us : List ℕ) → Stores text us → length text < 3 → last_leading us ≡ None
last_short text us s h =
    last_none text us s
    (λ x front t e.
    let r = leading_range x t in
    omega (arith, ap length e, length-append front (encode x), ap length (encode_3 x (omega arith) (omega arith))))

pub last_unread : (text us : List ℕ) → Stores text us → 3 ≤ length text → ((x : ℕ) → LastThree text x → ⊥) → last_leading us ≡ None
last_unread text us s many bad =
    last_none text us s
    (λ x front t e.
    let r = leading_range x t in
    let long : length front ≡ length text - 3 = omega (arith, ap length e, length-append front (encode x), ap length (encode_3 x (omega arith) (omega arith))) in
    bad x ((last_three text x many).0 (three_of text front [] (length text - 3) x (omega arith) (omega arith) long (e ∙ ap (λ l. front ++ l) (sym (append-nil (encode x)))))))

pub last_read : (text us : List ℕ) (x : ℕ) (o : Option ℕ) → Stores text us → 3 ≤ length text → LastThree text x
    → MatchOption o (leading x ≡ false) (λ h. (h ≡ x) × (leading x ≡ true)) → o ≡ last_leading us
last_read text us x o s long k found = answer o found ∙ sym (last_is text us (take n text) x s k.0 k.1 back)
  where
    n : ℕ
    n = length text - 3

    back : text ≡ take n text ++ encode x
    back =
        of_three text n x (omega arith) ((last_three text x long).1 k)
        ∙ ap (λ l. take n text ++ (encode x ++ l)) (drop_all (n + 3) text (omega arith))
        ∙ ap (λ l. take n text ++ l) (append-nil (encode x))

    answer : (o : Option ℕ) → MatchOption o (leading x ≡ false) (λ h. (h ≡ x) × (leading x ≡ true)) → o ≡ cond (leading x) (Some x) None
    answer None f = sym (cond-false (leading x) _ _ f)
    answer (Some h) f = ap Some f.0 ∙ sym (cond-true (leading x) _ _ f.1)
