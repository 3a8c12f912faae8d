-- Units and code points determine each other.
use Rattle.std.proofs.Common.{◌≡◌, ℕ, ◌+◌, ◌-◌, ◌/◌, ◌%◌, ◌<◌, ◌≤◌, Bool, true, false, ◌&&◌, ltb, leb, ◌⊎◌, List, [], ◌∷◌, ◌++◌, sym, refl, ap, ◌∙◌, subst, inl, inr, ⊎_elim, append_assoc, arith}
use lib.Utf8.{encode, encodes}
use Rattle.std.proofs.lemmas.Bool.{cond-true, cond-false, cases_Bool, cases_lt, and_parts, and_from, and_left, and_right, leb-true, ltb-true, le-leb, lt-leb, lt-ltb, le-ltb}
use Rattle.std.proofs.lemmas.Str.{cons_from_encodes, encodes_same}
use Rattle.text.specs.Utf16.{Text, leading, trailing, paired, before, points, utf16, units}
use Rattle.text.specs.Stored.{Stores, Lawful}
use Rattle.text.specs.Points.{Canonical, ends}

-- ---- the surrogates' ranges

pub leading_range : (u : ℕ) → leading u ≡ true → (0xD800 ≤ u) × (u < 0xDC00)
leading_range u e = let h = and_parts (leb 0xD800 u) (ltb u 0xDC00) e in (leb-true 0xD800 u h.0, ltb-true u 0xDC00 h.1)

pub trailing_range : (u : ℕ) → trailing u ≡ true → (0xDC00 ≤ u) × (u < 0xE000)
trailing_range u e = let h = and_parts (leb 0xDC00 u) (ltb u 0xE000) e in (leb-true 0xDC00 u h.0, ltb-true u 0xE000 h.1)

pub is_leading : (u : ℕ) → 0xD800 ≤ u → u < 0xDC00 → leading u ≡ true
is_leading u a b = and_from (leb 0xD800 u) (ltb u 0xDC00) (le-leb 0xD800 u a) (lt-ltb u 0xDC00 b)

pub is_trailing : (u : ℕ) → 0xDC00 ≤ u → u < 0xE000 → trailing u ≡ true
is_trailing u a b = and_from (leb 0xDC00 u) (ltb u 0xE000) (le-leb 0xDC00 u a) (lt-ltb u 0xE000 b)

pub not_leading_below : (u : ℕ) → u < 0xD800 → leading u ≡ false
not_leading_below u h = and_left (leb 0xD800 u) (ltb u 0xDC00) (lt-leb 0xD800 u h)

pub not_leading_above : (u : ℕ) → 0xDC00 ≤ u → leading u ≡ false
not_leading_above u h = and_right (leb 0xD800 u) (ltb u 0xDC00) (le-ltb u 0xDC00 h)

pub not_trailing_below : (u : ℕ) → u < 0xDC00 → trailing u ≡ false
not_trailing_below u h = and_left (leb 0xDC00 u) (ltb u 0xE000) (lt-leb 0xDC00 u h)

pub not_trailing_above : (u : ℕ) → 0xE000 ≤ u → trailing u ≡ false
not_trailing_above u h = and_right (leb 0xDC00 u) (ltb u 0xE000) (le-ltb u 0xE000 h)

-- ---- one code point and its units

pub utf16_below : (c : ℕ) → c < 0x10000 → utf16 c ≡ c ∷ []
utf16_below c h = cond-true (ltb c 0x10000) _ _ (lt-ltb c 0x10000 h)

pub utf16_above : (c : ℕ) → 0x10000 ≤ c → utf16 c ≡ ((c - 0x10000) / 0x400 + 0xD800) ∷ ((c - 0x10000) % 0x400 + 0xDC00) ∷ []
utf16_above c h = cond-false (ltb c 0x10000) _ _ (le-ltb c 0x10000 h)

pub utf16_paired : (h l : ℕ) → leading h ≡ true → trailing l ≡ true → utf16 (paired h l) ≡ h ∷ l ∷ []
utf16_paired h l a b =
    let p = leading_range h a in
    let q = trailing_range l b in
    let high : (paired h l - 0x10000) / 0x400 + 0xD800 ≡ h = omega arith in
    let low : (paired h l - 0x10000) % 0x400 + 0xDC00 ≡ l = omega arith in
    utf16_above (paired h l) (omega arith) ∙ ap (λ x. x ∷ ((paired h l - 0x10000) % 0x400 + 0xDC00) ∷ []) high ∙ ap (λ x. h ∷ x ∷ []) low

-- ---- a unit in front of code points

pub before_plain : (u : ℕ) (cs : List ℕ) → leading u ≡ false → before u cs ≡ u ∷ cs
before_plain u [] e = refl
before_plain u (c ∷ cs) e = cond-false (leading u && trailing c) _ _ (and_left (leading u) (trailing c) e)

pub before_apart : (u : ℕ) (cs : List ℕ) → Canonical (leading u) cs → before u cs ≡ u ∷ cs
before_apart u [] k = refl
before_apart u (c ∷ cs) k = cond-false (leading u && trailing c) _ _ k.1

pub before_pair : (h l : ℕ) (cs : List ℕ) → leading h ≡ true → trailing l ≡ true → before h (l ∷ cs) ≡ paired h l ∷ cs
before_pair h l cs a b = cond-true (leading h && trailing l) _ _ (and_from (leading h) (trailing l) a b)

-- ---- the code points of the units of code points

points_of_one : (c : ℕ) (cs us : List ℕ) → c ≤ 0x10FFFF → Canonical (leading c) cs → points us ≡ cs → points (utf16 c ++ us) ≡ c ∷ cs
points_of_one c cs us h k e =
    ⊎_elim
    (λ small. ap (λ l. points (l ++ us)) (utf16_below c small) ∙ ap (before c) e ∙ before_apart c cs k)
    (λ large.
    let x : ℕ = (c - 0x10000) / 0x400 + 0xD800 in
    let y : ℕ = (c - 0x10000) % 0x400 + 0xDC00 in
    let lead : leading x ≡ true = is_leading x (omega arith) (omega arith) in
    let trail : trailing y ≡ true = is_trailing y (omega arith) (omega arith) in
    let same : paired x y ≡ c = omega arith in
    ap (λ l. points (l ++ us)) (utf16_above c large)
    ∙ ap (λ l. before x (before y l)) e
    ∙ ap (before x) (before_plain y cs (not_leading_above y (omega arith)))
    ∙ before_pair x y cs lead trail
    ∙ ap (λ d. d ∷ cs) same)
    (cases_lt c 0x10000)

pub points_units : (led : Bool) (cs : List ℕ) → Canonical led cs → points (units cs) ≡ cs
points_units led [] k = refl
points_units led (c ∷ cs) k = points_of_one c cs (units cs) k.0 k.2 (points_units (leading c) cs k.2)

pub text_append : (us vs : List ℕ) → Text us → Text vs → Text (us ++ vs)
text_append [] vs p q = q
text_append (u ∷ us) vs p q = (p.0, text_append us vs p.1 q)

text_one : (c : ℕ) → c ≤ 0x10FFFF → Text (utf16 c)
text_one c h =
    ⊎_elim
    (λ small. subst Text (sym (utf16_below c small)) (small, tt))
    (λ large. subst Text (sym (utf16_above c large)) (omega arith, (omega arith, tt)))
    (cases_lt c 0x10000)

pub text_units : (led : Bool) (cs : List ℕ) → Canonical led cs → Text (units cs)
text_units led [] k = tt
text_units led (c ∷ cs) k = text_append (utf16 c) (units cs) (text_one c k.0) (text_units (leading c) cs k.2)

-- ---- the units of the code points of units

pair_or_apart : (u c : ℕ) (cs : List ℕ) → ((leading u ≡ true) × (trailing c ≡ true) × (before u (c ∷ cs) ≡ paired u c ∷ cs)) ⊎ (((leading u && trailing c) ≡ false) × (before u (c ∷ cs) ≡ u ∷ c ∷ cs))
pair_or_apart u c cs =
    ⊎_elim
    (λ both. let p = and_parts (leading u) (trailing c) both in inl (p.0, p.1, before_pair u c cs p.0 p.1))
    (λ apart. inr (apart, cond-false (leading u && trailing c) _ _ apart))
    (cases_Bool (leading u && trailing c))

units_before : (u : ℕ) (cs : List ℕ) → u < 0x10000 → units (before u cs) ≡ u ∷ units cs
units_before u [] h = ap (λ l. l ++ []) (utf16_below u h)
units_before u (c ∷ cs) h =
    ⊎_elim
    (λ p.
    let q = trailing_range c p.1 in
    ap units p.2
    ∙ ap (λ l. l ++ units cs) (utf16_paired u c p.0 p.1)
    ∙ ap (λ l. u ∷ (l ++ units cs)) (sym (utf16_below c (omega arith))))
    (λ p. ap units p.1 ∙ ap (λ l. l ++ units (c ∷ cs)) (utf16_below u h))
    (pair_or_apart u c cs)

pub units_points : (us : List ℕ) → Text us → units (points us) ≡ us
units_points [] t = refl
units_points (u ∷ us) t = units_before u (points us) t.0 ∙ ap (λ l. u ∷ l) (units_points us t.1)

canonical_before : (u : ℕ) (cs : List ℕ) → u < 0x10000 → Canonical false cs → Canonical false (before u cs)
canonical_before u [] h k = (omega arith, refl, tt)
canonical_before u (c ∷ cs) h k =
    ⊎_elim
    (λ p.
    let a = leading_range u p.0 in
    let b = trailing_range c p.1 in
    let quiet : leading c ≡ leading (paired u c) = not_leading_above c (omega arith) ∙ sym (not_leading_above (paired u c) (omega arith)) in
    subst (Canonical false) (sym p.2) (omega arith, refl, subst (λ led. Canonical led cs) quiet k.2))
    (λ p. subst (Canonical false) (sym p.1) (omega arith, refl, (k.0, p.0, k.2)))
    (pair_or_apart u c cs)

pub canonical_points : (us : List ℕ) → Text us → Canonical false (points us)
canonical_points [] t = tt
canonical_points (u ∷ us) t = canonical_before u (points us) t.0 (canonical_points us t.1)

-- ---- the stored form

-- Canonical code points are the stored form of their units.
pub stores_units : (led : Bool) (cs : List ℕ) → Canonical led cs → Stores (encodes cs) (units cs)
stores_units led cs k = (text_units led cs k, ap encodes (points_units led cs k))

pub stores_points : (text cs : List ℕ) → Canonical false cs → encodes cs ≡ text → Stores text (units cs)
stores_points text cs k e = subst (λ l. Stores l (units cs)) e (stores_units false cs k)

-- A text has one stored form by definition, and the stored form one text.
pub stored_once : (bytes us vs : List ℕ) → Stores bytes us → Stores bytes vs → us ≡ vs
stored_once bytes us vs s t =
    sym (units_points us s.0) ∙ ap units (encodes_same (points us) (points vs) (s.1 ∙ sym t.1)) ∙ units_points vs t.0

-- ---- code points one behind the other

pub canonical_append : (led : Bool) (cs ds : List ℕ) → Canonical led cs → Canonical (ends led cs) ds → Canonical led (cs ++ ds)
canonical_append led [] ds k l = l
canonical_append led (c ∷ cs) ds k l = (k.0, k.1, canonical_append (leading c) cs ds k.2 l)

pub canonical_front : (led : Bool) (cs ds : List ℕ) → Canonical led (cs ++ ds) → Canonical led cs
canonical_front led [] ds k = tt
canonical_front led (c ∷ cs) ds k = (k.0, k.1, canonical_front (leading c) cs ds k.2)

pub canonical_back : (led : Bool) (cs ds : List ℕ) → Canonical led (cs ++ ds) → Canonical (ends led cs) ds
canonical_back led [] ds k = k
canonical_back led (c ∷ cs) ds k = canonical_back (leading c) cs ds k.2

pub ends_push : (led : Bool) (cs : List ℕ) (c : ℕ) → ends led (cs ++ c ∷ []) ≡ leading c
ends_push led [] c = refl
ends_push led (d ∷ cs) c = ends_push (leading d) cs c

pub units_append : (cs ds : List ℕ) → units (cs ++ ds) ≡ units cs ++ units ds
units_append [] ds = refl
units_append (c ∷ cs) ds = ap (λ l. utf16 c ++ l) (units_append cs ds) ∙ sym (append_assoc (utf16 c) (units cs) (units ds))

-- Bytes that begin with the stored form of ds are that of ds and more.
pub peel : (cs ds bytes : List ℕ) → encodes cs ≡ encodes ds ++ bytes → (es : List ℕ) × (cs ≡ ds ++ es) × (encodes es ≡ bytes)
peel cs [] bytes e = (cs, refl, e)
peel cs (d ∷ ds) bytes e =
    let k = cons_from_encodes cs (encodes ds ++ bytes) d (e ∙ append_assoc (encode d) (encodes ds) bytes) in
    let m = peel k.0 ds bytes k.2 in
    (m.0, k.1 ∙ ap (λ l. d ∷ l) m.1, m.2)

-- Where the front is read as `done` and the rest goes on with no text, the whole is no text.
pub unlawful_more : (done rest bytes : List ℕ) → encodes done ++ rest ≡ bytes → ((cs : List ℕ) → Canonical (ends false done) cs → encodes cs ≡ rest → ⊥) → Lawful bytes → ⊥
unlawful_more done rest bytes e bad l =
    let m = peel (points l.0) done rest (l.1.1 ∙ sym e) in
    bad m.0 (canonical_back false done m.0 (subst (Canonical false) m.1 (canonical_points l.0 l.1.0))) m.2
