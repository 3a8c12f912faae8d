-- How long a text is in stored form and as raw text.
use Rattle.std.proofs.Common.{◌≡◌, ℕ, ◌+◌, ◌-◌, ◌*◌, ◌/◌, ◌%◌, ◌^◌, ◌<◌, ◌≤◌, min, Bool, true, false, cond, ◌&&◌, not, eqb, ◌⊎◌, List, [], ◌∷◌, ◌++◌, length, sym, refl, ap, ◌∙◌, subst, ap₂, inl, inr, arith, length-append, MatchBool, is_some, ◌≢◌, Option}
use lib.Utf8.{encode, encodes}
use Rattle.std.specs.Char.{digit_char}
use Rattle.std.proofs.lemmas.Bool.{cases_Bool, and_parts, and_right, both_ways, eqb-true}
use Rattle.std.proofs.lemmas.Bool.Decides.{nat_tests}
use Rattle.std.proofs.lemmas.List.{append-nil}
use Rattle.std.proofs.lemmas.Str.{encode_ascii, encodes-append, length-le-encodes}
use Rattle.text.specs.Utf16.{leading, trailing, paired, points}
use Rattle.text.specs.Points.{ends, last_leading, first_trailing}
use Rattle.text.specs.Laws.{begins_trailing}
use Rattle.text.specs.Stored.{stored, Stores}
use Rattle.text.proofs.Borders.{last_cases, some_first, some_last}
use Rattle.text.proofs.Pairing.{leading_range, trailing_range, not_leading_above, not_trailing_below, before_plain}
use Rattle.text.proofs.Rejoin.{some_point, points_append, points_pair}
use Rattle.text.proofs.Widths.{encode_3, encode_4}
use Rattle.template.specs.Escaped.{four_digits, escaped, escapes, raw_of}
use Rattle.template.specs.Extent.{Measures}
use Rattle.template.specs.Output.{Fills}
use Rattle.template.specs.Sinks.{Adds}
use Rattle.template.specs.declared.extent.Extent.{Extent}
use Rattle.template.specs.declared.output.Output.{Output}
use Rattle.template.proofs.Escapes.{Form, Mark, marked, return, lone, itself, form_of, surrogate_escaped, itself_above}
use Rattle.template.proofs.EscapeWalk.{escapes_append}
use Rattle.template.proofs.Filling.{fills_all}

-- ---- one code point

digit_low : (d : ℕ) → d < 16 → digit_char d < 0x80
digit_low d h = grind (arith, nat_tests)

-- How long ASCII in front is.
ascii_front : (c : ℕ) (cs : List ℕ) → c < 0x80 → length (encodes (c ∷ cs)) ≡ length (encodes cs) + 1
ascii_front c cs h = omega (arith, length-append (encode c) (encodes cs), ap length (encode_ascii c h))

one_long : (c : ℕ) → length (encodes (c ∷ [])) ≡ length (encode c)
one_long c = ap length (append-nil (encode c))

ascii_one : (c : ℕ) → c < 0x80 → length (encode c) ≡ 1
ascii_one c h = ap length (encode_ascii c h)

-- The escape of a surrogate has six bytes.
six : (c : ℕ) → c < 0x10000 → length (encodes (0x5C ∷ 0x75 ∷ four_digits c)) ≡ 6
six c h =
    let a = c / 0x1000 in
    let b = c / 0x100 % 16 in
    let d = c / 16 % 16 in
    let e = c % 16 in
    let p = ascii_front (digit_char e) [] (digit_low e (omega arith)) in
    let q = ascii_front (digit_char d) (digit_char e ∷ []) (digit_low d (omega arith)) in
    let r = ascii_front (digit_char b) (digit_char d ∷ digit_char e ∷ []) (digit_low b (omega arith)) in
    let s = ascii_front (digit_char a) (digit_char b ∷ digit_char d ∷ digit_char e ∷ []) (digit_low a (omega arith)) in
    let t = ascii_front 0x75 (four_digits c) (omega arith) in
    let u = ascii_front 0x5C (0x75 ∷ four_digits c) (omega arith) in
    omega arith

two : (a b : ℕ) → a < 0x80 → b < 0x80 → length (encodes (a ∷ b ∷ [])) ≡ 2
two a b h k = omega (arith, ascii_front a (b ∷ []) h, ascii_front b [] k)

-- A code point and its escape: the same, or the escape is longer; and never more than twice as long.
record Widens (c : ℕ) : Type 0 where
  longer : (escaped c ≡ c ∷ []) ⊎ (length (encode c) < length (encodes (escaped c)))
  twice : length (encodes (escaped c)) ≤ 2 * length (encode c)

mark_low : (c : ℕ) → Mark c → c < 0x80
mark_low c (inl e) = omega arith
mark_low c (inr (inl e)) = omega arith
mark_low c (inr (inr e)) = omega arith

widens : (c : ℕ) → Widens c
widens c = go (form_of c)
  where
    go : Form c → Widens c
    go (marked m e) =
        let h = mark_low c m in
        let one = ascii_one c h in
        let long : length (encodes (escaped c)) ≡ 2 = ap (λ l. length (encodes l)) e ∙ two 0x5C c (omega arith) h in
        record { longer = inr (omega arith); twice = omega arith }
    go (return m e) =
        let one = ascii_one c (omega arith) in
        let long : length (encodes (escaped c)) ≡ 2 = ap (λ l. length (encodes l)) e ∙ two 0x5C 0x72 (omega arith) (omega arith) in
        record { longer = inr (omega arith); twice = omega arith }
    go (lone l h e) =
        let wide : length (encode c) ≡ 3 = ap length (encode_3 c (omega arith) (omega arith)) in
        let long : length (encodes (escaped c)) ≡ 6 = ap (λ l. length (encodes l)) e ∙ six c (omega arith) in
        record { longer = inr (omega arith); twice = omega arith }
    go (itself p e) =
        let long : length (encodes (escaped c)) ≡ length (encode c) = ap (λ l. length (encodes l)) e ∙ one_long c in
        record { longer = inl e; twice = omega arith }

-- ---- code points

-- How long code points are in stored form, and escaped.
abbrev plain_length : List ℕ → ℕ
plain_length cs = length (encodes cs)

abbrev escaped_length : List ℕ → ℕ
escaped_length cs = length (encodes (escapes cs))

plain_cons : (c : ℕ) (cs : List ℕ) → plain_length (c ∷ cs) ≡ length (encode c) + plain_length cs
plain_cons c cs = length-append (encode c) (encodes cs)

escaped_cons : (c : ℕ) (cs : List ℕ) → escaped_length (c ∷ cs) ≡ length (encodes (escaped c)) + escaped_length cs
escaped_cons c cs = ap length (encodes-append (escaped c) (escapes cs)) ∙ length-append (encodes (escaped c)) (encodes (escapes cs))

plain_append : (cs ds : List ℕ) → plain_length (cs ++ ds) ≡ plain_length cs + plain_length ds
plain_append cs ds = ap length (encodes-append cs ds) ∙ length-append (encodes cs) (encodes ds)

escaped_append : (cs ds : List ℕ) → escaped_length (cs ++ ds) ≡ escaped_length cs + escaped_length ds
escaped_append cs ds =
    ap (λ l. length (encodes l)) (escapes_append cs ds)
    ∙ ap length (encodes-append (escapes cs) (escapes ds))
    ∙ length-append (encodes (escapes cs)) (encodes (escapes ds))

no_shorter : (cs : List ℕ) → plain_length cs ≤ escaped_length cs
no_shorter [] = omega arith
no_shorter (c ∷ cs) =
    let w = widens c in
    let more = no_shorter cs in
    let p = plain_cons c cs in
    let q = escaped_cons c cs in
    elim w.longer [
      | inl e ↦ let same : length (encodes (escaped c)) ≡ length (encode c) = ap (λ l. length (encodes l)) e ∙ one_long c in omega arith
      | inr long ↦ omega arith
    ]

at_most_twice : (cs : List ℕ) → escaped_length cs ≤ 2 * plain_length cs
at_most_twice [] = omega arith
at_most_twice (c ∷ cs) =
    let w = widens c in
    let more = at_most_twice cs in
    let p = plain_cons c cs in
    let q = escaped_cons c cs in
    omega (arith, w.twice)

-- Escapes that are no longer are none.
no_escapes : (cs : List ℕ) → escaped_length cs ≡ plain_length cs → escapes cs ≡ cs
no_escapes [] e = refl
no_escapes (c ∷ cs) e =
    let w = widens c in
    let more = no_shorter cs in
    let p = plain_cons c cs in
    let q = escaped_cons c cs in
    elim w.longer [
      | inl own ↦
          let same : length (encodes (escaped c)) ≡ length (encode c) = ap (λ l. length (encodes l)) own ∙ one_long c in
          ap (λ l. l ++ escapes cs) own ∙ ap (λ l. c ∷ l) (no_escapes cs (omega arith))
      | inr long ↦ absurd (omega arith)
    ]

-- ---- texts

-- The raw text is that of the stored form exactly if it is as long.
pub escaped_where_longer : (e : Extent) (us : List ℕ) → Measures e us → MatchBool (not (eqb e.raw e.stored)) (raw_of us ≢ stored us) (raw_of us ≡ stored us)
escaped_where_longer e us m =
    elim (cases_Bool (eqb e.raw e.stored)) [
      | inl t ↦
          let same = eqb-true e.raw e.stored t in
          rw t (ap encodes (no_escapes (points us) (omega (arith, m.stored_length, m.raw_length))))
      | inr f ↦ rw f (λ is. both_ways (eqb e.raw e.stored) f (sure e.raw e.stored (m.raw_length ∙ ap length is ∙ sym m.stored_length)))
    ]
  where
    sure : (m n : ℕ) → m ≡ n → eqb m n ≡ true
    sure m n h = grind (arith, nat_tests)

-- Fewer than 2 ^ 63 bytes have a raw text whose length is counted.
pub raw_fits : (text us : List ℕ) → Stores text us → length text < 2 ^ 63 → length (raw_of us) < 2 ^ 64
raw_fits text us s h = omega (arith, at_most_twice (points us), ap length s.1)

-- The extent of a stored text, from what is counted and found of it.
pub measured : (text us : List ℕ) (none counted : Output) (n : ℕ) (first last : Option ℕ) (begins ending : Bool) → Stores text us → length text < 2 ^ 63
    → none.len ≡ 0 → Adds Fills none (raw_of us) counted → n ≡ counted.len
    → first ≡ first_trailing us → begins ≡ is_some first → last ≡ last_leading us → ending ≡ is_some last
    → Measures record { stored = length text; raw = n; begins_trailing = begins; ends_leading = ending } us
measured text us none counted n first last begins ending s small start adds count f b l e =
    let fills = fills_all none counted (raw_of us) adds in
    let short = raw_fits text us s small in
    record {
      stored_length = sym (ap length s.1);
      raw_length = omega (arith, fills.counted);
      how_it_begins = b ∙ ap is_some f ∙ some_first us;
      how_it_ends = e ∙ ap is_some l ∙ some_last us;
    }

-- ---- two texts

-- A text without bytes has no units.
no_units : (us : List ℕ) → length (stored us) ≡ 0 → us ≡ []
no_units [] e = refl
no_units (u ∷ us) e =
    let k = some_point u (points us) in
    absurd (omega (arith, length-le-encodes (points (u ∷ us)), ap length k.2))

pub nothing_before : (e f : Extent) (us vs : List ℕ) → Measures e us → Measures f vs → e.stored ≡ 0 → Measures f (us ++ vs)
nothing_before e f us vs m k none =
    let empty : us ≡ [] = no_units us (sym m.stored_length ∙ none) in
    subst (λ l. Measures f (l ++ vs)) (sym empty) k

pub nothing_behind : (e : Extent) (f : Extent) (us vs : List ℕ) → Measures e us → Measures f vs → f.stored ≡ 0 → Measures e (us ++ vs)
nothing_behind e f us vs m k none =
    let empty : vs ≡ [] = no_units vs (sym k.stored_length ∙ none) in
    subst (λ l. Measures e (us ++ l)) (sym empty) (subst (Measures e) (sym (append-nil us)) m)

-- How long both texts are together: the bytes of each, less those that a pair saves.
record Together (us vs : List ℕ) (stored_less raw_less : ℕ) : Type 0 where
  stored_both : length (stored (us ++ vs)) + stored_less ≡ length (stored us) + length (stored vs)
  raw_both : length (raw_of (us ++ vs)) + raw_less ≡ length (raw_of us) + length (raw_of vs)

apart : (us vs : List ℕ) → (ends false us && begins_trailing vs) ≡ false → Together us vs 0 0
apart us vs e =
    let both = points_append us vs e in
    let p : plain_length (points (us ++ vs)) ≡ length (stored us) + length (stored vs) = ap plain_length both ∙ plain_append (points us) (points vs) in
    let q : escaped_length (points (us ++ vs)) ≡ length (raw_of us) + length (raw_of vs) = ap escaped_length both ∙ escaped_append (points us) (points vs) in
    record { stored_both = omega arith; raw_both = omega arith }

surrogate_long : (c : ℕ) → 0xD800 ≤ c → c < 0xE000 → (length (encode c) ≡ 3) × (length (encodes (escaped c)) ≡ 6)
surrogate_long c l h = (ap length (encode_3 c (omega arith) (omega arith)), ap (λ t. length (encodes t)) (surrogate_escaped c l h) ∙ six c (omega arith))

pair_long : (c : ℕ) → 0x10000 ≤ c → (length (encode c) ≡ 4) × (length (encodes (escaped c)) ≡ 4)
pair_long c l =
    let wide : length (encode c) ≡ 4 = ap length (encode_4 c l) in
    (wide, ap (λ t. length (encodes t)) (itself_above c l) ∙ one_long c ∙ wide)

pair : (us vs : List ℕ) (h l : ℕ) → leading h ≡ true → trailing l ≡ true → Together (us ++ h ∷ []) (l ∷ vs) 2 8
pair us vs h l p q =
    let a = leading_range h p in
    let b = trailing_range l q in
    let x = paired h l in
    let high = surrogate_long h (omega arith) (omega arith) in
    let low = surrogate_long l (omega arith) (omega arith) in
    let whole = pair_long x (omega arith) in
    let before : points (us ++ h ∷ []) ≡ points us ++ h ∷ [] =
    points_append us (h ∷ []) (and_right (ends false us) (trailing h) (not_trailing_below h (omega arith)))
    in
    let after : points (l ∷ vs) ≡ l ∷ points vs = before_plain l (points vs) (not_leading_above l (omega arith)) in
    let both = points_pair us vs h l p q in
    let s = ap plain_length both ∙ plain_append (points us) (x ∷ points vs) in
    let t = ap escaped_length both ∙ escaped_append (points us) (x ∷ points vs) in
    let u = ap plain_length before ∙ plain_append (points us) (h ∷ []) in
    let v = ap escaped_length before ∙ escaped_append (points us) (h ∷ []) in
    let w = ap plain_length after in
    let z = ap escaped_length after in
    record {
      stored_both = omega (arith, s, u, w, plain_cons x (points vs), plain_cons h [], plain_cons l (points vs));
      raw_both = omega (arith, t, v, z, escaped_cons x (points vs), escaped_cons h [], escaped_cons l (points vs));
    }

pair_where_met : (us vs : List ℕ) → ends false us ≡ true → begins_trailing vs ≡ true → Together us vs 2 8
pair_where_met us [] e b = absurd (both_ways false refl b)
pair_where_met us (l ∷ vs) e b =
    elim (last_cases us) [
      | inl none ↦ absurd (both_ways (ends false us) (sym (some_last us) ∙ ap is_some none) e)
      | inr some ↦ subst (λ t. Together t (l ∷ vs) 2 8) (sym some.2) (pair some.0 vs some.1 l some.3 b)
    ]

-- What a pair that meets saves.
abbrev pub saved : Bool → ℕ × ℕ
saved meets = cond meets (2, 8) (0, 0)

together : (us vs : List ℕ) (meets : Bool) → meets ≡ (ends false us && begins_trailing vs) → Together us vs (saved meets).0 (saved meets).1
together us vs true e = let b = and_parts (ends false us) (begins_trailing vs) (sym e) in pair_where_met us vs b.0 b.1
together us vs false e = apart us vs (sym e)

pub raw_at_most_twice : (us : List ℕ) → length (raw_of us) ≤ 2 * length (stored us)
raw_at_most_twice us = at_most_twice (points us)

pub together_no_longer : (us vs : List ℕ) → length (stored (us ++ vs)) ≤ length (stored us) + length (stored vs)
together_no_longer us vs =
    let both = together us vs (ends false us && begins_trailing vs) refl in
    omega (arith, both.stored_both)

ends_more : (led : Bool) (us vs : List ℕ) (v : ℕ) → ends led (us ++ v ∷ vs) ≡ ends (leading v) vs
ends_more led [] vs v = refl
ends_more led (u ∷ us) vs v = ends_more (leading u) us vs v

begins_before : (us vs : List ℕ) → (length (stored us) ≡ 0 → ⊥) → begins_trailing (us ++ vs) ≡ begins_trailing us
begins_before [] vs some = absurd (some refl)
begins_before (u ∷ us) vs some = refl

ends_behind : (us vs : List ℕ) → (length (stored vs) ≡ 0 → ⊥) → ends false (us ++ vs) ≡ ends false vs
ends_behind us [] some = absurd (some refl)
ends_behind us (v ∷ vs) some = ends_more false us vs v

-- The extent of two texts that are not empty, from what is computed.
pub followed : (e f : Extent) (us vs : List ℕ) (meets : Bool) (less : ℕ × ℕ) (stored_both raw_both : ℕ) → Measures e us → Measures f vs
    → (e.stored ≡ 0 → ⊥) → (f.stored ≡ 0 → ⊥) → length (raw_of us) + length (raw_of vs) < 2 ^ 64
    → meets ≡ (e.ends_leading && f.begins_trailing) → less ≡ saved meets
    → stored_both ≡ min (e.stored + f.stored) (2 ^ 64 - 1) - less.0 → raw_both ≡ min (e.raw + f.raw) (2 ^ 64 - 1) - less.1
    → Measures record { stored = stored_both; raw = raw_both; begins_trailing = e.begins_trailing; ends_leading = f.ends_leading } (us ++ vs)
followed e f us vs meets less stored_both raw_both m k some more fits met saves s r =
    let both = together us vs meets (met ∙ ap₂ (λ (a b : Bool). a && b) m.how_it_ends k.how_it_begins) in
    let p : less.0 ≡ (saved meets).0 = ap (λ (t : ℕ × ℕ). t.0) saves in
    let q : less.1 ≡ (saved meets).1 = ap (λ (t : ℕ × ℕ). t.1) saves in
    let shorter = no_shorter (points us) in
    let shorter' = no_shorter (points vs) in
    record {
      stored_length = omega (arith, both.stored_both, m.stored_length, k.stored_length, m.raw_length, k.raw_length);
      raw_length = omega (arith, both.raw_both, m.raw_length, k.raw_length);
      how_it_begins = m.how_it_begins ∙ sym (begins_before us vs (λ z. some (m.stored_length ∙ z)));
      how_it_ends = k.how_it_ends ∙ sym (ends_behind us vs (λ z. more (k.stored_length ∙ z)));
    }
