-- How long a cooked text is beside its raw text. Assumes nothing.
use Rattle.std.proofs.Common.{◌≡◌, ℕ, ◌*◌, ◌≤◌, false, List, [], ◌∷◌, ◌++◌, length, sym, refl, ap, ◌∙◌, arith, length-append}
use lib.Utf8.{encode, encodes}
use Rattle.std.proofs.lemmas.List.{append-nil}
use Rattle.std.proofs.lemmas.Str.{encode_ascii, encodes-append}
use Rattle.text.specs.Utf16.{utf16}
use Rattle.text.specs.Stored.{stored}
use Rattle.text.proofs.Pairing.{points_units}
use Rattle.text.proofs.Widths.{Width, w1, w2, w3, w4, width_of}
use Rattle.template.specs.Cooked.{Cooks}
use Rattle.template.specs.Grammar.{LineEnd, lf, cr, ls, ps, crlf, line_source, line_value, TemplateCharacter, dollar, escape, continuation, line_end, other, escape_code, source, sources, value, values, Allowed, AllAllowed}
use Rattle.template.proofs.EscapeValues.{escape_small, escape_long}
use Rattle.template.proofs.Extents.{together_no_longer}
use Rattle.template.proofs.Plains.{scalar_quiet}

-- ---- one code point

four_at_most : (c : ℕ) → length (encode c) ≤ 4
four_at_most c = go (width_of c)
  where
    go : Width c → length (encode c) ≤ 4
    go (w1 a e) = omega (arith, ap length e)
    go (w2 a b e) = omega (arith, ap length e)
    go (w3 a b e) = omega (arith, ap length e)
    go (w4 a e) = omega (arith, ap length e)

-- Its units are stored as the code point itself.
stored_one : (c : ℕ) → c ≤ 0x10FFFF → length (stored (utf16 c)) ≡ length (encode c)
stored_one c h =
    ap (λ l. length (stored l)) (sym (append-nil (utf16 c)))
    ∙ ap (λ l. length (encodes l)) (points_units false (c ∷ []) (h, refl, tt))
    ∙ ap length (append-nil (encode c))

one_long : (c : ℕ) → length (encodes (c ∷ [])) ≡ length (encode c)
one_long c = ap length (append-nil (encode c))

-- ---- one template character

-- No line end becomes longer.
line_short : (l : LineEnd) → length (stored (line_value l)) ≤ length (encodes (line_source l))
line_short lf = omega arith
line_short cr = omega (arith, one_long 0x0A, one_long 0x0D, ap length (encode_ascii 0x0A (omega arith)), ap length (encode_ascii 0x0D (omega arith)))
line_short ls = omega arith
line_short ps = omega arith
line_short crlf = omega (arith, length-append (encode 0x0D) (encodes (0x0A ∷ [])))

value_short : (t : TemplateCharacter) (rest : List ℕ) → Allowed t rest → length (stored (value t)) ≤ 2 * length (encodes (source t))
value_short dollar rest a = omega arith
value_short (escape e) rest a = omega (arith, stored_one (escape_code e) (escape_small e rest a), four_at_most (escape_code e), escape_long e)
value_short (continuation l) rest a = omega arith
value_short (line_end l) rest a = omega (arith, line_short l)
value_short (other c) rest a = omega (arith, stored_one c (scalar_quiet c a.0).2, one_long c)

-- ---- template characters

values_short : (ts : List TemplateCharacter) (rest : List ℕ) → AllAllowed ts rest → length (stored (values ts)) ≤ 2 * length (encodes (sources ts))
values_short [] rest a = omega arith
values_short (t ∷ ts) rest a =
    let first = value_short t (sources ts ++ rest) a.0 in
    let more = values_short ts rest a.1 in
    let whole = ap length (encodes-append (source t) (sources ts)) ∙ length-append (encodes (source t)) (encodes (sources ts)) in
    omega (arith, together_no_longer (value t) (values ts))

-- No raw text cooks to more than twice as many bytes.
pub cooked_at_most_twice : (raw us : List ℕ) → Cooks raw us → length (stored us) ≤ 2 * length raw
cooked_at_most_twice raw us c = omega (arith, values_short c.0 [] c.1.0, ap length c.1.1, ap (λ l. length (stored l)) c.2)
