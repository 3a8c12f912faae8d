-- The part at the front of raw text.
use Rattle.std.proofs.Common.{◌≡◌, ℕ, true, false, eqb, List, [], ◌∷◌, ◌++◌, length, get_or, drop, Some, None, sym, refl, ap, ◌∙◌, subst, arith, lit<}
use lib.Utf8.{scalar, encode, encodes, low_scalar}
use Rattle.std.proofs.lemmas.Bool.{cond-true, ne_eqb, eqb-true}
use Rattle.std.proofs.lemmas.Bool.Decides.{nat_tests}
use Rattle.std.proofs.lemmas.List.{append-nil, append_assoc, append_cancel_right, drop_at}
use Rattle.std.proofs.lemmas.Str.{byte_from_char, char_from_byte}
use Rattle.template.specs.Grammar.{TemplateCharacter, dollar, escape, continuation, line_end, other, Escape, single, non_escape, null, hex, hex4, code_point, LineEnd, lf, cr, ls, ps, crlf, source, sources, line_source, escape_source, escape_allowed, Allowed, AllAllowed, starts}
use Rattle.template.specs.Raw.{part_bytes, Holds, Reads}
use Rattle.template.specs.Fronts.{Unreadable, Frontless, Fronts, EndsLine, PlainAt, Parts}
use Rattle.template.specs.declared.raw.RawPart.{RawPart}
use Rattle.template.proofs.Fronting.{frontless, unparted}
use Rattle.template.proofs.Backslashes.{slash}

-- Template characters that may stand before the rest make a part.
pub parted : (part : RawPart) (raw rest : List ℕ) (ts : List TemplateCharacter) → Holds part rest ts → raw ≡ encodes (sources ts) ++ rest → AllAllowed ts [] → AllAllowed ts rest → raw ≡ part_bytes part ++ rest → Parts raw (Some part)
parted part raw rest ts h e alone front b =
    let own = append_cancel_right (encodes (sources ts)) (part_bytes part) rest (sym e ∙ b) in
    let after : rest ≡ drop (length (part_bytes part)) raw = sym (ap (drop (length (part_bytes part))) b ∙ drop_at (part_bytes part) rest (length (part_bytes part)) refl) in
    subst (Reads part raw) after (ts, h, (alone, own), b, front)

-- One template character does.
pub parted_one : (part : RawPart) (raw rest : List ℕ) (t : TemplateCharacter) → Holds part rest (t ∷ []) → Fronts raw t rest → raw ≡ part_bytes part ++ rest → Parts raw (Some part)
parted_one part raw rest t h f b =
    parted part raw rest (t ∷ []) h (f.0 ∙ ap (λ cs. encodes cs ++ rest) (sym (append-nil (source t)))) (f.1, tt) (f.2, tt) b

-- A backslash and a character.
pub slash_split : (raw after rest : List ℕ) (c : ℕ) → raw ≡ 0x5C ∷ after → after ≡ encode c ++ rest → raw ≡ 0x5C ∷ (encode c ++ rest)
slash_split raw after rest c h e = h ∙ ap (λ xs. 0x5C ∷ xs) e

-- A line end behind a backslash is a line continuation.
pub line_front : (raw rest more : List ℕ) (c : ℕ) → raw ≡ 0x5C ∷ (encode c ++ rest) → (l : EndsLine c rest more) → Fronts raw (continuation l.0) more
line_front raw rest more c e l = (e ∙ ap (λ xs. 0x5C ∷ xs) l.1 ∙ slash (line_source l.0) more, l.2, l.3)

-- The text begins with a character.
abbrev Begins : List ℕ → Type 0
Begins cs = (c : ℕ) × (ds : List ℕ) × (cs ≡ c ∷ ds) × (scalar c ≡ true)

-- So does a template character, and what stands in it behind a backslash.
line_begins : (l : LineEnd) → Begins (line_source l)
line_begins lf = (0x0A, [], refl, refl)
line_begins cr = (0x0D, [], refl, refl)
line_begins ls = (0x2028, [], refl, refl)
line_begins ps = (0x2029, [], refl, refl)
line_begins crlf = (0x0D, 0x0A ∷ [], refl, refl)

escape_begins : (e : Escape) (rest : List ℕ) → escape_allowed e rest → Begins (escape_source e)
escape_begins (single c) rest h = (c, [], refl, low_scalar c (grind (arith, nat_tests)))
escape_begins (non_escape c) rest h = (c, [], refl, h.0)
escape_begins null rest h = (0x30, [], refl, refl)
escape_begins (hex a b) rest h = (0x78, a ∷ b ∷ [], refl, refl)
escape_begins (hex4 a b c d) rest h = (0x75, a ∷ b ∷ c ∷ d ∷ [], refl, refl)
escape_begins (code_point ds) rest h = (0x75, 0x7B ∷ (ds ++ 0x7D ∷ []), refl, refl)

source_begins : (t : TemplateCharacter) (rest : List ℕ) → Allowed t rest → Begins (source t)
source_begins dollar rest h = (0x24, [], refl, refl)
source_begins (escape e) rest h = (0x5C, escape_source e, refl, refl)
source_begins (continuation l) rest h = (0x5C, line_source l, refl, refl)
source_begins (line_end l) rest h = line_begins l
source_begins (other c) rest h = (c, [], refl, h.0)

-- Such a text does not begin where no character does.
no_begin : (bytes cs rest : List ℕ) → Unreadable bytes → Begins cs → encodes cs ++ rest ≡ bytes → ⊥
no_begin bytes cs rest bad b e =
    bad b.0 (encodes b.1 ++ rest) b.3 (sym e ∙ ap (λ xs. encodes xs ++ rest) b.2 ∙ append_assoc (encode b.0) (encodes b.1) rest)

-- So no template character does behind a backslash.
pub slash_unread : (after : List ℕ) → Unreadable after → Frontless (0x5C ∷ after)
unfolding encode
slash_unread after bad dollar rest a e = omega (arith, ap (λ xs. get_or xs 0 0) e)
slash_unread after bad (escape x) rest a e = no_begin after (escape_source x) rest bad (escape_begins x rest a) (ap (drop 1) e)
slash_unread after bad (continuation l) rest a e = no_begin after (line_source l) rest bad (line_begins l) (ap (drop 1) e)
slash_unread after bad (line_end lf) rest a e = omega (arith, ap (λ xs. get_or xs 0 0) e)
slash_unread after bad (line_end cr) rest a e = omega (arith, ap (λ xs. get_or xs 0 0) e)
slash_unread after bad (line_end ls) rest a e = omega (arith, ap (λ xs. get_or xs 0 0) e)
slash_unread after bad (line_end ps) rest a e = omega (arith, ap (λ xs. get_or xs 0 0) e)
slash_unread after bad (line_end crlf) rest a e = omega (arith, ap (λ xs. get_or xs 0 0) e)
slash_unread after bad (other c) rest a e =
    let same = char_from_byte (0x5C ∷ after) rest c (sym e ∙ ap (λ xs. xs ++ rest) (append-nil (encode c))) (lit< tt) (omega arith) in
    let no = a.1 in
    grind (arith, nat_tests)

-- Where nothing stands at a backslash, there is no part.
pub slash_none : (raw after : List ℕ) → raw ≡ 0x5C ∷ after → Frontless (0x5C ∷ after) → Parts raw None
slash_none raw after e bad = unparted raw (omega (arith, ap length e)) (subst Frontless (sym e) bad)

-- A backtick begins nothing.
pub tick_frontless : (bytes rest : List ℕ) → bytes ≡ encode 0x60 ++ rest → Frontless bytes
unfolding encode
tick_frontless bytes rest b = subst Frontless (sym b) (frontless (0x60 ∷ rest) (lit< tt, λ e. absurd (omega arith)) refl)

-- Nor does $ before {.
pub dollar_frontless : (bytes rest : List ℕ) → bytes ≡ encode 0x24 ++ rest → starts (λ c. eqb c 0x7B) rest ≡ true → Frontless bytes
unfolding encode
dollar_frontless bytes rest b h = subst Frontless (sym b) (frontless (0x24 ∷ rest) (lit< tt, λ e. absurd (omega arith)) (cond-true (starts (λ c. eqb c 0x7B) rest) None _ h))

-- Any other character that is no backslash is plain.
pub plain_at : (bytes rest : List ℕ) (c : ℕ) → scalar c ≡ true → bytes ≡ encode c ++ rest → (get_or bytes 0 0 ≡ 0x5C → ⊥) → (c ≡ 0x60 → ⊥) → (c ≡ 0x24 → starts (λ b. eqb b 0x7B) rest ≡ false) → PlainAt bytes rest
plain_at bytes rest c s b no_slash tick sole = (
  c,
  s,
  ne_eqb c 0x60 tick,
  ne_eqb c 0x5C (λ e. no_slash (byte_from_char bytes rest c b (omega arith) ∙ e)),
  λ e. sole (eqb-true c 0x24 e),
  b,
)
