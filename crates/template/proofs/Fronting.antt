-- The front of raw text: its first byte, its first character and its first template character.
use Rattle.std.proofs.Common.{◌≡◌, ℕ, ◌-◌, ◌<◌, Bool, true, false, List, [], ◌∷◌, ◌++◌, length, get_or, take, drop, None, sym, refl, ap, ◌∙◌, subst, arith}
use lib.Utf8.{encode, encodes}
use Rattle.std.proofs.lemmas.List.{append-nil, append_assoc, drop_more, take_rest}
use Rattle.std.proofs.lemmas.Str.{char_from_byte, encode_ascii, encodes-append}
use Rattle.template.specs.Grammar.{TemplateCharacter, dollar, escape, continuation, line_end, other, Escape, single, non_escape, null, hex, hex4, code_point, LineEnd, lf, cr, ls, ps, crlf, source, sources, line_source, escape_source, escape_allowed, Allowed, AllAllowed, starts}
use Rattle.template.specs.Cooked.{WellFormed}
use Rattle.template.specs.Raw.{Holds, Reads}
use Rattle.template.specs.Fronts.{Frontless, Parts}
use Rattle.template.specs.declared.raw.RawPart.{RawPart}
use Rattle.template.specs.declared.raw.RawPart.TheVariants.{Plain, Escaped, Continuation}
use Rattle.template.proofs.First.{first, first_found}
use Rattle.template.proofs.Alike.{encode_some, alike, allowed_alike}
use Rattle.template.proofs.Hex.{hex_encodes, hex_front}

-- An ASCII character is its own byte.
char_own : (c : ℕ) (rest : List ℕ) → get_or (encodes (c ∷ []) ++ rest) 0 0 < 128 → encodes (c ∷ []) ≡ c ∷ []
char_own c rest low =
    let bytes = ap (λ xs. xs ++ rest) (append-nil (encode c)) in
    let some : 0 < length (encodes (c ∷ []) ++ rest) = subst (λ xs. 0 < length xs) (sym bytes) (encode_some c rest) in
    let same = char_from_byte (encodes (c ∷ []) ++ rest) rest c bytes low some in
    append-nil (encode c) ∙ encode_ascii c (omega arith)

-- So are an escape and a line end that begin with one.
escape_own : (e : Escape) (rest : List ℕ) → escape_allowed e rest → get_or (encodes (escape_source e) ++ rest) 0 0 < 128 → encodes (escape_source e) ≡ escape_source e
unfolding encode
escape_own (single c) rest h low = char_own c rest low
escape_own (non_escape c) rest h low = char_own c rest low
escape_own null rest h low = refl
escape_own (hex a b) rest h low = ap (λ xs. 0x78 ∷ xs) (hex_encodes (a ∷ b ∷ []) h)
escape_own (hex4 a b c d) rest h low = ap (λ xs. 0x75 ∷ xs) (hex_encodes (a ∷ b ∷ c ∷ d ∷ []) h)
escape_own (code_point ds) rest h low = ap (λ xs. 0x75 ∷ 0x7B ∷ xs) (hex_front ds (0x7D ∷ []) h.0)

line_own : (l : LineEnd) (rest : List ℕ) → get_or (encodes (line_source l) ++ rest) 0 0 < 128 → encodes (line_source l) ≡ line_source l
unfolding encode
line_own lf rest low = refl
line_own cr rest low = refl
line_own ls rest low = absurd (omega arith)
line_own ps rest low = absurd (omega arith)
line_own crlf rest low = refl

-- The first byte is ASCII, and so is the one behind a backslash.
abbrev pub Low : List ℕ → Type 0
Low raw = (get_or raw 0 0 < 128) × (get_or raw 0 0 ≡ 0x5C → get_or raw 1 0 < 128)

-- A template character at the front of such bytes is its own bytes.
source_own : (t : TemplateCharacter) (rest : List ℕ) → Allowed t rest → Low (encodes (source t) ++ rest) → encodes (source t) ≡ source t
unfolding encode
source_own dollar rest h low = refl
source_own (escape e) rest h low = ap (λ xs. 0x5C ∷ xs) (escape_own e rest h (low.1 refl))
source_own (continuation l) rest h low = ap (λ xs. 0x5C ∷ xs) (line_own l rest (low.1 refl))
source_own (line_end l) rest h low = line_own l rest low.0
source_own (other c) rest h low = char_own c rest low.0

-- Where `first` finds nothing in such bytes, there is nothing.
pub frontless : (raw : List ℕ) → Low raw → first raw ≡ None → Frontless raw
frontless raw low none t rest a e =
    let found = first_found t rest a in
    let own = source_own t rest a (subst Low (sym e) low) in
    let z : ◌≡◌ {A = ℕ} 0 1 = cc in
    omega arith

-- Where nothing stands at the front, no reading begins.
pub unbegun : (raw : List ℕ) → Frontless raw → (ts : List TemplateCharacter) (rest : List ℕ) → 0 < length ts → AllAllowed ts rest → encodes (sources ts) ++ rest ≡ raw → ⊥
unbegun raw bad [] rest l a e = omega arith
unbegun raw bad (t ∷ ts) rest l a e =
    bad t (encodes (sources ts) ++ rest) (allowed_alike t (sources ts ++ rest) (encodes (sources ts) ++ rest) (alike (sources ts) rest) a.0)
    (sym (append_assoc (encodes (source t)) (encodes (sources ts)) rest) ∙ ap (λ xs. xs ++ rest) (sym (encodes-append (source t) (sources ts))) ∙ e)

-- Then the bytes are malformed.
pub malformed : (raw : List ℕ) → 0 < length raw → Frontless raw → WellFormed raw → ⊥
malformed raw some bad good = unbegun raw bad good.0 [] (go good.0 good.1.1) good.1.0 (append-nil (encodes (sources good.0)) ∙ good.1.1)
  where
    go : (ts : List TemplateCharacter) → encodes (sources ts) ≡ raw → 0 < length ts
    go [] e = absurd (omega (arith, ap length e))
    go (t ∷ ts) e = omega arith

-- A part has template characters.
pub holds_some : (part : RawPart) (rest : List ℕ) (ts : List TemplateCharacter) → Holds part rest ts → 0 < length ts
holds_some (Plain bytes) rest ts h = h.1
holds_some (Escaped bytes code) rest ts h = omega (arith, ap length h.1)
holds_some (Continuation bytes) rest ts h = omega (arith, ap length h.1)

-- A part stands at the front by its template characters.
pub part_source : (part : RawPart) (raw rest : List ℕ) (r : Reads part raw rest) → encodes (sources r.0) ++ rest ≡ raw
part_source part raw rest r = ap (λ xs. xs ++ rest) r.2.1 ∙ sym r.3

-- Where nothing stands at the front, there is no part.
pub unparted : (raw : List ℕ) → 0 < length raw → Frontless raw → Parts raw None
unparted raw some bad = (malformed raw some bad, λ part rest r. unbegun raw bad r.0 rest (holds_some part rest r.0 r.1) r.4 (part_source part raw rest r))

-- The test of a first byte.
pub starts_true : (p : ℕ → Bool) (bytes : List ℕ) → 0 < length bytes → p (get_or bytes 0 0) ≡ true → starts p bytes ≡ true
starts_true p [] l h = absurd (omega arith)
starts_true p (b ∷ bytes) l h = h

pub starts_false : (p : ℕ → Bool) (bytes : List ℕ) → (0 < length bytes → p (get_or bytes 0 0) ≡ false) → starts p bytes ≡ false
starts_false p [] h = refl
starts_false p (b ∷ bytes) h = h (omega arith)

-- The first byte and the rest, as the pattern [b, rest @ ..] has them.
pub first_rest : (bytes : List ℕ) (b : ℕ) → 0 < length bytes → get_or bytes 0 0 ≡ b → bytes ≡ b ∷ take (length bytes - 1) (drop 1 bytes)
first_rest bytes b l e = drop_more bytes 0 0 l ∙ ap (λ x. x ∷ drop 1 bytes) e ∙ ap (λ xs. b ∷ xs) (sym (take_rest bytes 1))
