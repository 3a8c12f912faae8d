-- The template character at the front of a list of code points: there is at most one.
use Rattle.std.proofs.Common.{◌≡◌, ℕ, Bool, true, false, cond, not, ◌&&◌, ◌||◌, eqb, ltb, leb, List, [], ◌∷◌, ◌++◌, length, Some, None, Option, sym, refl, ap, ◌∙◌}
use lib.Utf8.{scalar}
use Rattle.std.proofs.lemmas.Bool.{and_from, not_from_false, or_parts, cond-true, cond-false, lt-ltb, le-leb}
use Rattle.std.proofs.lemmas.List.{append_assoc, append_cancel_left}
use Rattle.template.specs.Grammar.{TemplateCharacter, dollar, escape, continuation, line_end, other, Escape, single, non_escape, null, hex, hex4, code_point, LineEnd, lf, cr, ls, ps, crlf, source, Allowed, HexDigits, starts, is_line_terminator, is_decimal, is_hex, is_single, is_escape, mv, line_source, line_allowed, escape_source, escape_allowed}

-- A character that stands for itself.
abbrev pub is_other : ℕ → Bool
is_other c = scalar c && not (eqb c 0x60 || eqb c 0x5C || eqb c 0x24) && not (is_line_terminator c)

-- NonEscapeCharacter
abbrev pub is_non_escape : ℕ → Bool
is_non_escape c = scalar c && not (is_escape c) && not (is_line_terminator c)

-- The line end that begins with the line terminator c.
abbrev pub line_at : ℕ → List ℕ → LineEnd
line_at c cs =
    cond (eqb c 0x0A) lf
    (cond (eqb c 0x2028) ls
    (cond (eqb c 0x2029) ps
    (cond (starts (λ d. eqb d 0x0A) cs) crlf cr)))

-- One digit more in front.
abbrev pub push : ℕ → Option (List ℕ) → Option (List ℕ)
push c None = None
push c (Some ds) = Some (c ∷ ds)

-- The hexadecimal digits up to a }, if there is nothing else before it.
abbrev pub digits_of : List ℕ → Option (List ℕ)
digits_of [] = None
digits_of (c ∷ cs) = cond (is_hex c) (push c (digits_of cs)) (cond (eqb c 0x7D) (Some []) None)

-- The escape with these digits between braces.
abbrev pub braced : Option (List ℕ) → Option TemplateCharacter
braced None = None
braced (Some ds) = cond (ltb 0 (length ds) && leb (mv ds) 0x10FFFF) (Some (escape (code_point ds))) None

-- The escape that goes on with this after \x.
abbrev pub hex_at : List ℕ → Option TemplateCharacter
hex_at [] = None
hex_at (a ∷ []) = None
hex_at (a ∷ b ∷ cs) = cond (is_hex a && is_hex b) (Some (escape (hex a b))) None

-- The escape that goes on with this after \u and the digit a.
abbrev pub hex4_at : ℕ → List ℕ → Option TemplateCharacter
hex4_at a [] = None
hex4_at a (b ∷ []) = None
hex4_at a (b ∷ c ∷ []) = None
hex4_at a (b ∷ c ∷ d ∷ cs) = cond (is_hex b && is_hex c && is_hex d) (Some (escape (hex4 a b c d))) None

-- The escape that goes on with this after \u.
abbrev pub unicode_at : List ℕ → Option TemplateCharacter
unicode_at [] = None
unicode_at (c ∷ cs) = cond (is_hex c) (hex4_at c cs) (cond (eqb c 0x7B) (braced (digits_of cs)) None)

-- The escape or line continuation that goes on with this after a backslash.
abbrev pub escape_at : List ℕ → Option TemplateCharacter
escape_at [] = None
escape_at (c ∷ cs) =
    cond (is_single c) (Some (escape (single c)))
    (cond (is_non_escape c) (Some (escape (non_escape c)))
    (cond (eqb c 0x30) (cond (starts is_decimal cs) None (Some (escape null)))
    (cond (eqb c 0x78) (hex_at cs)
    (cond (eqb c 0x75) (unicode_at cs)
    (cond (is_line_terminator c) (Some (continuation (line_at c cs))) None)))))

-- The template character at the front, None where there is none.
abbrev pub first : List ℕ → Option TemplateCharacter
first [] = None
first (c ∷ cs) =
    cond (is_other c) (Some (other c))
    (cond (eqb c 0x24) (cond (starts (λ d. eqb d 0x7B) cs) None (Some dollar))
    (cond (eqb c 0x5C) (escape_at cs)
    (cond (is_line_terminator c) (Some (line_end (line_at c cs))) None)))

-- The tests is_other and is_non_escape pass where each part does.
all_pass : (a b c : Bool) → a ≡ true → b ≡ false → c ≡ false → (a && not b && not c) ≡ true
all_pass a b c x y z = and_from (a && not b) (not c) (and_from a (not b) x (not_from_false b y)) (not_from_false c z)

-- A NonEscapeCharacter is no SingleEscapeCharacter.
not_single : (c : ℕ) → is_escape c ≡ false → is_single c ≡ false
not_single c e = (or_parts (is_single c) (is_decimal c) (or_parts (is_single c || is_decimal c) (eqb c 0x78) (or_parts (is_single c || is_decimal c || eqb c 0x78) (eqb c 0x75) e).0).0).0

-- The digits of \u{...} are read up to its brace.
pub digits_found : (ds rest : List ℕ) → HexDigits ds → digits_of (ds ++ 0x7D ∷ rest) ≡ Some ds
digits_found [] rest h = refl
digits_found (d ∷ ds) rest h = cond-true (is_hex d) _ _ h.0 ∙ ap (push d) (digits_found ds rest h.1)

-- An escape is found after its backslash.
escape_found : (e : Escape) (rest : List ℕ) → escape_allowed e rest → escape_at (escape_source e ++ rest) ≡ Some (escape e)
escape_found (single c) rest h = cond-true (is_single c) _ _ h
escape_found (non_escape c) rest h =
    cond-false (is_single c) _ _ (not_single c h.1)
    ∙ cond-true (is_non_escape c) _ _ (all_pass (scalar c) (is_escape c) (is_line_terminator c) h.0 h.1 h.2)
escape_found null rest h = cond-false (starts is_decimal rest) _ _ h
escape_found (hex a b) rest h = cond-true (is_hex a && is_hex b) _ _ (and_from (is_hex a) (is_hex b) h.0 h.1.0)
escape_found (hex4 a b c d) rest h =
    cond-true (is_hex a) _ _ h.0
    ∙ cond-true (is_hex b && is_hex c && is_hex d) _ _ (and_from (is_hex b && is_hex c) (is_hex d) (and_from (is_hex b) (is_hex c) h.1.0 h.1.1.0) h.1.1.1.0)
escape_found (code_point ds) rest h =
    ap (λ cs. braced (digits_of cs)) (append_assoc ds (0x7D ∷ []) rest)
    ∙ ap braced (digits_found ds rest h.0)
    ∙ cond-true (ltb 0 (length ds) && leb (mv ds) 0x10FFFF) _ _ (and_from (ltb 0 (length ds)) (leb (mv ds) 0x10FFFF) (lt-ltb 0 (length ds) h.1) (le-leb (mv ds) 0x10FFFF h.2))

-- A line continuation is found after its backslash.
continuation_found : (l : LineEnd) (rest : List ℕ) → line_allowed l rest → escape_at (line_source l ++ rest) ≡ Some (continuation l)
continuation_found lf rest h = refl
continuation_found cr rest h = ap (λ l. Some (continuation l)) (cond-false (starts (λ c. eqb c 0x0A) rest) crlf cr h)
continuation_found ls rest h = refl
continuation_found ps rest h = refl
continuation_found crlf rest h = refl

-- A line end is found.
line_end_found : (l : LineEnd) (rest : List ℕ) → line_allowed l rest → first (line_source l ++ rest) ≡ Some (line_end l)
line_end_found lf rest h = refl
line_end_found cr rest h = ap (λ l. Some (line_end l)) (cond-false (starts (λ c. eqb c 0x0A) rest) crlf cr h)
line_end_found ls rest h = refl
line_end_found ps rest h = refl
line_end_found crlf rest h = refl

-- The source of a template character begins with that character.
pub first_found : (t : TemplateCharacter) (rest : List ℕ) → Allowed t rest → first (source t ++ rest) ≡ Some t
first_found dollar rest h = cond-false (starts (λ c. eqb c 0x7B) rest) _ _ h
first_found (escape e) rest h = escape_found e rest h
first_found (continuation l) rest h = continuation_found l rest h
first_found (line_end l) rest h = line_end_found l rest h
first_found (other c) rest h = cond-true (is_other c) _ _ (all_pass (scalar c) (eqb c 0x60 || eqb c 0x5C || eqb c 0x24) (is_line_terminator c) h.0 h.1 h.2)

-- Two readings of one list begin with the same character.
pub unique : (t u : TemplateCharacter) (rest more : List ℕ) → Allowed t rest → Allowed u more → source t ++ rest ≡ source u ++ more → (t ≡ u) × (rest ≡ more)
unique t u rest more h k e =
    let found = first_found t rest h in
    let other_found = first_found u more k in
    let same_first = ap first e in
    let same : t ≡ u = cc in
    (same, append_cancel_left (source t) rest more (e ∙ ap (λ v. source v ++ more) (sym same)))
