-- Readings of raw text: lists of template characters, in parts and as bytes.
use Rattle.std.proofs.Common.{◌≡◌, ℕ, ◌<◌, ◌⊎◌, List, [], ◌∷◌, ◌++◌, length, sym, refl, ap, ◌∙◌, subst, inl, inr, arith, length-append}
use lib.Utf8.{encode, encodes}
use Rattle.std.proofs.lemmas.Str.{encodes-append, encodes_same, encode_same}
use Rattle.std.proofs.lemmas.List.{append-nil, append_assoc, append_cancel_right}
use Rattle.template.specs.Grammar.{TemplateCharacter, dollar, escape, continuation, line_end, other, lf, cr, ls, ps, crlf, source, sources, value, values, Allowed, AllAllowed}
use Rattle.template.specs.Cooked.{WellFormed, Cooks}
use Rattle.template.proofs.First.{unique}
use Rattle.template.proofs.Alike.{encode_some, allowed_bytes}

-- Of two texts at the front of the same bytes, one goes on from the other.
fork : (cs ds xs ys : List ℕ) → encodes cs ++ xs ≡ encodes ds ++ ys → ((es : List ℕ) × (cs ≡ ds ++ es) × (encodes es ++ xs ≡ ys)) ⊎ ((d : ℕ) × (es : List ℕ) × (ds ≡ cs ++ d ∷ es) × (xs ≡ encode d ++ (encodes es ++ ys)))
fork cs [] xs ys e = inl (cs, refl, e)
fork [] (d ∷ ds) xs ys e = inr (d, ds, refl, e ∙ append_assoc (encode d) (encodes ds) ys)
fork (c ∷ cs) (d ∷ ds) xs ys e =
    let one = encode_same c d (encodes cs ++ xs) (encodes ds ++ ys) (sym (append_assoc (encode c) (encodes cs) xs) ∙ e ∙ append_assoc (encode d) (encodes ds) ys) in
    let same = one.0 in
    elim (fork cs ds xs ys one.1) [
      | inl h ↦ (let more = h.1 in inl (h.0, cc, h.2))
      | inr h ↦ (let more = h.2 in inr (h.0, h.1, cc, h.3))
    ]

-- The source of two lists in a row.
pub sources_append : (ts us : List TemplateCharacter) → sources (ts ++ us) ≡ sources ts ++ sources us
sources_append [] us = refl
sources_append (t ∷ ts) us = ap (λ cs. source t ++ cs) (sources_append ts us) ∙ sym (append_assoc (source t) (sources ts) (sources us))

-- The value of two lists in a row.
pub values_append : (ts us : List TemplateCharacter) → values (ts ++ us) ≡ values ts ++ values us
values_append [] us = refl
values_append (t ∷ ts) us = ap (λ cs. value t ++ cs) (values_append ts us) ∙ sym (append_assoc (value t) (values ts) (values us))

-- Two lists in a row are allowed, the first before the source of the second.
pub all_allowed_append : (ts us : List TemplateCharacter) (rest : List ℕ) → AllAllowed ts (sources us ++ rest) → AllAllowed us rest → AllAllowed (ts ++ us) rest
all_allowed_append [] us rest h k = k
all_allowed_append (t ∷ ts) us rest h k =
    let same : sources ts ++ (sources us ++ rest) ≡ sources (ts ++ us) ++ rest = sym (append_assoc (sources ts) (sources us) rest) ∙ ap (λ cs. cs ++ rest) (sym (sources_append ts us)) in
    (subst (Allowed t) same h.0, all_allowed_append ts us rest h.1 k)

-- A template character has a source.
source_some : (t : TemplateCharacter) → 0 < length (source t)
source_some dollar = omega arith
source_some (escape e) = omega arith
source_some (continuation l) = omega arith
source_some (line_end lf) = omega arith
source_some (line_end cr) = omega arith
source_some (line_end ls) = omega arith
source_some (line_end ps) = omega arith
source_some (line_end crlf) = omega arith
source_some (other c) = omega arith

pub sources_some : (ts : List TemplateCharacter) → 0 < length ts → 0 < length (sources ts)
sources_some [] h = h
sources_some (t ∷ ts) h = omega (arith, length-append (source t) (sources ts), source_some t)

-- A longer reading before `end` goes on from a shorter one.
read_on : (ts us : List TemplateCharacter) (rest end : List ℕ) → AllAllowed ts (rest ++ end) → AllAllowed us end → sources us ≡ sources ts ++ rest → (ws : List TemplateCharacter) × (us ≡ ts ++ ws) × AllAllowed ws end × (sources ws ≡ rest)
read_on [] us rest end h k e = (us, refl, k, e)
read_on (t ∷ ts) [] rest end h k e = absurd (omega (arith, ap length e, length-append (source t ++ sources ts) rest, sources_some (t ∷ ts) (omega arith)))
read_on (t ∷ ts) (u ∷ us) rest end h k e =
    let whole : source u ++ (sources us ++ end) ≡ source t ++ (sources ts ++ (rest ++ end)) = simp append_assoc at (ap (λ cs. cs ++ end) e) in
    let one = unique t u (sources ts ++ (rest ++ end)) (sources us ++ end) h.0 k.0 (sym whole) in
    let same = one.0 in
    let own = append_cancel_right (sources us) (sources ts ++ rest) end (sym one.1 ∙ sym (append_assoc (sources ts) rest end)) in
    let more = read_on ts us rest end h.1 k.1 own in
    let after = more.1 in
    (more.0, cc, more.2, more.3)

-- Two readings of the same bytes: what the second reads behind the first, or the character at which it stops short.
pub read_past : (ts us : List TemplateCharacter) (rest end bs : List ℕ) → encodes (sources ts) ++ rest ≡ bs → AllAllowed ts rest → encodes (sources us) ++ end ≡ bs → AllAllowed us end → ((ws : List TemplateCharacter) × AllAllowed ws end × (encodes (sources ws) ++ end ≡ rest)) ⊎ ((d : ℕ) × (es : List ℕ) × (sources ts ≡ sources us ++ d ∷ es) × (end ≡ encode d ++ (encodes es ++ rest)))
read_past ts us rest end bs e h f k = elim (fork (sources us) (sources ts) end rest (f ∙ sym e)) [
  | inl s ↦
      (let read = read_on ts us s.0 end (allowed_bytes ts s.0 end (subst (AllAllowed ts) (sym s.2) h)) k s.1 in
      inl (read.0, read.2, ap (λ cs. encodes cs ++ end) read.3 ∙ s.2))
  | inr s ↦ inr s
]

-- Where the front has a reading and the rest is not well formed, the whole is not.
pub malformed_more : (ts : List TemplateCharacter) (rest bs : List ℕ) → encodes (sources ts) ++ rest ≡ bs → AllAllowed ts rest → (WellFormed rest → ⊥) → WellFormed bs → ⊥
malformed_more ts rest bs e front bad good = elim (read_past ts good.0 rest [] bs e front (append-nil (encodes (sources good.0)) ∙ good.1.1) good.1.0) [
  | inl r ↦ bad (r.0, (r.1, sym (append-nil (encodes (sources r.0))) ∙ r.2))
  | inr r ↦ omega (arith, ap length r.3, encode_some r.0 (encodes r.1 ++ rest))
]

-- A list has one reading.
same_reading : (ts us : List TemplateCharacter) → AllAllowed ts [] → AllAllowed us [] → sources us ≡ sources ts → us ≡ ts
same_reading ts us h k e =
    let read = read_on ts us [] [] h k (e ∙ sym (append-nil (sources ts))) in
    read.1 ∙ ap (λ ws. ts ++ ws) (none read.0 read.3) ∙ append-nil ts
  where
    none : (ws : List TemplateCharacter) → sources ws ≡ [] → ws ≡ []
    none [] n = refl
    none (w ∷ ws) n = absurd (omega (arith, ap length n, sources_some (w ∷ ws) (omega arith)))

-- A raw text cooks to one text.
pub cooks_once : (raw us vs : List ℕ) → Cooks raw us → Cooks raw vs → us ≡ vs
cooks_once raw us vs c d =
    let same = same_reading c.0 d.0 c.1.0 d.1.0 (encodes_same (sources d.0) (sources c.0) (d.1.1 ∙ sym c.1.1)) in
    sym c.2 ∙ ap values (sym same) ∙ d.2

-- A reading of the front, and what the rest cooks to, cook the whole.
pub cooks_parts : (a b : List ℕ) (ts : List TemplateCharacter) (vs : List ℕ) → encodes (sources ts) ≡ a → AllAllowed ts b → Cooks b vs → Cooks (a ++ b) (values ts ++ vs)
cooks_parts a b ts vs e front c =
    let us = c.0 in
    let all = all_allowed_append ts us [] (allowed_bytes ts (sources us) [] (subst (AllAllowed ts) (sym (append-nil (encodes (sources us)) ∙ c.1.1)) front)) c.1.0 in
    let both : encodes (sources (ts ++ us)) ≡ a ++ b = cc (sources_append ts us, encodes-append (sources ts) (sources us)) in
    let value : values (ts ++ us) ≡ values ts ++ vs = cc (values_append ts us) in
    (ts ++ us, (all, both), value)

-- Where the front has a reading, what the whole cooks to is its value and then what the rest cooks to.
pub cooks_rest : (ts : List TemplateCharacter) (rest bs us : List ℕ) → encodes (sources ts) ++ rest ≡ bs → AllAllowed ts rest → Cooks bs us → (vs : List ℕ) × Cooks rest vs × (us ≡ values ts ++ vs)
cooks_rest ts rest bs us e front c = elim (read_past ts c.0 rest [] bs e front (append-nil (encodes (sources c.0)) ∙ c.1.1) c.1.0) [
  | inl r ↦
      (let behind : Cooks rest (values r.0) = (r.0, (r.1, sym (append-nil (encodes (sources r.0))) ∙ r.2), refl) in
      let whole : Cooks bs (values ts ++ values r.0) = subst (λ l. Cooks l (values ts ++ values r.0)) e (cooks_parts (encodes (sources ts)) rest ts (values r.0) refl front behind) in
      (values r.0, behind, cooks_once bs us (values ts ++ values r.0) c whole))
  | inr r ↦ absurd (omega (arith, ap length r.3, encode_some r.0 (encodes r.1 ++ rest)))
]
