-- The walk that escapes a text, character by character.
use Rattle.std.proofs.Common.{◌≡◌, ℕ, ◌≤◌, Bool, false, ◌&&◌, List, [], ◌∷◌, ◌++◌, Some, None, Ok, Option, sym, refl, ap, ◌∙◌, subst, inl, inr}
use lib.Utf8.{encode, encodes}
use Rattle.std.proofs.lemmas.List.{append-nil, append_assoc}
use Rattle.std.proofs.lemmas.Str.{encodes-append}
use Rattle.base.specs.declared.fault.Fault.{Fault}
use Rattle.base.specs.Questions.{Refuses}
use Rattle.text.specs.Utf16.{leading, trailing, units}
use Rattle.text.specs.Stored.{Stores, Lawful}
use Rattle.text.specs.Points.{Canonical, ends}
use Rattle.text.specs.Reader.{Readable, Next, rest_of}
use Rattle.text.specs.declared.character.Character.{Character}
use Rattle.text.specs.declared.reader.Characters.{Characters}
use Rattle.text.proofs.Stepping.{goes_on}
use Rattle.text.proofs.Pairing.{stores_units, points_units, canonical_append, ends_push, unlawful_more}
use Rattle.template.specs.Escaped.{escaped, escapes, raw_of}
use Rattle.template.specs.Sinks.{Adds}
use Rattle.template.proofs.Adding.{adds_both}

-- What one step of the reader says where it gave a character, and where it gave none.
pub read_one : (s t : Characters) (o : Option Character) (h : Character) → o ≡ Some h → Next s t (Ok o) → Next s t (Ok (Some h))
read_one s t o h e n = subst (λ x. Next s t (Ok x)) e n

pub read_all : (s t : Characters) (o : Option Character) → o ≡ None → Next s t (Ok o) → rest_of s ≡ []
read_all s t o e n = (subst (λ x. Next s t (Ok x)) e n).0

-- The walk has read `done` of the text, `rest` is left, and the raw text of `done` is handed on.
abbrev pub EscapeWalk : {S : Type 0} (Took : S → List ℕ → S → Type 0) (start : S) (text rest : List ℕ) (led : Bool) (now : S) → Type 0
EscapeWalk Took start text rest led now =
    (done : List ℕ) × (encodes done ++ rest ≡ text) × Canonical false done × (led ≡ ends false done) × Adds Took start (encodes (escapes done)) now

pub escapes_append : (cs ds : List ℕ) → escapes (cs ++ ds) ≡ escapes cs ++ escapes ds
escapes_append [] ds = refl
escapes_append (c ∷ cs) ds = ap (λ l. escaped c ++ l) (escapes_append cs ds) ∙ sym (append_assoc (escaped c) (escapes cs) (escapes ds))

-- One character more.
pub step : {S : Type 0} (Took : S → List ℕ → S → Type 0)
    → (start now then : S) (text rest more : List ℕ) (led next : Bool) (c : ℕ) → EscapeWalk Took start text rest led now
    → c ≤ 0x10FFFF → (led && trailing c) ≡ false → rest ≡ encode c ++ more → next ≡ leading c
    → Adds Took now (encodes (escaped c)) then → EscapeWalk Took start text more next then
step Took start now then text rest more led next c w small apart e n takes =
    let done = w.0 in
    let written = encodes (escapes done) in
    let one = encodes (escaped c) in
    let read : encodes (done ++ c ∷ []) ++ more ≡ text =
    ap (λ l. l ++ more) (encodes-append done (c ∷ []) ∙ ap (λ l. encodes done ++ l) (append-nil (encode c)))
    ∙ append_assoc (encodes done) (encode c) more ∙ ap (λ l. encodes done ++ l) (sym e) ∙ w.1
    in
    let canonical = canonical_append false done (c ∷ []) w.2 (small, ap (λ l. l && trailing c) (sym w.3) ∙ apart, tt) in
    let wrote : encodes (escapes (done ++ c ∷ [])) ≡ written ++ one =
    ap encodes (escapes_append done (c ∷ []) ∙ ap (λ l. escapes done ++ l) (append-nil (escaped c))) ∙ encodes-append (escapes done) (escaped c)
    in (
      done ++ c ∷ [],
      read,
      canonical,
      n ∙ sym (ends_push false done c),
      subst (λ l. Adds Took start l then) (sym wrote) (adds_both Took start now then written one w.4 takes),
    )

-- At the end the whole text is escaped.
pub finish : {S : Type 0} (Took : S → List ℕ → S → Type 0) (start : S) (text rest : List ℕ) (led : Bool) (now : S) → EscapeWalk Took start text rest led now → rest ≡ []
    → (us : List ℕ) × Stores text us × Adds Took start (raw_of us) now
finish Took start text rest led now w none =
    let done = w.0 in
    let whole : encodes done ≡ text = sym (append-nil (encodes done)) ∙ ap (λ l. encodes done ++ l) (sym none) ∙ w.1 in
    let raw : raw_of (units done) ≡ encodes (escapes done) = ap (λ l. encodes (escapes l)) (points_units false done w.2) in (
      units done,
      subst (λ l. Stores l (units done)) whole (stores_units false done w.2),
      subst (λ l. Adds Took start l now) (sym raw) w.4,
    )

-- Where what is left does not go on as a text, the whole is none.
pub refuse : {S : Type 0} (Took : S → List ℕ → S → Type 0) (start : S) (text rest : List ℕ) (led : Bool) (now : S) (e : Fault) → EscapeWalk Took start text rest led now
    → Refuses (((12, 0), Readable led rest) ∷ []) e → Refuses (((12, 0), Lawful text) ∷ []) e
refuse Took start text rest led now e w (inl bad) =
    inl (bad.0, unlawful_more w.0 rest text w.1 (λ cs k q. bad.1 (goes_on led rest cs (subst (λ l. Canonical l cs) (sym w.3) k) q)))
refuse Took start text rest led now e w (inr bad) = absurd bad.1
