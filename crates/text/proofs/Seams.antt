-- Two texts, one behind the other.
use Rattle.std.proofs.Common.{◌≡◌, ℕ, ◌+◌, ◌-◌, ◌≤◌, true, false, ◌&&◌, List, [], ◌∷◌, ◌++◌, length, take, drop, Some, None, Ok, Err, Option, Result, sym, refl, ap, ◌∙◌, subst, inl, inr, ⊎_elim, append_assoc, arith, length-append, take_at, drop_at, MatchOption}
use lib.Utf8.{encode, encodes}
use Rattle.std.proofs.lemmas.List.{append-nil}
use Rattle.std.proofs.lemmas.Bool.{and_right, and_cases, both_ways}
use Rattle.std.proofs.lemmas.Str.{cons_from_encodes, encodes-append}
use Rattle.base.specs.declared.fault.Fault.{Fault}
use Rattle.base.specs.Runs.{Appended}
use Rattle.base.proofs.Fronts.{front_more}
use Rattle.text.specs.declared.character.Character.{Character}
use Rattle.text.specs.Utf16.{leading, trailing, paired, utf16, units, points}
use Rattle.text.specs.Points.{Canonical, ends}
use Rattle.text.specs.Stored.{stored, Stores}
use Rattle.text.specs.Character.{Lacks, Reads}
use Rattle.text.specs.Survey.{EndsWith}
use Rattle.text.specs.Calls.{Joins}
use Rattle.text.specs.Join.{Meets, Written}
use Rattle.text.proofs.Pairing.{leading_range, trailing_range, not_leading_above, not_trailing_above, canonical_append, canonical_front, units_append, points_units, utf16_below, utf16_paired, stores_points}
use Rattle.text.proofs.Widths.{encode_3}

-- ---- where they meet

-- Two texts that make no pair.
apart : (left right cs ds : List ℕ) → Canonical false cs → encodes cs ≡ left → Canonical false ds → encodes ds ≡ right → Canonical (ends false cs) ds → Meets left right (Ok None)
apart left right cs ds k e l f m = (cs, ds, canonical_append false cs ds k m, e, l, f)

pub no_lead : (left right cs ds : List ℕ) → Canonical false cs → encodes cs ≡ left → Canonical false ds → encodes ds ≡ right → ends false cs ≡ false → Meets left right (Ok None)
no_lead left right cs ds k e l f q = apart left right cs ds k e l f (subst (λ b. Canonical b ds) (sym q) l)

pub no_first : (left right cs ds : List ℕ) → Canonical false cs → encodes cs ≡ left → Canonical false ds → encodes ds ≡ right → Lacks right 0x110000 → Meets left right (Ok None)
no_first left right cs [] k e l f bad = apart left right cs [] k e l f tt
no_first left right cs (d ∷ ds) k e l f bad = absurd (bad d (encodes ds) (omega (arith, l.0)) (sym f))

-- The first character that is read is the first code point.
first_point : (right ds : List ℕ) (h : Character) → encodes ds ≡ right → Reads right h → (es : List ℕ) × (ds ≡ h.code ∷ es) × (encodes es ≡ drop (length (encode h.code)) right)
first_point right ds h f r = cons_from_encodes ds (drop (length (encode h.code)) right) h.code (f ∙ r.2)

no_trail : (left right cs ds : List ℕ) (h : Character) → Canonical false cs → encodes cs ≡ left → Canonical false ds → encodes ds ≡ right → Reads right h → trailing h.code ≡ false → Meets left right (Ok None)
no_trail left right cs ds h k e l f r q =
    let p = first_point right ds h f r in
    let m = subst (Canonical false) p.1 l in
    apart left right cs ds k e l f (subst (Canonical (ends false cs)) (sym p.1) (m.0, and_right (ends false cs) (trailing h.code) q, m.2))

-- Where the left text ends with a leading surrogate, the two meet as that and the right one's first code point do.
pub met : (left right cs ds : List ℕ) (h : Character) (lead : ℕ) (o : Option ℕ) → Canonical false cs → encodes cs ≡ left → EndsWith (Some lead) cs → Canonical false ds → encodes ds ≡ right → Reads right h → MatchOption o ((leading lead && trailing h.code) ≡ false) (λ x. (leading lead ≡ true) × (trailing h.code ≡ true) × (x ≡ paired lead h.code)) → Meets left right (Ok o)
met left right cs ds h lead None k e w l f r q =
    no_trail left right cs ds h k e l f r (⊎_elim (λ n. absurd (both_ways (leading lead) n w.2)) (λ n. n) (and_cases (leading lead) (trailing h.code) q))
met left right cs ds h lead (Some x) k e w l f r q =
    let p = first_point right ds h f r in (
      w.0,
      p.0,
      lead,
      h.code,
      q.2,
      w.2,
      q.1,
      subst (Canonical false) w.1 k,
      ap encodes (sym w.1) ∙ e,
      subst (Canonical false) p.1 l,
      ap encodes (sym p.1) ∙ f,
    )

-- ---- what is written

pub three : (old front middle back mid low new : List ℕ) (a b : ℕ) (r : Result ℕ Fault) → length front + length middle + length back ≤ length old → length low ≡ length old → Appended old 0 front mid (Ok a) → Appended mid a middle low (Ok b) → Appended low b back new r → Written old (front ++ middle ++ back) new r
three old front middle back mid low new a b (Ok n) fits long p q s =
    let f = front_more old [] front old mid 0 a refl refl p in
    let g = front_more old front middle mid low a b f.0 f.1 q in
    let h = front_more old (front ++ middle) back low new b n g.0 g.1 s in
    (h.0, omega (arith, s.1), h.1 ∙ ap (λ m. front ++ middle ++ back ++ drop m old) (sym h.0))
three old front middle back mid low new a b (Err e) fits long p q (s, inl (x, y)) =
    absurd (y (omega (arith, p.0, q.0)))
three old front middle back mid low new a b (Err e) fits long p q (s, inr (x, y)) = absurd y

-- ---- the joined text

pub joins : (left right old new run us vs : List ℕ) (r : Result ℕ Fault) → Stores left us → Stores right vs → stored (us ++ vs) ≡ run → Written old run new r → Joins left right old new r
joins left right old new run us vs (Ok n) s t e (a, b, c) =
    (us, vs, s, t, a ∙ ap length (sym e), b, c ∙ ap (λ l. l ++ drop n old) (sym e))
joins left right old new run us vs (Err x) s t e (a, inl (b, c)) =
    (a, inr (((us, s), (vs, t)), inl (b, λ fits. c (subst (λ l. length l ≤ length old) e (fits us vs s t)))))
joins left right old new run us vs (Err x) s t e (a, inr (b, c)) = absurd c

pub joins_apart : (left right old new : List ℕ) (r : Result ℕ Fault) → Meets left right (Ok None) → Written old (left ++ [] ++ right) new r → Joins left right old new r
joins_apart left right old new r (cs, ds, k, e, l, f) w =
    joins left right old new (left ++ [] ++ right) (units cs) (units ds) r
    (stores_points left cs (canonical_front false cs ds k) e)
    (stores_points right ds l f)
    (
    ap (λ us. encodes (points us)) (sym (units_append cs ds))
    ∙ ap encodes (points_units false (cs ++ ds) k)
    ∙ encodes-append cs ds
    ∙ ap (λ x. x ++ encodes ds) e
    ∙ ap (λ x. left ++ x) f
    ∙ ap (λ x. x ++ right) (sym (append-nil left))
    )
    w

-- A surrogate takes three bytes.
pub lead_width : (h : ℕ) → leading h ≡ true → length (encode h) ≡ 3
lead_width h e = let p = leading_range h e in ap length (encode_3 h (omega arith) (omega arith))

pub trail_width : (l : ℕ) → trailing l ≡ true → length (encode l) ≡ 3
trail_width l e = let p = trailing_range l e in ap length (encode_3 l (omega arith) (omega arith))

-- A text that ends with a leading surrogate, up to there.
pub up_to_lead : (left cs : List ℕ) (h : ℕ) → leading h ≡ true → encodes (cs ++ h ∷ []) ≡ left → (length (encodes cs) + 3 ≡ length left) × (take (length left - 3) left ≡ encodes cs)
up_to_lead left cs h p e =
    let f : left ≡ encodes cs ++ encode h = sym e ∙ encodes-append cs (h ∷ []) ∙ ap (λ l. encodes cs ++ l) (append-nil (encode h)) in
    let long : length (encodes cs) + 3 ≡ length left = omega (arith, ap length f, length-append (encodes cs) (encode h), lead_width h p) in
    (long, ap (take (length left - 3)) f ∙ take_at (encodes cs) (encode h) (length left - 3) (omega arith))

-- A text that begins with a trailing one, from there.
pub past_trail : (right ds : List ℕ) (l : ℕ) → trailing l ≡ true → encodes (l ∷ ds) ≡ right → (3 ≤ length right) × (drop 3 right ≡ encodes ds)
past_trail right ds l p e =
    let wide = trail_width l p in (
      omega (arith, ap length e, length-append (encode l) (encodes ds)),
      ap (drop 3) (sym e) ∙ drop_at (encode l) (encodes ds) 3 wide,
    )

-- The pair makes one code point of the two halves, and every other stays.
pub stored_pair : (cs ds : List ℕ) (h l : ℕ) → leading h ≡ true → trailing l ≡ true → Canonical false (cs ++ h ∷ []) → Canonical false (l ∷ ds) → stored (units (cs ++ h ∷ []) ++ units (l ∷ ds)) ≡ encodes cs ++ encode (paired h l) ++ encodes ds
stored_pair cs ds h l p q k m =
    let a = leading_range h p in
    let b = trailing_range l q in
    let x = paired h l in
    let halves : utf16 h ++ [] ++ (utf16 l ++ units ds) ≡ utf16 x ++ units ds =
    ap (λ u. u ++ [] ++ (utf16 l ++ units ds)) (utf16_below h (omega arith))
    ∙ ap (λ u. h ∷ (u ++ units ds)) (utf16_below l (omega arith))
    ∙ ap (λ u. u ++ units ds) (sym (utf16_paired h l p q))
    in
    let same : units (cs ++ h ∷ []) ++ units (l ∷ ds) ≡ units (cs ++ x ∷ ds) =
    ap (λ u. u ++ units (l ∷ ds)) (units_append cs (h ∷ []))
    ∙ append_assoc (units cs) (utf16 h ++ []) (utf16 l ++ units ds)
    ∙ ap (λ u. units cs ++ u) halves
    ∙ sym (units_append cs (x ∷ ds))
    in
    let quiet : leading l ≡ leading x = not_leading_above l (omega arith) ∙ sym (not_leading_above x (omega arith)) in
    let back : Canonical (ends false cs) (x ∷ ds) =
    (omega arith, and_right (ends false cs) (trailing x) (not_trailing_above x (omega arith)), subst (λ b. Canonical b ds) quiet m.2)
    in
    ap (λ us. encodes (points us)) same
    ∙ ap encodes (points_units false (cs ++ x ∷ ds) (canonical_append false cs (x ∷ ds) (canonical_front false cs (h ∷ []) k) back))
    ∙ encodes-append cs (x ∷ ds)
    ∙ sym (append_assoc (encodes cs) (encode x) (encodes ds))

pub joins_pair : (left right old new front middle back : List ℕ) (x : ℕ) (r : Result ℕ Fault) → Meets left right (Ok (Some x)) → front ≡ take (length left - 3) left → middle ≡ encode x → back ≡ drop 3 right → Written old (front ++ middle ++ back) new r → Joins left right old new r
joins_pair left right old new front middle back x r (cs, ds, h, l, same, p, q, k, e, m, f) a b c w =
    joins left right old new (front ++ middle ++ back) (units (cs ++ h ∷ [])) (units (l ∷ ds)) r
    (stores_points left (cs ++ h ∷ []) k e)
    (stores_points right (l ∷ ds) m f)
    (
    stored_pair cs ds h l p q k m
    ∙ ap (λ t. t ++ encode (paired h l) ++ encodes ds) (sym (a ∙ (up_to_lead left cs h p e).1))
    ∙ ap (λ t. front ++ t ++ encodes ds) (sym (b ∙ ap encode same))
    ∙ ap (λ t. front ++ middle ++ t) (sym (c ∙ (past_trail right ds l q f).1))
    )
    w

-- What the parts of the two texts are cut at lies within them.
pub cuts : (left right : List ℕ) (x : ℕ) → Meets left right (Ok (Some x)) → (3 ≤ length left) × (3 ≤ length right) × (x ≤ 0x10FFFF)
cuts left right x (cs, ds, h, l, same, p, q, k, e, m, f) =
    let u = leading_range h p in
    let v = trailing_range l q in
    (omega (arith, (up_to_lead left cs h p e).0), (past_trail right ds l q f).0, omega (arith, same))
