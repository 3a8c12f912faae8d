-- The stored form of units, one list behind the other.
use Rattle.std.proofs.Common.{◌≡◌, ℕ, true, false, ◌&&◌, List, [], ◌∷◌, ◌++◌, sym, refl, ap, ◌∙◌, ⊎_elim, append_assoc, arith}
use lib.Utf8.{encode, encodes}
use Rattle.std.proofs.lemmas.Bool.{and_right, and_cases, cases_Bool, cond-true, cond-false}
use Rattle.std.proofs.lemmas.Str.{encodes-append}
use Rattle.text.specs.Utf16.{leading, trailing, paired, before, points}
use Rattle.text.specs.Points.{ends}
use Rattle.text.specs.Stored.{stored}
use Rattle.text.specs.Laws.{begins_trailing, DetermineEachOther, JoinsAsUnits}
use Rattle.text.proofs.Pairing.{leading_range, trailing_range, not_leading_above, not_trailing_above, not_trailing_below, before_plain, before_pair, stored_once, units_points}

-- A unit before two lists of code points, of which the first is not empty.
before_more : (u c : ℕ) (cs ds : List ℕ) → before u (c ∷ (cs ++ ds)) ≡ before u (c ∷ cs) ++ ds
before_more u c cs ds =
    ⊎_elim
    (λ t. cond-true (leading u && trailing c) _ _ t ∙ ap (λ l. l ++ ds) (sym (cond-true (leading u && trailing c) (paired u c ∷ cs) (u ∷ c ∷ cs) t)))
    (λ f. cond-false (leading u && trailing c) _ _ f ∙ ap (λ l. l ++ ds) (sym (cond-false (leading u && trailing c) (paired u c ∷ cs) (u ∷ c ∷ cs) f)))
    (cases_Bool (leading u && trailing c))

-- A text with a unit has a code point.
pub some_point : (u : ℕ) (cs : List ℕ) → (c : ℕ) × (ds : List ℕ) × (before u cs ≡ c ∷ ds)
some_point u [] = (u, [], refl)
some_point u (c ∷ cs) =
    ⊎_elim
    (λ t. (paired u c, cs, cond-true (leading u && trailing c) _ _ t))
    (λ f. (u, c ∷ cs, cond-false (leading u && trailing c) _ _ f))
    (cases_Bool (leading u && trailing c))

-- A unit before a text that it makes no pair with.
before_apart : (u : ℕ) (vs : List ℕ) → (leading u && begins_trailing vs) ≡ false → before u (points vs) ≡ u ∷ points vs
before_apart u [] e = refl
before_apart u (v ∷ vs) e = ⊎_elim (before_plain u (before v (points vs))) (λ t. first v (points vs) t) (and_cases (leading u) (trailing v) e)
  where
    first : (v : ℕ) (cs : List ℕ) → trailing v ≡ false → before u (before v cs) ≡ u ∷ before v cs
    first v [] t = cond-false (leading u && trailing v) _ _ (and_right (leading u) (trailing v) t)
    first v (c ∷ cs) t =
        ⊎_elim
        (λ p.
        ap (before u) (cond-true (leading v && trailing c) _ _ p)
        ∙ cond-false (leading u && trailing (paired v c)) _ _ (and_right (leading u) (trailing (paired v c)) (not_trailing_above (paired v c) (omega arith)))
        ∙ ap (λ l. u ∷ l) (sym (cond-true (leading v && trailing c) (paired v c ∷ cs) (v ∷ c ∷ cs) p)))
        (λ p.
        ap (before u) (cond-false (leading v && trailing c) _ _ p)
        ∙ cond-false (leading u && trailing v) _ _ (and_right (leading u) (trailing v) t)
        ∙ ap (λ l. u ∷ l) (sym (cond-false (leading v && trailing c) (paired v c ∷ cs) (v ∷ c ∷ cs) p)))
        (cases_Bool (leading v && trailing c))

-- The code points of two texts, where no pair meets.
pub points_append : (us vs : List ℕ) → (ends false us && begins_trailing vs) ≡ false → points (us ++ vs) ≡ points us ++ points vs
points_append [] vs e = refl
points_append (u ∷ []) vs e = before_apart u vs e
points_append (u ∷ w ∷ us) vs e =
    let k = some_point w (points us) in
    ap (before u) (points_append (w ∷ us) vs e)
    ∙ ap (λ l. before u (l ++ points vs)) k.2
    ∙ before_more u k.0 k.1 (points vs)
    ∙ ap (λ l. before u l ++ points vs) (sym k.2)

-- A pair that meets is one code point.
pub points_pair : (us vs : List ℕ) (h l : ℕ) → leading h ≡ true → trailing l ≡ true → points ((us ++ h ∷ []) ++ l ∷ vs) ≡ points us ++ paired h l ∷ points vs
points_pair us vs h l p q =
    let a = leading_range h p in
    let b = trailing_range l q in
    ap points (append_assoc us (h ∷ []) (l ∷ vs))
    ∙ points_append us (h ∷ l ∷ vs) (and_right (ends false us) (trailing h) (not_trailing_below h (omega arith)))
    ∙ ap (λ cs. points us ++ before h cs) (before_plain l (points vs) (not_leading_above l (omega arith)))
    ∙ ap (λ cs. points us ++ cs) (before_pair h l (points vs) p q)

stored_append : (us vs : List ℕ) → (ends false us && begins_trailing vs) ≡ false → stored (us ++ vs) ≡ stored us ++ stored vs
stored_append us vs e = ap encodes (points_append us vs e) ∙ encodes-append (points us) (points vs)

stored_pair : (us vs : List ℕ) (h l : ℕ) → leading h ≡ true → trailing l ≡ true → stored ((us ++ h ∷ []) ++ l ∷ vs) ≡ stored us ++ encode (paired h l) ++ stored vs
stored_pair us vs h l p q =
    ap encodes (points_pair us vs h l p q)
    ∙ encodes-append (points us) (paired h l ∷ points vs)
    ∙ sym (append_assoc (stored us) (encode (paired h l)) (stored vs))

pub joins_as_units : JoinsAsUnits
joins_as_units = (stored_append, stored_pair)

pub determine_each_other : DetermineEachOther
determine_each_other = (units_points, stored_once)
