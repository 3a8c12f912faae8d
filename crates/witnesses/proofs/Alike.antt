-- Two answers of one call are the same.
use Rattle.std.proofs.Common.{◌≡◌, ℕ, ◌+◌, ◌≤◌, List, [], ◌∷◌, ◌++◌, length, Option, Result, Ok, Err, inl, inr, sym, subst, ap, ◌∙◌}
use Rattle.base.specs.declared.fault.Fault.{Fault}
use Rattle.base.specs.Runs.{Appended}
use Rattle.text.specs.Stored.{stored, Stores, Lawful}
use Rattle.text.specs.Calls.{Counts, Picks, Joins}
use Rattle.text.proofs.Rejoin.{determine_each_other}
use Rattle.template.specs.Calls.{Writes}
use Rattle.template.specs.Escaped.{raw_of}
use Rattle.template.specs.Cooked.{Cooks}
use Rattle.template.proofs.Reading.{cooks_once}
use Rattle.witnesses.specs.OneAnswer.{SameAnswer, OneOutcome, EachCallHasOneAnswer}
use Rattle.witnesses.proofs.FirstNo.{one_named}

-- One text alone is stored so.
one_text : (bytes us vs : List ℕ) → Stores bytes us → Stores bytes vs → us ≡ vs
one_text = determine_each_other.1

one_append : (count : ℕ) (more : List ℕ) → OneOutcome (λ old new r. Appended old count more new r)
one_append count more old new other (Ok n) (Ok m) (e, f, g) (e2, f2, g2) = let same : n ≡ m = e ∙ sym e2 in (same, cc)
one_append count more old new other (Ok n) (Err e) (i, f, g) (h, inl (_, fails)) = absurd (fails (subst (λ z. z ≤ length old) i f))
one_append count more old new other (Ok n) (Err e) (i, f, g) (h, inr (_, z)) = elim z [ ]
one_append count more old new other (Err e) (Ok n) (h, inl (_, fails)) (i, f, g) = absurd (fails (subst (λ z. z ≤ length old) i f))
one_append count more old new other (Err e) (Ok n) (h, inr (_, z)) _ = elim z [ ]
one_append count more old new other (Err e) (Err f) (h, r) (i, q) = (one_named (((13, 0), count + length more ≤ length old) ∷ []) e f r q, h ∙ sym i)

one_count : (text : List ℕ) (r q : Result ℕ Fault) → Counts text r → Counts text q → SameAnswer r q
one_count text (Ok n) (Ok m) (us, s, e) (vs, t, f) = e ∙ ap length (one_text text us vs s t) ∙ sym f
one_count text (Ok n) (Err e) (us, s, _) (inl (_, fails)) = fails (us, s)
one_count text (Ok n) (Err e) _ (inr (_, z)) = elim z [ ]
one_count text (Err e) (Ok n) (inl (_, fails)) (us, s, _) = fails (us, s)
one_count text (Err e) (Ok n) (inr (_, z)) _ = elim z [ ]
one_count text (Err e) (Err f) r q = one_named (((12, 0), Lawful text) ∷ []) e f r q

one_pick : (text : List ℕ) (n : ℕ) (r q : Result (Option ℕ) Fault) → Picks text n r → Picks text n q → SameAnswer r q
one_pick text n (Ok u) (Ok v) (us, s, e) (vs, t, f) = let same : us ≡ vs = one_text text us vs s t in cc
one_pick text n (Ok u) (Err e) (us, s, _) (inl (_, fails)) = fails (us, s)
one_pick text n (Ok u) (Err e) _ (inr (_, z)) = elim z [ ]
one_pick text n (Err e) (Ok u) (inl (_, fails)) (us, s, _) = fails (us, s)
one_pick text n (Err e) (Ok u) (inr (_, z)) _ = elim z [ ]
one_pick text n (Err e) (Err f) r q = one_named (((12, 0), Lawful text) ∷ []) e f r q

-- Of a call that means one text at most.
one_write : (Means : List ℕ → Type 0) (form : List ℕ → List ℕ) → ((us vs : List ℕ) → Means us → Means vs → us ≡ vs) → OneOutcome (λ old new r. Writes Means form old new r)
one_write Means form one old new other (Ok n) (Ok m) (us, s, e, f, g) (vs, t, e2, f2, g2) =
    let same : us ≡ vs = one us vs s t in let count : n ≡ m = e ∙ ap (λ z. length (form z)) same ∙ sym e2 in (count, cc)
one_write Means form one old new other (Ok n) (Err e) (us, s, _, _, _) (h, inl (_, fails)) = absurd (fails (us, s))
one_write Means form one old new other (Ok n) (Err e) _ (h, inr (_, inr (_, z))) = elim z [ ]
one_write Means form one old new other (Ok n) (Err e) (us, s, i, f, g) (h, inr (_, inl (_, fails))) =
    absurd (fails (λ vs t. subst (λ z. z ≤ length old) (i ∙ ap (λ z. length (form z)) (one us vs s t)) f))
one_write Means form one old new other (Err e) (Ok n) (h, inl (_, fails)) (us, s, _, _, _) = absurd (fails (us, s))
one_write Means form one old new other (Err e) (Ok n) (h, inr (_, inr (_, z))) _ = elim z [ ]
one_write Means form one old new other (Err e) (Ok n) (h, inr (_, inl (_, fails))) (us, s, i, f, g) =
    absurd (fails (λ vs t. subst (λ z. z ≤ length old) (i ∙ ap (λ z. length (form z)) (one us vs s t)) f))
one_write Means form one old new other (Err e) (Err f) (h, r) (i, q) = (one_named (((12, 0), (us : List ℕ) × Means us) ∷ ((13, 0), (us : List ℕ) → Means us → length (form us) ≤ length old) ∷ []) e f r q, h ∙ sym i)

-- Both texts' units are those of both, and there is room for the joined ones.
fits : (left right old us vs ws xs : List ℕ) → Stores left us → Stores right vs → Stores left ws → Stores right xs → length (stored (us ++ vs)) ≤ length old → length (stored (ws ++ xs)) ≤ length old
fits left right old us vs ws xs s t a b h =
    let first : us ≡ ws = one_text left us ws s a in
    let second : vs ≡ xs = one_text right vs xs t b in
    subst (λ z. length (stored (us ++ z)) ≤ length old → length (stored (ws ++ z)) ≤ length old) second (subst (λ z. length (stored (us ++ vs)) ≤ length old → length (stored (z ++ vs)) ≤ length old) first (λ k. k)) (subst (λ z. length (stored (us ++ z)) ≤ length old) second h)

one_join : (left right : List ℕ) → OneOutcome (λ old new r. Joins left right old new r)
one_join left right old new other (Ok n) (Ok m) (us, vs, s, t, e, f, g) (ws, xs, a, b, e2, f2, g2) =
    let first : us ≡ ws = one_text left us ws s a in
    let second : vs ≡ xs = one_text right vs xs t b in
    let whole : stored (us ++ vs) ≡ stored (ws ++ xs) = cc in
    let count : n ≡ m = e ∙ ap length whole ∙ sym e2 in
    (count, cc)
one_join left right old new other (Ok n) (Err e) (us, vs, s, t, _, _, _) (h, inl (_, fails)) = absurd (fails ((us, s), (vs, t)))
one_join left right old new other (Ok n) (Err e) _ (h, inr (_, inr (_, z))) = elim z [ ]
one_join left right old new other (Ok n) (Err e) (us, vs, s, t, i, f, g) (h, inr (_, inl (_, fails))) =
    absurd (fails (λ ws xs a b. fits left right old us vs ws xs s t a b (subst (λ z. z ≤ length old) i f)))
one_join left right old new other (Err e) (Ok n) (h, inl (_, fails)) (us, vs, s, t, _, _, _) = absurd (fails ((us, s), (vs, t)))
one_join left right old new other (Err e) (Ok n) (h, inr (_, inr (_, z))) _ = elim z [ ]
one_join left right old new other (Err e) (Ok n) (h, inr (_, inl (_, fails))) (us, vs, s, t, i, f, g) =
    absurd (fails (λ ws xs a b. fits left right old us vs ws xs s t a b (subst (λ z. z ≤ length old) i f)))
one_join left right old new other (Err e) (Err f) (h, r) (i, q) = (one_named (((12, 0), Lawful left × Lawful right) ∷ ((13, 0), (us vs : List ℕ) → Stores left us → Stores right vs → length (stored (us ++ vs)) ≤ length old) ∷ []) e f r q, h ∙ sym i)

pub one_answer : EachCallHasOneAnswer
one_answer = record {
  appends = one_append;
  counts = one_count;
  picks = one_pick;
  joins = one_join;
  escapes = λ text. one_write (Stores text) raw_of (one_text text);
  cooks = λ raw. one_write (Cooks raw) stored (cooks_once raw);
}
