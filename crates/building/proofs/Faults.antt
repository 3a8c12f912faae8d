-- Which fault a refusal is.
use Rattle.std.proofs.Common.{◌≡◌, ℕ, ◌⊎◌, List, [], ◌∷◌, Ok, Err, Result, inl, inr, refl, ap, ◌∙◌, arith}
use Rattle.std.specs.Prelude.{IsErrAnd, IsOkUnless}
use Rattle.base.specs.declared.fault.Fault.{Fault}
use Rattle.base.specs.declared.fault.Fault.TheVariants.{BadHeader, BadSizes, StoresTooSmall, BadRecord, BadLink, NoChild, PathFull, AtRoot, NodesFull, EntriesFull, TextFull, Malformed, Overfull}
use Rattle.base.specs.Faults.{number}
use Rattle.base.specs.Questions.{Refuses}
use Rattle.template.specs.declared.extent.Extent.{Extent}
use Rattle.template.specs.Extent.{MeasuresText}
use Rattle.store.specs.declared.store.Store.{Store}
use Rattle.store.specs.Held.{AppendsTo, AppendsWithin, AppendsRaw}
use Rattle.building.specs.Builds.{LacksRoomOrText}

by_number : (e : Fault) → number e ≡ 13 → e ≡ Overfull
by_number BadHeader n = absurd (omega (arith, n))
by_number BadSizes n = absurd (omega (arith, n))
by_number StoresTooSmall n = absurd (omega (arith, n))
by_number (BadRecord k) n = absurd (omega (arith, n))
by_number (BadLink k) n = absurd (omega (arith, n))
by_number (NoChild k) n = absurd (omega (arith, n))
by_number (PathFull k) n = absurd (omega (arith, n))
by_number (AtRoot k) n = absurd (omega (arith, n))
by_number (NodesFull k) n = absurd (omega (arith, n))
by_number (EntriesFull k) n = absurd (omega (arith, n))
by_number (TextFull k) n = absurd (omega (arith, n))
by_number Malformed n = absurd (omega (arith, n))
by_number Overfull n = refl

malformed_by_number : (e : Fault) → number e ≡ 12 → e ≡ Malformed
malformed_by_number BadHeader n = absurd (omega (arith, n))
malformed_by_number BadSizes n = absurd (omega (arith, n))
malformed_by_number StoresTooSmall n = absurd (omega (arith, n))
malformed_by_number (BadRecord k) n = absurd (omega (arith, n))
malformed_by_number (BadLink k) n = absurd (omega (arith, n))
malformed_by_number (NoChild k) n = absurd (omega (arith, n))
malformed_by_number (PathFull k) n = absurd (omega (arith, n))
malformed_by_number (AtRoot k) n = absurd (omega (arith, n))
malformed_by_number (NodesFull k) n = absurd (omega (arith, n))
malformed_by_number (EntriesFull k) n = absurd (omega (arith, n))
malformed_by_number (TextFull k) n = absurd (omega (arith, n))
malformed_by_number Malformed n = refl
malformed_by_number Overfull n = absurd (omega (arith, n))

-- ---- what a store refuses

-- Only room is asked for.
pub overfull : {P : Type 0} (e : Fault) → Refuses (((13, 0), P) ∷ []) e → e ≡ Overfull
overfull e (inl r) = by_number e (ap (λ (p : ℕ × ℕ). p.0) r.0)
overfull e (inr r) = absurd r.1

pub not_appended : {T : Type 0} (old : Store T) (more : List T) (new : Store T) (r : Result (Unit {0}) Fault) → AppendsTo old more new r → IsOkUnless r Overfull
not_appended old more new (Ok u) a = tt
not_appended old more new (Err e) a = overfull e a.2

pub not_within : {T : Type 0} (old : Store T) (start len : ℕ) (new : Store T) (r : Result (Unit {0}) Fault) → AppendsWithin old start len new r → IsOkUnless r Overfull
not_within old start len new (Ok u) a = tt
not_within old start len new (Err e) a = overfull e a.2

pub not_raw : (old : Store ℕ) (start : ℕ) (new : Store ℕ) (e : Fault) → AppendsRaw old start new (Err e) → (e ≡ Overfull) ⊎ (e ≡ Malformed)
not_raw old start new e a = by a.2
  where
    by : {P Q S : Type 0} → Refuses (((13, 0), P) ∷ ((12, 0), Q) ∷ ((13, 0), S) ∷ []) e → (e ≡ Overfull) ⊎ (e ≡ Malformed)
    by (inl r) = inl (by_number e (ap (λ (p : ℕ × ℕ). p.0) r.0))
    by (inr (p, inl r)) = inr (malformed_by_number e (ap (λ (p : ℕ × ℕ). p.0) r.0))
    by (inr (p, inr (q, inl r))) = inl (by_number e (ap (λ (p : ℕ × ℕ). p.0) r.0))
    by (inr (p, inr (q, inr r))) = absurd r.1

pub not_measured : (text : List ℕ) (e : Fault) → MeasuresText text (Err e) → e ≡ Malformed
not_measured text e (inl r) = malformed_by_number e (ap (λ (p : ℕ × ℕ). p.0) r.0)
not_measured text e (inr r) = absurd r.1

-- ---- what is handed on

pub handed_on : {X : Type 0} (r : Result X Fault) (e : Fault) → IsErrAnd r (λ y. y ≡ e) → e ≡ Overfull → IsOkUnless r Overfull
handed_on (Ok x) e i o = absurd i
handed_on (Err y) e i o = i ∙ o

pub either_handed_on : {X : Type 0} (r : Result X Fault) (e : Fault) → IsErrAnd r (λ y. y ≡ e) → (e ≡ Overfull) ⊎ (e ≡ Malformed) → LacksRoomOrText r
either_handed_on (Ok x) e i o = absurd i
either_handed_on (Err y) e i (inl o) = inl (i ∙ o)
either_handed_on (Err y) e i (inr o) = inr (i ∙ o)

-- For want of room is one of the two.
pub for_room : {X : Type 0} (r : Result X Fault) → IsOkUnless r Overfull → LacksRoomOrText r
for_room (Ok x) o = tt
for_room (Err y) o = inl o
