-- The conditions on arguments, for each argument and each later one.
use Rattle.std.proofs.Common.{◌≡◌, ℕ, zero, suc, ◌<◌, Bool, true, false, List, [], ◌∷◌, Some, slice_get, ◌⊎◌, inl, inr, refl, sym, subst, ap, ◌∙◌, arith}
use Rattle.host.specs.declared.value_type.ValueType.{ValueType}
use Rattle.host.specs.declared.value_type.ValueType.TheVariants.{Undetermined, Object}
use Rattle.host.specs.Answers.{Answers}
use Rattle.meaning.specs.Expression.{Expression, Arguments}
use Rattle.meaning.specs.Parts.{Part}
use Rattle.rules.specs.Facts.{said}
use Rattle.rules.specs.Building.{append_arguments, flat}
use Rattle.rules.specs.Interleaves.{settled, SettledType, EachMayFollow, Interleaves}
use Rattle.rules.specs.ChainBecomes.{IsArray, AllStill, MayBeReadLater, ArraysApart}
use Rattle.rules.specs.Pairs.{ArgumentAt, ObjectOrUndetermined, IsReadLate, InterleavingIsPairwise, ArraysApartIsPairwise}
use Rattle.rules.proofs.Absurd.{true_false}
use Rattle.rules.proofs.ConditionsExactly.{quiet_of}

-- the two types that are not settled
unsettled_types : (t : ValueType) → settled t ≡ false → (t ≡ Object) ⊎ (t ≡ Undetermined)
unfolding settled
unsettled_types Object e = inl refl
unsettled_types Undetermined e = inr refl
unsettled_types t e = let z : ◌≡◌ {A = ℕ} 0 1 = cc in absurd (omega arith)

types_unsettled : (t : ValueType) → (t ≡ Object) ⊎ (t ≡ Undetermined) → settled t ≡ false
unfolding settled
types_unsettled t (inl e) = ap settled e
types_unsettled t (inr e) = ap settled e

module _ (a : Answers) where
  follows : (x : Expression) (xs : Arguments) → EachMayFollow (said a) x xs → ObjectOrUndetermined a (Part.expression x) → (j : ℕ) (q : Part) → ArgumentAt xs j q → a.effects q ≡ false
  follows x xs h o j q (ArgumentAt.here {x = y}) = quiet_of a x y (types_unsettled (a.value_type (Part.expression x)) o) h.0
  follows x xs h o j q ArgumentAt.spread_here = absurd h
  follows x xs h o j q (ArgumentAt.past {xs = ys} {i = i} d) = follows x ys h.1 o i q d
  follows x xs h o j q (ArgumentAt.past_spread d) = absurd h

  abbrev NoSpreads : Arguments → Type 0
  NoSpreads xs = (i l : ℕ) (x : Expression) → ArgumentAt xs i (Part.spread l x) → ⊥

  abbrev Pairs : Arguments → Type 0
  Pairs xs = (i j : ℕ) (p q : Part) → i < j → ArgumentAt xs i p → ArgumentAt xs j q → ObjectOrUndetermined a p → a.effects q ≡ false

  no_spreads : (xs : Arguments) → Interleaves (said a) xs → NoSpreads xs
  no_spreads xs h i l x ArgumentAt.spread_here = absurd h
  no_spreads xs h i l x (ArgumentAt.past {xs = ys} {i = j} d) = no_spreads ys h.1 j l x d
  no_spreads xs h i l x (ArgumentAt.past_spread d) = absurd h

  pairs : (xs : Arguments) → Interleaves (said a) xs → Pairs xs
  pairs xs h i j p q l ArgumentAt.here ArgumentAt.here o = absurd (omega arith)
  pairs xs h i j p q l (ArgumentAt.here {x = x} {xs = ys}) (ArgumentAt.past {i = k} e) o = follows x ys h.0 o k q e
  pairs xs h i j p q l (ArgumentAt.past d) ArgumentAt.here o = absurd (omega arith)
  pairs xs h i j p q l (ArgumentAt.past {xs = ys} {i = k} d) (ArgumentAt.past {i = m} e) o = pairs ys h.1 k m p q (omega arith) d e o
  pairs xs h i j p q l ArgumentAt.spread_here e o = absurd h
  pairs xs h i j p q l (ArgumentAt.past_spread d) e o = absurd h

  follow_by : (x : Expression) (b : Bool) → settled (a.value_type (Part.expression x)) ≡ b → (xs : Arguments) → NoSpreads xs
      → ((j : ℕ) (q : Part) → ArgumentAt xs j q → ObjectOrUndetermined a (Part.expression x) → a.effects q ≡ false) → EachMayFollow (said a) x xs
  follow_by x b e Arguments.no_arguments n h = tt
  follow_by x b e (Arguments.spread_argument l y ys) n h = n 0 l y ArgumentAt.spread_here
  follow_by x b e (Arguments.argument y ys) n h =
      (one b e (h 0 (Part.expression y) ArgumentAt.here), follow_by x b e ys (λ i l z d. n (suc i) l z (ArgumentAt.past d)) (λ j q d. h (suc j) q (ArgumentAt.past d)))
    where
      one : (b : Bool) → settled (a.value_type (Part.expression x)) ≡ b → (ObjectOrUndetermined a (Part.expression x) → a.effects (Part.expression y) ≡ false) → SettledType (said a) x ⊎ (a.effects (Part.expression y) ≡ false)
      one true e k = inl (a.value_type (Part.expression x), refl, e)
      one false e k = inr (k (unsettled_types (a.value_type (Part.expression x)) e))

  interleaves : (xs : Arguments) → NoSpreads xs → Pairs xs → Interleaves (said a) xs
  interleaves Arguments.no_arguments n h = tt
  interleaves (Arguments.spread_argument l y ys) n h = n 0 l y ArgumentAt.spread_here
  interleaves (Arguments.argument x xs) n h = (
    follow_by x (settled (a.value_type (Part.expression x))) refl xs (λ i l z d. n (suc i) l z (ArgumentAt.past d)) (λ j q d o. h 0 (suc j) (Part.expression x) q (omega arith) ArgumentAt.here (ArgumentAt.past d) o),
    interleaves xs (λ i l z d. n (suc i) l z (ArgumentAt.past d)) (λ i j p q l d e o. h (suc i) (suc j) p q (omega arith) (ArgumentAt.past d) (ArgumentAt.past e) o),
  )

  -- ---- calls on an array

  still_at : (xs : Arguments) → AllStill (said a) xs → (l : ℕ) (q : Part) → ArgumentAt xs l q → a.effects q ≡ false
  still_at xs h l q ArgumentAt.here = h.0
  still_at xs h l q ArgumentAt.spread_here = h.0
  still_at xs h l q (ArgumentAt.past {xs = ys} {i = i} d) = still_at ys h.1 i q d
  still_at xs h l q (ArgumentAt.past_spread {xs = ys} {i = i} d) = still_at ys h.1 i q d

  still_of : (xs : Arguments) → ((l : ℕ) (q : Part) → ArgumentAt xs l q → a.effects q ≡ false) → AllStill (said a) xs
  still_of Arguments.no_arguments h = tt
  still_of (Arguments.argument x xs) h = (h 0 (Part.expression x) ArgumentAt.here, still_of xs (λ l q d. h (suc l) q (ArgumentAt.past d)))
  still_of (Arguments.spread_argument l x xs) h = (h 0 (Part.spread l x) ArgumentAt.spread_here, still_of xs (λ l q d. h (suc l) q (ArgumentAt.past_spread d)))

  still_both : (xs ys : Arguments) → AllStill (said a) (append_arguments xs ys) → AllStill (said a) xs × AllStill (said a) ys
  unfolding append_arguments
  still_both Arguments.no_arguments ys h = (tt, h)
  still_both (Arguments.argument x xs) ys h = let k = still_both xs ys h.1 in ((h.0, k.0), k.1)
  still_both (Arguments.spread_argument l x xs) ys h = let k = still_both xs ys h.1 in ((h.0, k.0), k.1)

  still_append : (xs ys : Arguments) → AllStill (said a) xs → AllStill (said a) ys → AllStill (said a) (append_arguments xs ys)
  unfolding append_arguments
  still_append Arguments.no_arguments ys h k = k
  still_append (Arguments.argument x xs) ys h k = (h.0, still_append xs ys h.1 k)
  still_append (Arguments.spread_argument l x xs) ys h k = (h.0, still_append xs ys h.1 k)

  still_call : (xss : List Arguments) → AllStill (said a) (flat xss) → (j : ℕ) (ys : Arguments) → slice_get xss j ≡ Some ys → AllStill (said a) ys
  unfolding flat
  still_call [] h j ys e = let z : ◌≡◌ {A = ℕ} 0 1 = cc in absurd (omega arith)
  still_call (xs ∷ xss) h zero ys e = let i : xs ≡ ys = cc in subst (AllStill (said a)) i (still_both xs (flat xss) h).0
  still_call (xs ∷ xss) h (suc j) ys e = still_call xss (still_both xs (flat xss) h).1 j ys e

  still_flat : (xss : List Arguments) → ((j l : ℕ) (ys : Arguments) (q : Part) → slice_get xss j ≡ Some ys → ArgumentAt ys l q → a.effects q ≡ false) → AllStill (said a) (flat xss)
  unfolding flat
  still_flat [] h = tt
  still_flat (xs ∷ xss) h = still_append xs (flat xss) (still_of xs (λ l q d. h 0 l xs q refl d)) (still_flat xss (λ j l ys q e d. h (suc j) l ys q e d))

  late_still : (xs zs : Arguments) → MayBeReadLater (said a) xs zs → (k : ℕ) (p : Part) → ArgumentAt xs k p → IsReadLate a p → AllStill (said a) zs
  late_still xs zs h k p (ArgumentAt.here {x = x}) o = by h.0
    where
      by : IsArray x ⊎ (SettledType (said a) x ⊎ AllStill (said a) zs) → AllStill (said a) zs
      by (inl i) = absurd (o.0 i)
      by (inr (inl s)) = true_false (sym s.2 ∙ ap settled (sym s.1) ∙ types_unsettled (a.value_type (Part.expression x)) o.1)
      by (inr (inr i)) = i
  late_still xs zs h k p ArgumentAt.spread_here o = h.0
  late_still xs zs h k p (ArgumentAt.past {xs = ys} {i = i} d) o = late_still ys zs h.1 i p d o
  late_still xs zs h k p (ArgumentAt.past_spread {xs = ys} {i = i} d) o = late_still ys zs h.1 i p d o

  array_or_not : (x : Expression) → IsArray x ⊎ (IsArray x → ⊥)
  array_or_not (Expression.array l xs) = inl IsArray.array
  array_or_not x = inr (λ i. elim i [ ])

  may_be_read : (xs zs : Arguments) → ((k : ℕ) (p : Part) → ArgumentAt xs k p → IsReadLate a p → AllStill (said a) zs) → MayBeReadLater (said a) xs zs
  may_be_read Arguments.no_arguments zs h = tt
  may_be_read (Arguments.spread_argument l x xs) zs h = (h 0 (Part.spread l x) ArgumentAt.spread_here tt, may_be_read xs zs (λ k p d. h (suc k) p (ArgumentAt.past_spread d)))
  may_be_read (Arguments.argument x xs) zs h =
      (one (array_or_not x) (settled (a.value_type (Part.expression x))) refl, may_be_read xs zs (λ k p d. h (suc k) p (ArgumentAt.past d)))
    where
      one : IsArray x ⊎ (IsArray x → ⊥) → (b : Bool) → settled (a.value_type (Part.expression x)) ≡ b → IsArray x ⊎ (SettledType (said a) x ⊎ AllStill (said a) zs)
      one (inl i) b e = inl i
      one (inr n) true e = inr (inl (a.value_type (Part.expression x), refl, e))
      one (inr n) false e = inr (inr (h 0 (Part.expression x) ArgumentAt.here (n, unsettled_types (a.value_type (Part.expression x)) e)))

  abbrev CallPairs : List Arguments → Type 0
  CallPairs xss = (i j k l : ℕ) (xs ys : Arguments) (p q : Part) → i < j → slice_get xss i ≡ Some xs → slice_get xss j ≡ Some ys → ArgumentAt xs k p → ArgumentAt ys l q → IsReadLate a p → a.effects q ≡ false

  call_pairs : (xss : List Arguments) → ArraysApart (said a) xss → CallPairs xss
  call_pairs [] h i j k l xs ys p q m e f d g o = let z : ◌≡◌ {A = ℕ} 0 1 = cc in absurd (omega arith)
  call_pairs (zs ∷ xss) h zero zero k l xs ys p q m e f d g o = absurd (omega arith)
  call_pairs (zs ∷ xss) h (suc i) zero k l xs ys p q m e f d g o = absurd (omega arith)
  call_pairs (zs ∷ xss) h zero (suc j) k l xs ys p q m e f d g o =
      let s : zs ≡ xs = cc in
      still_at ys (still_call xss (late_still zs (flat xss) h.0 k p (subst (λ z. ArgumentAt z k p) (sym s) d) o) j ys f) l q g
  call_pairs (zs ∷ xss) h (suc i) (suc j) k l xs ys p q m e f d g o = call_pairs xss h.1 i j k l xs ys p q (omega arith) e f d g o

  apart : (xss : List Arguments) → CallPairs xss → ArraysApart (said a) xss
  apart [] h = tt
  apart (xs ∷ xss) h = (
    may_be_read xs (flat xss) (λ k p d o. still_flat xss (λ j l ys q e g. h 0 (suc j) k l xs ys p q (omega arith) refl e d g o)),
    apart xss (λ i j k l ys zs p q m e f d g o. h (suc i) (suc j) k l ys zs p q (omega arith) e f d g o),
  )

pub interleaving_pairwise : InterleavingIsPairwise
interleaving_pairwise a xs = (λ h. (no_spreads a xs h, pairs a xs h), λ h. interleaves a xs h.0 h.1)

pub arrays_apart_pairwise : ArraysApartIsPairwise
arrays_apart_pairwise a xss = (call_pairs a xss, apart a xss)
