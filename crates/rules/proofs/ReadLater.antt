-- A chain of an array leads to one call: no argument with effects follows one that is read later.
use Rattle.std.proofs.Common.{◌≡◌, ℕ, true, List, [], ◌∷◌, ◌⊎◌, inl, inr, sym, subst, arith}
use Rattle.meaning.specs.Expression.{Expression, Arguments}
use Rattle.rules.specs.Deciding.{Deciding}
use Rattle.rules.specs.Facts.{Facts}
use Rattle.rules.specs.Building.{append_arguments, flat}
use Rattle.rules.specs.Interleaves.{settled, SettledType}
use Rattle.rules.specs.Interleaving.{no_spread, none_left}
use Rattle.rules.specs.ChainBecomes.{IsArray, AllStill, MayBeReadLater, ArraysApart}
use Rattle.rules.specs.Chain.{is_array, all_read, all_still, calls_apart}
use Rattle.rules.proofs.Leading.{Leads, cond_leads, unless_leads}
use Rattle.rules.proofs.Interleaved.{at_end}

module _ (f : Facts) where
  abbrev AllRead : Arguments → Type 0
  AllRead Arguments.no_arguments = Unit {0}
  AllRead (Arguments.argument x xs) = (IsArray x ⊎ SettledType f x) × AllRead xs
  AllRead (Arguments.spread_argument l x xs) = ⊥

  read_later : (xs zs : Arguments) → AllRead xs → MayBeReadLater f xs zs
  read_later Arguments.no_arguments zs h = tt
  read_later (Arguments.argument x xs) zs h = (by h.0, read_later xs zs h.1)
    where
      by : IsArray x ⊎ SettledType f x → IsArray x ⊎ (SettledType f x ⊎ AllStill f zs)
      by (inl i) = inl i
      by (inr i) = inr (inl i)
  read_later (Arguments.spread_argument l x xs) zs h = absurd h

  still_later : (xs zs : Arguments) → AllStill f zs → MayBeReadLater f xs zs
  still_later Arguments.no_arguments zs h = tt
  still_later (Arguments.argument x xs) zs h = (inr (inr h), still_later xs zs h)
  still_later (Arguments.spread_argument l x xs) zs h = (h, still_later xs zs h)

  still_second : (xs zs : Arguments) → AllStill f (append_arguments xs zs) → AllStill f zs
  unfolding append_arguments
  still_second Arguments.no_arguments zs h = h
  still_second (Arguments.argument x xs) zs h = still_second xs zs h.1
  still_second (Arguments.spread_argument l x xs) zs h = still_second xs zs h.1

  still_apart : (xss : List Arguments) → AllStill f (flat xss) → ArraysApart f xss
  unfolding flat
  still_apart [] h = tt
  still_apart (xs ∷ xss) h = let i = still_second xs (flat xss) h in (still_later xs (flat xss) i, still_apart xss i)

  array_literal : (x : Expression) → is_array x ≡ true → IsArray x
  unfolding is_array
  array_literal (Expression.array l xs) e = IsArray.array
  array_literal x e = let z : ◌≡◌ {A = ℕ} 0 1 = cc in absurd (omega arith)

  module _ (P : Expression → Type 0) where
    all_read_leads : (xs : Arguments) (d e : Deciding) → (AllRead xs → Leads f P d) → Leads f P e → Leads f P (all_read xs d e)
    unfolding all_read
    all_read_leads Arguments.no_arguments d e h k = h tt
    all_read_leads (Arguments.spread_argument l x xs) d e h k = k
    all_read_leads (Arguments.argument x xs) d e h k =
        cond_leads f P (is_array x) _ _ (λ i. all_read_leads xs d e (λ j. h (inl (array_literal x i), j)) k)
        (λ _ t i. cond_leads f P (settled t) _ _ (λ u. all_read_leads xs d e (λ j. h (inr (t, i, u), j)) k) (λ _. k))

    all_still_leads : (xs : Arguments) (d : Deciding) → (AllStill f xs → Leads f P d) → Leads f P (all_still xs d)
    unfolding all_still
    all_still_leads Arguments.no_arguments d h = h tt
    all_still_leads (Arguments.argument x xs) d h = unless_leads f P _ _ _ (λ i. all_still_leads xs d (λ j. h (i, j))) (λ _. tt)
    all_still_leads (Arguments.spread_argument l x xs) d h = unless_leads f P _ _ _ (λ i. all_still_leads xs d (λ j. h (i, j))) (λ _. tt)

    pub apart_leads : (xss : List Arguments) (d : Deciding) → (ArraysApart f xss → Leads f P d) → Leads f P (calls_apart xss d)
    unfolding calls_apart
    apart_leads [] d h = h tt
    apart_leads (xs ∷ xss) d h =
        cond_leads f P (none_left (flat xss)) _ _ (λ e. by_still (subst (AllStill f) (sym (at_end (flat xss) e)) tt))
        (λ _.
        cond_leads f P (no_spread xs) _ _ (λ _. all_read_leads xs _ _ (λ i. apart_leads xss d (λ j. h (read_later xs (flat xss) i, j))) (all_still_leads (flat xss) d by_still))
        (λ _. all_still_leads (flat xss) d by_still))
      where
        by_still : AllStill f (flat xss) → Leads f P d
        by_still i = h (still_later xs (flat xss) i, still_apart xss i)
