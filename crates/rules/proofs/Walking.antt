-- A chain of a string leads to a template or one call: all arguments together interleave, or each call by itself.
use Rattle.std.proofs.Common.{◌≡◌, ℕ, true, false, ◌&&◌, List, [], ◌∷◌, length, ◌⊎◌, inl, inr, sym, subst, arith}
use Rattle.std.specs.Cmp.{first_so, second_so}
use Rattle.meaning.specs.Expression.{Expression, Arguments, Units}
use Rattle.rules.specs.Deciding.{Deciding}
use Rattle.rules.specs.Places.{Settings}
use Rattle.rules.specs.Interleaves.{settled, EachMayFollow, Interleaves, Short}
use Rattle.rules.specs.Facts.{Facts}
use Rattle.rules.specs.Building.{joined, flat}
use Rattle.rules.specs.Interleaving.{no_spread, none_left, all_quiet, interleaving, short}
use Rattle.rules.specs.Chain.{each_interleaving, string_chain}
use Rattle.rules.specs.ChainBecomes.{EachInterleaves}
use Rattle.rules.proofs.Leading.{Leads, when_leads, cond_leads, unless_leads}
use Rattle.rules.proofs.Interleaved.{AllQuiet, short_says, at_end, quiet_follow, quiet_interleave, settled_follow, interleaving_leads}
use Rattle.rules.proofs.Together.{AnyEffects, Clashes}

module _ (f : Facts) (P : Expression → Type 0) where
  each_leads : (xss : List Arguments) (d : Deciding) → (EachInterleaves f xss → Leads f P d) → Leads f P (each_interleaving xss d)
  unfolding each_interleaving
  each_leads [] d h = h tt
  each_leads (xs ∷ xss) d h = interleaving_leads f P xs _ _ (λ i. each_leads xss d (λ j. h (i, j))) tt

  -- arguments interleave, or one clashes with an earlier one
  quiet_or : (xs : Arguments) (d e : Deciding) → no_spread xs ≡ true → (AllQuiet f xs → Leads f P d) → (AnyEffects f xs → Leads f P e) → Leads f P (all_quiet xs d e)
  unfolding all_quiet no_spread
  quiet_or Arguments.no_arguments d e s h k = h tt
  quiet_or (Arguments.argument x xs) d e s h k = unless_leads f P _ _ _ (λ i. quiet_or xs d e s (λ j. h (i, j)) (λ j. k (AnyEffects.past j))) (λ i. k (AnyEffects.here i))
  quiet_or (Arguments.spread_argument l x xs) d e s h k = let z : ◌≡◌ {A = ℕ} 0 1 = cc in absurd (omega arith)

  interleaving_or : (xs : Arguments) (d e : Deciding) → no_spread xs ≡ true → (Interleaves f xs → Leads f P d) → (Clashes f xs → Leads f P e) → Leads f P (interleaving xs d e)
  unfolding interleaving no_spread
  interleaving_or Arguments.no_arguments d e s h k = h tt
  interleaving_or (Arguments.spread_argument l x xs) d e s h k = let z : ◌≡◌ {A = ℕ} 0 1 = cc in absurd (omega arith)
  interleaving_or (Arguments.argument x xs) d e s h k =
      cond_leads f P (none_left xs) d _ (λ i. h (subst (λ z. EachMayFollow f x z × Interleaves f z) (sym (at_end xs i)) (tt, tt)))
      (λ i t j.
      cond_leads f P (settled t) _ _
      (λ u. interleaving_or xs d e s (λ v. h (settled_follow f x xs (t, j, u) v, v)) (λ v. k (Clashes.past v)))
      (λ u. quiet_or xs d e s (λ v. h (quiet_follow f x xs v, quiet_interleave f xs v)) (λ v. k (Clashes.here (t, j, u) v))))

-- what a chain of a string leads to
pub data StringLed (f : Facts) (s : Settings) (next : ℕ) (g : Expression) (u : Units) (xss : List Arguments) : Expression → Type 0 where
  template : s.templates ≡ true → EachInterleaves f xss → Short 1 (flat xss) ⊎ (Short (length xss) (flat xss) × Clashes f (flat xss)) → StringLed f s next g u xss (joined next u (flat xss))
  call : Interleaves f (flat xss) → (s.templates && short 1 (flat xss)) ≡ false → StringLed f s next g u xss (Expression.call next g (flat xss))

pub string_leads : (f : Facts) (s : Settings) (next : ℕ) (g : Expression) (u : Units) (xss : List Arguments) → Leads f (StringLed f s next g u xss) (string_chain s next g u xss)
unfolding string_chain
string_leads f s next g u xss =
    when_leads f P (no_spread (flat xss)) _
    (λ e.
    cond_leads f P (s.templates && short 1 (flat xss)) _ _
    (λ h. each_leads f P xss _ (λ i. StringLed.template (first_so s.templates (short 1 (flat xss)) h) i (inl (short_says 1 (flat xss) (second_so s.templates (short 1 (flat xss)) h)))))
    (λ n.
    interleaving_or f P (flat xss) _ _ e (λ i. StringLed.call i n)
    (λ c.
    when_leads f P (s.templates && short (length xss) (flat xss)) _
    (λ h.
    each_leads f P xss _
    (λ i. StringLed.template (first_so s.templates (short (length xss) (flat xss)) h) i (inr (short_says (length xss) (flat xss) (second_so s.templates (short (length xss) (flat xss)) h), c)))))))
  where
    P : Expression → Type 0
    P = StringLed f s next g u xss
