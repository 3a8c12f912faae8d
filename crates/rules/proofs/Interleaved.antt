-- Where the program says that arguments interleave, they do.
use Rattle.std.proofs.Common.{◌≡◌, ℕ, true, false, inl, inr, refl, sym, subst, arith}
use Rattle.meaning.specs.Expression.{Expression, Arguments}
use Rattle.meaning.specs.Parts.{Part}
use Rattle.rules.specs.Deciding.{Deciding}
use Rattle.rules.specs.Facts.{Facts}
use Rattle.rules.specs.Interleaves.{settled, SettledType, EachMayFollow, Interleaves, Short}
use Rattle.rules.specs.Interleaving.{none_left, all_quiet, interleaving, short, no_spread}
use Rattle.rules.proofs.Leading.{Leads, cond_leads, unless_leads}

-- no argument is a spread or has effects
abbrev pub AllQuiet : Facts → Arguments → Type 0
AllQuiet f Arguments.no_arguments = Unit {0}
AllQuiet f (Arguments.argument x xs) = f.effects false (Part.expression x) × AllQuiet f xs
AllQuiet f (Arguments.spread_argument l x xs) = ⊥

-- no argument is a spread
abbrev pub NoSpread : Arguments → Type 0
NoSpread Arguments.no_arguments = Unit {0}
NoSpread (Arguments.argument x xs) = NoSpread xs
NoSpread (Arguments.spread_argument l x xs) = ⊥

pub without_spread : (xs : Arguments) → no_spread xs ≡ true → NoSpread xs
unfolding no_spread
without_spread Arguments.no_arguments e = tt
without_spread (Arguments.argument x xs) e = without_spread xs e
without_spread (Arguments.spread_argument l x xs) e = let z : ◌≡◌ {A = ℕ} 0 1 = cc in absurd (omega arith)

-- the list at its end
pub at_end : (xs : Arguments) → none_left xs ≡ true → xs ≡ Arguments.no_arguments
unfolding none_left
at_end Arguments.no_arguments e = refl
at_end (Arguments.argument x xs) e = let z : ◌≡◌ {A = ℕ} 0 1 = cc in absurd (omega arith)
at_end (Arguments.spread_argument l x xs) e = let z : ◌≡◌ {A = ℕ} 0 1 = cc in absurd (omega arith)

pub short_says : (c : ℕ) (xs : Arguments) → short c xs ≡ true → Short c xs
unfolding short
short_says c xs e = grind arith

module _ (f : Facts) where
  -- what has no effects may follow anything
  pub quiet_follow : (x : Expression) (xs : Arguments) → AllQuiet f xs → EachMayFollow f x xs
  quiet_follow x Arguments.no_arguments h = tt
  quiet_follow x (Arguments.argument y ys) h = (inr h.0, quiet_follow x ys h.1)
  quiet_follow x (Arguments.spread_argument l y ys) h = absurd h

  pub quiet_interleave : (xs : Arguments) → AllQuiet f xs → Interleaves f xs
  quiet_interleave Arguments.no_arguments h = tt
  quiet_interleave (Arguments.argument x xs) h = (quiet_follow x xs h.1, quiet_interleave xs h.1)
  quiet_interleave (Arguments.spread_argument l x xs) h = absurd h

  -- and anything may follow what is settled, if it interleaves
  pub settled_follow : (x : Expression) (xs : Arguments) → SettledType f x → Interleaves f xs → EachMayFollow f x xs
  settled_follow x Arguments.no_arguments h i = tt
  settled_follow x (Arguments.argument y ys) h i = (inl h, settled_follow x ys h i.1)
  settled_follow x (Arguments.spread_argument l y ys) h i = absurd i

  module _ (P : Expression → Type 0) where
    pub quiet_leads : (xs : Arguments) (d e : Deciding) → (AllQuiet f xs → Leads f P d) → Leads f P e → Leads f P (all_quiet xs d e)
    unfolding all_quiet
    quiet_leads Arguments.no_arguments d e h k = h tt
    quiet_leads (Arguments.argument x xs) d e h k = unless_leads f P _ _ _ (λ i. quiet_leads xs d e (λ j. h (i, j)) k) (λ i. k)
    quiet_leads (Arguments.spread_argument l x xs) d e h k = k

    pub interleaving_leads : (xs : Arguments) (d e : Deciding) → (Interleaves f xs → Leads f P d) → Leads f P e → Leads f P (interleaving xs d e)
    unfolding interleaving
    interleaving_leads Arguments.no_arguments d e h k = h tt
    interleaving_leads (Arguments.spread_argument l x xs) d e h k = k
    interleaving_leads (Arguments.argument x xs) d e h k =
        cond_leads f P (none_left xs) d _ (λ i. h (subst (λ z. EachMayFollow f x z × Interleaves f z) (sym (at_end xs i)) (tt, tt)))
        (λ i t j.
        cond_leads f P (settled t) _ _
        (λ u. interleaving_leads xs d e (λ v. h (settled_follow x xs (t, j, u) v, v)) k)
        (λ u. quiet_leads xs d e (λ v. h (quiet_follow x xs v, quiet_interleave xs v)) k))
