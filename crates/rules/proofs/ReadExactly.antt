-- Whether no argument with effects follows one that is read later, is found out.
use Rattle.std.proofs.Common.{◌≡◌, ℕ, Bool, true, false, cond, List, [], ◌∷◌, ◌⊎◌, inl, inr, refl, sym, ap, ◌∙◌, arith}
use Rattle.host.specs.Answers.{Answers}
use Rattle.meaning.specs.Expression.{Expression, Arguments}
use Rattle.meaning.specs.Parts.{Part}
use Rattle.rules.specs.Deciding.{Deciding, decided}
use Rattle.rules.specs.Facts.{said}
use Rattle.rules.specs.Building.{flat}
use Rattle.rules.specs.Interleaves.{settled, SettledType}
use Rattle.rules.specs.Interleaving.{no_spread, none_left}
use Rattle.rules.specs.ChainBecomes.{IsArray, AllStill, MayBeReadLater, ArraysApart}
use Rattle.rules.specs.Chain.{is_array, all_read, all_still, calls_apart}
use Rattle.rules.proofs.Absurd.{true_false}
use Rattle.rules.proofs.Leading.{unless_decided, cond_decided}

module _ (a : Answers) where
  still_decided : (xs : Arguments) (d : Deciding) → AllStill (said a) xs → decided a (all_still xs d) ≡ decided a d
  unfolding all_still decided
  still_decided Arguments.no_arguments d h = refl
  still_decided (Arguments.argument x xs) d h = unless_decided a _ _ _ h.0 ∙ still_decided xs d h.1
  still_decided (Arguments.spread_argument l x xs) d h = unless_decided a _ _ _ h.0 ∙ still_decided xs d h.1

  -- a spread, and what is neither an array literal nor settled, wants all later arguments without effects
  spread_still : (xs zs : Arguments) → no_spread xs ≡ false → MayBeReadLater (said a) xs zs → AllStill (said a) zs
  unfolding no_spread
  spread_still Arguments.no_arguments zs e h = let z : ◌≡◌ {A = ℕ} 0 1 = cc in absurd (omega arith)
  spread_still (Arguments.argument x xs) zs e h = spread_still xs zs e h.1
  spread_still (Arguments.spread_argument l x xs) zs e h = h.0

  no_array : {x : Expression} {A : Type 0} → IsArray x → is_array x ≡ false → A
  unfolding is_array
  no_array IsArray.array e = let z : ◌≡◌ {A = ℕ} 0 1 = cc in absurd (omega arith)

  unread_still : (x : Expression) (zs : Arguments) → is_array x ≡ false → settled (a.value_type (Part.expression x)) ≡ false → IsArray x ⊎ (SettledType (said a) x ⊎ AllStill (said a) zs) → AllStill (said a) zs
  unread_still x zs e u (inl i) = no_array i e
  unread_still x zs e u (inr (inl s)) = true_false (sym s.2 ∙ ap settled (sym s.1) ∙ u)
  unread_still x zs e u (inr (inr h)) = h

  read_decided : (xs zs : Arguments) (d e : Deciding) (z : Rattle.std.proofs.Common.Option Expression) → MayBeReadLater (said a) xs zs → decided a d ≡ z → (AllStill (said a) zs → decided a e ≡ z) → decided a (all_read xs d e) ≡ z
  unfolding all_read decided
  read_decided Arguments.no_arguments zs d e z h p q = p
  read_decided (Arguments.spread_argument l x xs) zs d e z h p q = q h.0
  read_decided (Arguments.argument x xs) zs d e z h p q =
      cond_decided a (is_array x) _ _ z (λ _. read_decided xs zs d e z h.1 p q)
      (λ i. cond_decided a (settled (a.value_type (Part.expression x))) _ _ z (λ _. read_decided xs zs d e z h.1 p q) (λ u. q (unread_still x zs i u h.0)))

  pub apart_decided : (xss : List Arguments) (d : Deciding) → ArraysApart (said a) xss → decided a (calls_apart xss d) ≡ decided a d
  unfolding calls_apart
  apart_decided [] d i = refl
  apart_decided (xs ∷ xss) d i =
      cond_decided a (none_left (flat xss)) _ _ (decided a d) (λ _. refl)
      (λ _.
      cond_decided a (no_spread xs) _ _ (decided a d)
      (λ _. read_decided xs (flat xss) (calls_apart xss d) (all_still (flat xss) d) (decided a d) i.0 (apart_decided xss d i.1) (λ h. still_decided (flat xss) d h))
      (λ e. still_decided (flat xss) d (spread_still xs (flat xss) e i.0)))
