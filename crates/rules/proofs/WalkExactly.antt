-- Whether a string's calls interleave, together or each, is found out.
use Rattle.std.proofs.Common.{◌≡◌, Bool, true, false, cond, List, [], ◌∷◌, ◌⊎◌, inl, inr, refl, sym, subst, ◌∙◌}
use Rattle.host.specs.Answers.{Answers}
use Rattle.meaning.specs.Expression.{Expression, Arguments}
use Rattle.meaning.specs.Parts.{Part}
use Rattle.rules.specs.Deciding.{Deciding, decided, unless_effects}
use Rattle.rules.specs.Interleaves.{settled, EachMayFollow, Interleaves}
use Rattle.rules.specs.Facts.{said}
use Rattle.rules.specs.Interleaving.{no_spread, none_left, all_quiet, interleaving}
use Rattle.rules.specs.Chain.{each_interleaving}
use Rattle.rules.specs.ChainBecomes.{EachInterleaves}
use Rattle.rules.proofs.Interleaved.{AllQuiet, at_end, quiet_follow, quiet_interleave, settled_follow}
use Rattle.rules.proofs.Together.{AnyEffects, Clashes}
use Rattle.rules.proofs.ConditionsExactly.{interleaving_decided, quiet_of}
use Rattle.rules.proofs.Absurd.{true_false}

module _ (a : Answers) where
  pub each_decided : (xss : List Arguments) (d : Deciding) → EachInterleaves (said a) xss → decided a (each_interleaving xss d) ≡ decided a d
  unfolding each_interleaving
  each_decided [] d i = refl
  each_decided (xs ∷ xss) d i = interleaving_decided a xs _ _ i.0 ∙ each_decided xss d i.1

  -- behind what is not settled nothing has effects, if it interleaves
  pub quiet_all : (x : Expression) (xs : Arguments) → settled (a.value_type (Part.expression x)) ≡ false → EachMayFollow (said a) x xs → AllQuiet (said a) xs
  quiet_all x Arguments.no_arguments u h = tt
  quiet_all x (Arguments.argument y ys) u h = (quiet_of a x y u h.0, quiet_all x ys u h.1)
  quiet_all x (Arguments.spread_argument l y ys) u h = absurd h

  -- whether all arguments interleave is found out, and if not, which clash
  abbrev Found : Arguments → Deciding → Deciding → Deciding → Type 0
  Found xs c d e = (Interleaves (said a) xs × (decided a c ≡ decided a d)) ⊎ (Clashes (said a) xs × (decided a c ≡ decided a e))

  abbrev FoundQuiet : Arguments → Deciding → Deciding → Deciding → Type 0
  FoundQuiet xs c d e = (AllQuiet (said a) xs × (decided a c ≡ decided a d)) ⊎ (AnyEffects (said a) xs × (decided a c ≡ decided a e))

  quiet_by : (x : Expression) (xs : Arguments) (c d e : Deciding) (b : Bool) → a.effects (Part.expression x) ≡ b → FoundQuiet xs c d e
      → (AllQuiet (said a) (Arguments.argument x xs) × (decided a (unless_effects b c e) ≡ decided a d)) ⊎ (AnyEffects (said a) (Arguments.argument x xs) × (decided a (unless_effects b c e) ≡ decided a e))
  unfolding unless_effects
  quiet_by x xs c d e true h k = inr (AnyEffects.here h, refl)
  quiet_by x xs c d e false h (inl k) = inl ((h, k.0), k.1)
  quiet_by x xs c d e false h (inr k) = inr (AnyEffects.past k.0, k.1)

  quiet_found : (xs : Arguments) (d e : Deciding) → no_spread xs ≡ true → FoundQuiet xs (all_quiet xs d e) d e
  unfolding all_quiet no_spread decided
  quiet_found Arguments.no_arguments d e s = inl (tt, refl)
  quiet_found (Arguments.argument x xs) d e s = quiet_by x xs (all_quiet xs d e) d e (a.effects (Part.expression x)) refl (quiet_found xs d e s)
  quiet_found (Arguments.spread_argument l x xs) d e s = true_false (sym s)

  -- by whether it is the last one, and whether it is settled
  settled_by : (x : Expression) (xs : Arguments) (d e : Deciding) (b : Bool) → settled (a.value_type (Part.expression x)) ≡ b
      → Found xs (interleaving xs d e) d e → FoundQuiet xs (all_quiet xs d e) d e → Found (Arguments.argument x xs) (cond b (interleaving xs d e) (all_quiet xs d e)) d e
  settled_by x xs d e true s (inl k) h = inl ((settled_follow (said a) x xs (a.value_type (Part.expression x), refl, s) k.0, k.0), k.1)
  settled_by x xs d e true s (inr k) h = inr (Clashes.past k.0, k.1)
  settled_by x xs d e false s h (inl k) = inl ((quiet_follow (said a) x xs k.0, quiet_interleave (said a) xs k.0), k.1)
  settled_by x xs d e false s h (inr k) = inr (Clashes.here (a.value_type (Part.expression x), refl, s) k.0, k.1)

  last_by : (x : Expression) (xs : Arguments) (d e m : Deciding) (b : Bool) → none_left xs ≡ b → Found (Arguments.argument x xs) m d e → Found (Arguments.argument x xs) (cond b d m) d e
  last_by x xs d e m true l h = inl (subst (λ z. Interleaves (said a) (Arguments.argument x z)) (sym (at_end xs l)) (tt, tt), refl)
  last_by x xs d e m false l h = h

  pub interleaving_found : (xs : Arguments) (d e : Deciding) → no_spread xs ≡ true → Found xs (interleaving xs d e) d e
  unfolding interleaving no_spread decided
  interleaving_found Arguments.no_arguments d e s = inl (tt, refl)
  interleaving_found (Arguments.argument x xs) d e s =
      last_by x xs d e (Deciding.ask_type (Part.expression x) (λ t. cond (settled t) (interleaving xs d e) (all_quiet xs d e))) (none_left xs) refl
      (settled_by x xs d e (settled (a.value_type (Part.expression x))) refl (interleaving_found xs d e s) (quiet_found xs d e s))
  interleaving_found (Arguments.spread_argument l x xs) d e s = true_false (sym s)
