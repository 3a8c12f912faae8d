-- What the rules ask of roles, names, texts and arguments is found out.
use Rattle.std.proofs.Common.{◌≡◌, ℕ, true, false, ◌⊎◌, inl, inr, refl, sym, ap, ◌∙◌, arith}
use Rattle.std.proofs.lemmas.Slice.Eq.{bytes_eq-Decides}
use Rattle.meaning.specs.Expression.{Expression, Arguments, Units}
use Rattle.meaning.specs.Parts.{Part}
use Rattle.host.specs.Answers.{Answers}
use Rattle.rules.specs.Places.{Role, IsOutermost}
use Rattle.rules.specs.Deciding.{Deciding, decided, same_name, outermost}
use Rattle.rules.specs.Facts.{said}
use Rattle.rules.specs.Interleaves.{settled, SettledType, EachMayFollow, Interleaves, Short}
use Rattle.rules.specs.Interleaving.{no_spread, none_left, all_quiet, interleaving, short}
use Rattle.rules.proofs.Absurd.{true_false}
use Rattle.rules.proofs.Leading.{unless_decided, cond_decided}

pub same_exactly : (u : Units) → same_name u u ≡ true
same_exactly u = (bytes_eq-Decides u u).1 refl

pub outermost_exactly : (r : Role) → IsOutermost r → outermost r ≡ true
unfolding outermost
outermost_exactly Role.ordinary o = refl
outermost_exactly Role.concat_object o = absurd o
outermost_exactly Role.referred o = refl

pub short_exactly : (c : ℕ) (xs : Arguments) → Short c xs → short c xs ≡ true
unfolding short
short_exactly c xs e = grind arith

pub no_spread_exactly : (a : Answers) (xs : Arguments) → Interleaves (said a) xs → no_spread xs ≡ true
unfolding no_spread
no_spread_exactly a Arguments.no_arguments i = refl
no_spread_exactly a (Arguments.argument x xs) i = no_spread_exactly a xs i.1
no_spread_exactly a (Arguments.spread_argument l x xs) i = absurd i

module _ (a : Answers) where
  -- what may follow an argument that is not settled has no effects
  pub quiet_of : (x y : Expression) → settled (a.value_type (Part.expression x)) ≡ false → SettledType (said a) x ⊎ (a.effects (Part.expression y) ≡ false) → a.effects (Part.expression y) ≡ false
  quiet_of x y u (inl t) = true_false (sym t.2 ∙ ap settled (sym t.1) ∙ u)
  quiet_of x y u (inr q) = q

  pub quiet_after : (x : Expression) (xs : Arguments) (d e : Deciding) → settled (a.value_type (Part.expression x)) ≡ false → EachMayFollow (said a) x xs → decided a (all_quiet xs d e) ≡ decided a d
  unfolding decided all_quiet
  quiet_after x Arguments.no_arguments d e u h = refl
  quiet_after x (Arguments.spread_argument l y ys) d e u h = absurd h
  quiet_after x (Arguments.argument y ys) d e u h = unless_decided a _ _ _ (quiet_of x y u h.0) ∙ quiet_after x ys d e u h.1

  -- whether the arguments interleave is found out
  pub interleaving_decided : (xs : Arguments) (d e : Deciding) → Interleaves (said a) xs → decided a (interleaving xs d e) ≡ decided a d
  unfolding decided interleaving
  interleaving_decided Arguments.no_arguments d e i = refl
  interleaving_decided (Arguments.spread_argument l x xs) d e i = absurd i
  interleaving_decided (Arguments.argument x xs) d e i =
      cond_decided a (none_left xs) d _ _ (λ _. refl)
      (λ _. cond_decided a (settled (a.value_type (Part.expression x))) _ _ _ (λ _. interleaving_decided xs d e i.1) (λ u. quiet_after x xs d e u i.0))
