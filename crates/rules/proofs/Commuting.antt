-- What settles may go before what changes nothing, or after it.
use Rattle.std.proofs.Common.{◌≡◌, refl, subst, ap, ◌∙◌}
use Rattle.meaning.specs.World.{Result, ◌>>=◌}
use Rattle.meaning.specs.Acts.{Act, Then, Settles}
use Rattle.meaning.proofs.Replacing.{Implies}
use Rattle.meaning.proofs.Determined.{Same, Single, gives_throws, same_value}
use Rattle.rules.proofs.Alike.{Alike}

module _ {S A B C : Type 0} (m : Act S A) (h : Single S A m) (j : (s : S) → (a : A) × m s (Result.gives a) s) (f : S → Result C) (g : C → A → S → Result B) where
  late : Act S B
  late = Then S A B m (λ a. Settles S B (λ s. f s >>= λ z. g z a s))

  early : Act S B
  early = Then S C B (Settles S C f) (λ z. Then S A B m (λ a. Settles S B (g z a)))

  early_by : (s : S) (a : A) → m s (Result.gives a) s → (x : Result C) → f s ≡ x → {r : Result B} → (x >>= λ z. g z a s) ≡ r → early s r s
  unfolding early ◌>>=◌
  early_by s a p (Result.gives z) e i = Then.goes (Settles.settles e) (Then.goes p (Settles.settles i))
  early_by s a p Result.throws e i = subst (λ x. early s x s) i (Then.stops (Settles.settles e))

  still_early : (s u : S) (a b : A) → Same S (Result A) (Result.gives b) s (Result.gives a) u → m s (Result.gives a) u → {r : Result B} → (f u >>= λ z. g z a u) ≡ r → early s r u
  still_early s u a b Same.same p e = early_by s a p (f s) refl e

  to_early : Implies S B late early
  unfolding late
  to_early s r t (Then.goes {u = u} {a = a} p (Settles.settles e)) = still_early s u a (j s).0 (h s _ _ _ _ (j s).1 p) p e
  to_early s r t (Then.stops p) = gives_throws (same_value (h s _ _ _ _ (j s).1 p))

  still_late : (s u : S) (a b : A) (z : C) → Same S (Result A) (Result.gives b) s (Result.gives a) u → m s (Result.gives a) u → f s ≡ Result.gives z → {r : Result B} → g z a u ≡ r → late s r u
  unfolding late ◌>>=◌
  still_late s u a b z Same.same p e i = Then.goes p (Settles.settles (ap (λ x. x >>= λ y. g y a s) e ∙ i))

  to_late : Implies S B early late
  unfolding early late ◌>>=◌
  to_late s r t (Then.goes (Settles.settles e) (Then.goes {u = u} {a = a} p (Settles.settles i))) = still_late s u a (j s).0 _ (h s _ _ _ _ (j s).1 p) p e i
  to_late s r t (Then.goes (Settles.settles e) (Then.stops p)) = gives_throws (same_value (h s _ _ _ _ (j s).1 p))
  to_late s r t (Then.stops (Settles.settles e)) = Then.goes (j s).1 (Settles.settles (ap (λ x. x >>= λ y. g y (j s).0 s) e))

  pub commute : Alike S B (Then S A B m (λ a. Settles S B (λ s. f s >>= λ z. g z a s))) (Then S C B (Settles S C f) (λ z. Then S A B m (λ a. Settles S B (g z a))))
  unfolding early late
  commute = record { forth = to_early; back = to_late }
