-- Acts with the same runs, and how they are rearranged.
use Rattle.std.proofs.Common.{◌≡◌, refl, sym, subst, ◌∙◌, ap}
use Rattle.meaning.specs.World.{Result, Ending, ◌>>=◌}
use Rattle.meaning.specs.Acts.{Act, Returns, Then, Asks, Settles, Mode, Watched, Still}
use Rattle.meaning.proofs.Replacing.{Implies, then_both, watched_both}
use Rattle.meaning.proofs.Determined.{Same, Single}

pub record Alike (S A : Type 0) (a b : Act S A) : Type 0 where
  pub forth : Implies S A a b
  pub back : Implies S A b a

infixr 30 ◌⨾◌
module _ {S : Type 0} where
  pub itself : {A : Type 0} {a : Act S A} → Alike S A a a
  itself = record { forth = λ s r t d. d; back = λ s r t d. d }

  pub ◌⨾◌ : {A : Type 0} {a b c : Act S A} → Alike S A a b → Alike S A b c → Alike S A a c
  ◌⨾◌ p q = record { forth = λ s r t d. q.forth s r t (p.forth s r t d); back = λ s r t d. p.back s r t (q.back s r t d) }

  pub turned : {A : Type 0} {a b : Act S A} → Alike S A a b → Alike S A b a
  turned p = record { forth = p.back; back = p.forth }

  pub first : {A B : Type 0} {m m2 : Act S A} {k : A → Act S B} → Alike S A m m2 → Alike S B (Then S A B m k) (Then S A B m2 k)
  first p = record { forth = then_both p.forth (λ a s r t d. d); back = then_both p.back (λ a s r t d. d) }

  pub second : {A B : Type 0} {m : Act S A} {k k2 : A → Act S B} → ((a : A) → Alike S B (k a) (k2 a)) → Alike S B (Then S A B m k) (Then S A B m k2)
  second p = record { forth = then_both (λ s r t d. d) (λ a. (p a).forth); back = then_both (λ s r t d. d) (λ a. (p a).back) }

  -- the second need only be alike after what the first can end with
  after_one : {A B : Type 0} {m : Act S A} {k k2 : A → Act S B} → ((a : A) (s u : S) → m s (Result.gives a) u → (r : Result B) (t : S) → k a u r t → k2 a u r t) → Implies S B (Then S A B m k) (Then S A B m k2)
  after_one p s r t (Then.goes d e) = Then.goes d (p _ _ _ d _ _ e)
  after_one p s r t (Then.stops d) = Then.stops d

  pub after : {A B : Type 0} {m : Act S A} {k k2 : A → Act S B} → ((a : A) (s u : S) → m s (Result.gives a) u → Alike S B (k a) (k2 a)) → Alike S B (Then S A B m k) (Then S A B m k2)
  after p = record { forth = after_one (λ a s u d. (p a s u d).forth u); back = after_one (λ a s u d. (p a s u d).back u) }

  regroup_forth : {A B C : Type 0} {m : Act S A} {k : A → Act S B} {l : B → Act S C} → Implies S C (Then S B C (Then S A B m k) l) (Then S A C m (λ a. Then S B C (k a) l))
  regroup_forth s r t (Then.goes (Then.goes p q) e) = Then.goes p (Then.goes q e)
  regroup_forth s r t (Then.stops (Then.goes p q)) = Then.goes p (Then.stops q)
  regroup_forth s r t (Then.stops (Then.stops p)) = Then.stops p

  regroup_back : {A B C : Type 0} {m : Act S A} {k : A → Act S B} {l : B → Act S C} → Implies S C (Then S A C m (λ a. Then S B C (k a) l)) (Then S B C (Then S A B m k) l)
  regroup_back s r t (Then.goes p (Then.goes q e)) = Then.goes (Then.goes p q) e
  regroup_back s r t (Then.goes p (Then.stops q)) = Then.stops (Then.goes p q)
  regroup_back s r t (Then.stops p) = Then.stops (Then.stops p)

  pub regroup : {A B C : Type 0} {m : Act S A} {k : A → Act S B} {l : B → Act S C} → Alike S C (Then S B C (Then S A B m k) l) (Then S A C m (λ a. Then S B C (k a) l))
  regroup = record { forth = regroup_forth; back = regroup_back }

  begun_forth : {A B : Type 0} {a : A} {k : A → Act S B} → Implies S B (Then S A B (Returns S A a) k) (k a)
  begun_forth s r t (Then.goes Returns.returns q) = q
  begun_forth s r t (Then.stops d) = elim d [ ]

  pub begun : {A B : Type 0} {a : A} {k : A → Act S B} → Alike S B (Then S A B (Returns S A a) k) (k a)
  begun = record { forth = begun_forth; back = λ s r t d. Then.goes Returns.returns d }

  ended_forth : {A : Type 0} {m : Act S A} → Implies S A (Then S A A m (λ a. Returns S A a)) m
  ended_forth s r t (Then.goes d Returns.returns) = d
  ended_forth s r t (Then.stops d) = d

  ended_back : {A : Type 0} {m : Act S A} → Implies S A m (Then S A A m (λ a. Returns S A a))
  ended_back s (Result.gives a) t d = Then.goes d Returns.returns
  ended_back s Result.throws t d = Then.stops d

  pub ended : {A : Type 0} {m : Act S A} → Alike S A (Then S A A m (λ a. Returns S A a)) m
  ended = record { forth = ended_forth; back = ended_back }

  returns_as : {A : Type 0} {a b : A} → a ≡ b → Implies S A (Returns S A a) (Returns S A b)
  returns_as {A} {a} {b} e s r t Returns.returns = subst (λ x. Returns S A b s (Result.gives x) s) (sym e) Returns.returns

  pub returns_alike : {A : Type 0} {a b : A} → a ≡ b → Alike S A (Returns S A a) (Returns S A b)
  returns_alike e = record { forth = returns_as e; back = returns_as (sym e) }

  same_returns : {A : Type 0} {a : A} {s : S} {r : Result A} {t : S} → Same S (Result A) (Result.gives a) s r t → Returns S A a s r t
  same_returns Same.same = Returns.returns

  returns_forth : {A : Type 0} (m : Act S A) {a : A} → ((s : S) → m s (Result.gives a) s) → Implies S A (Returns S A a) m
  returns_forth m h s r t Returns.returns = h s

  -- what always gives one value and changes nothing
  pub constant : {A : Type 0} {m : Act S A} {a : A} → Single S A m → ((s : S) → m s (Result.gives a) s) → Alike S A m (Returns S A a)
  constant {A} {m} {a} h j = record { forth = λ s r t d. same_returns (h s _ _ _ _ (j s) d); back = returns_forth m j }

  asks_settles_forth : {A : Type 0} {f : S → Ending S A} {g : S → Result A} → ((s : S) → f s ≡ Ending.ends (g s) s) → Implies S A (Settles S A g) (Asks S A f)
  asks_settles_forth h s r t (Settles.settles e) = Asks.asks (h s ∙ ap (λ x. Ending.ends x s) e)

  asks_settles_back : {A : Type 0} {f : S → Ending S A} {g : S → Result A} → ((s : S) → f s ≡ Ending.ends (g s) s) → Implies S A (Asks S A f) (Settles S A g)
  asks_settles_back {A} {f} {g} h s r t (Asks.asks e) =
      let i = h s in
      let p : s ≡ t = cc in
      let q : g s ≡ r = cc in
      subst (λ x. Settles S A g s r x) p (Settles.settles q)

  pub asks_settles : {A : Type 0} {f : S → Ending S A} {g : S → Result A} → ((s : S) → f s ≡ Ending.ends (g s) s) → Alike S A (Asks S A f) (Settles S A g)
  asks_settles h = record { forth = asks_settles_back h; back = asks_settles_forth h }

  settled_as : {A : Type 0} {f g : S → Result A} → ((s : S) → f s ≡ g s) → Implies S A (Settles S A f) (Settles S A g)
  settled_as h s r t (Settles.settles e) = Settles.settles (sym (h s) ∙ e)

  pub settles_alike : {A : Type 0} {f g : S → Result A} → ((s : S) → f s ≡ g s) → Alike S A (Settles S A f) (Settles S A g)
  settles_alike h = record { forth = settled_as h; back = settled_as (λ s. sym (h s)) }

  -- two in a row
  settles_then_forth : {A B : Type 0} {f : S → Result A} {g : A → S → Result B} → Implies S B (Then S A B (Settles S A f) (λ a. Settles S B (g a))) (Settles S B (λ s. f s >>= λ a. g a s))
  unfolding ◌>>=◌
  settles_then_forth {f} {g} s r t (Then.goes (Settles.settles e) (Settles.settles i)) = Settles.settles (ap (λ x. x >>= λ a. g a s) e ∙ i)
  settles_then_forth {f} {g} s r t (Then.stops (Settles.settles e)) = Settles.settles (ap (λ x. x >>= λ a. g a s) e)

  settles_by : {A B : Type 0} {f : S → Result A} {g : A → S → Result B} (s : S) (x : Result A) → f s ≡ x → {r : Result B} → (x >>= λ a. g a s) ≡ r → Then S A B (Settles S A f) (λ a. Settles S B (g a)) s r s
  unfolding ◌>>=◌
  settles_by {A} {B} {f} {g} s (Result.gives a) e p = Then.goes (Settles.settles e) (Settles.settles p)
  settles_by {A} {B} {f} {g} s Result.throws e p = subst (λ z. Then S A B (Settles S A f) (λ a. Settles S B (g a)) s z s) p (Then.stops (Settles.settles e))

  settles_then_back : {A B : Type 0} {f : S → Result A} {g : A → S → Result B} → Implies S B (Settles S B (λ s. f s >>= λ a. g a s)) (Then S A B (Settles S A f) (λ a. Settles S B (g a)))
  settles_then_back {f} {g} s r t (Settles.settles e) = settles_by s (f s) refl e

  pub settles_then : {A B : Type 0} {f : S → Result A} {g : A → S → Result B} → Alike S B (Then S A B (Settles S A f) (λ a. Settles S B (g a))) (Settles S B (λ s. f s >>= λ a. g a s))
  settles_then = record { forth = settles_then_forth; back = settles_then_back }

  settles_gives_forth : {A : Type 0} {a : A} → Implies S A (Settles S A (λ s. Result.gives a)) (Returns S A a)
  settles_gives_forth {A} {a} s r t (Settles.settles e) = subst (λ x. Returns S A a s x s) e Returns.returns

  settles_gives_back : {A : Type 0} {a : A} → Implies S A (Returns S A a) (Settles S A (λ s. Result.gives a))
  settles_gives_back s r t Returns.returns = Settles.settles refl

  pub settles_gives : {A : Type 0} {a : A} → Alike S A (Settles S A (λ s. Result.gives a)) (Returns S A a)
  settles_gives = record { forth = settles_gives_forth; back = settles_gives_back }

  pub watched_alike : {A : Type 0} {a b : Act S A} (c : Mode) → Alike S A a b → Alike S A (Watched S A a c) (Watched S A b c)
  watched_alike c p = record { forth = watched_both c p.forth; back = watched_both c p.back }

  pub watched_gives : {A : Type 0} {m : Act S A} {a : A} {s : S} (c : Mode) → m s (Result.gives a) s → Watched S A m c s (Result.gives a) s
  watched_gives Mode.free d = Watched.freely d
  watched_gives Mode.calm d = Watched.calmly d Still.still

  pub unwatched : {A : Type 0} {m : Act S A} (c : Mode) → Implies S A (Watched S A m c) m
  unwatched Mode.free s r t (Watched.freely d) = d
  unwatched Mode.calm s r t (Watched.calmly d _) = d

  pub freely : {A : Type 0} {m : Act S A} → Alike S A (Watched S A m Mode.free) m
  freely = record { forth = unwatched Mode.free; back = λ s r t d. Watched.freely d }

same_over : {S A : Type 0} (b : Act S A) {v : A} {s : S} {r : Result A} {t : S} → Same S (Result A) (Result.gives v) s r t → b s (Result.gives v) s → b s r t
same_over b Same.same d = d

-- two acts that from each state give one value and change nothing
pub pointwise : {S A : Type 0} (a b : Act S A) → Single S A a → Single S A b → ((s : S) → (v : A) × a s (Result.gives v) s × b s (Result.gives v) s) → Alike S A a b
pointwise a b h j k = record { forth = λ s r t d. same_over b (h s _ _ _ _ (k s).1 d) (k s).2; back = λ s r t d. same_over a (j s _ _ _ _ (k s).2 d) (k s).1 }
