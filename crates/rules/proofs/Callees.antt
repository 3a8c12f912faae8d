-- A callee that names a known method, and the call of it.
use Rattle.std.proofs.Common.{◌≡◌, ℕ, List, subst}
use Rattle.meaning.specs.Expression.{Expression, Arguments, Units}
use Rattle.meaning.specs.World.{World, ValueIn, Result, Ending, text_value}
use Rattle.meaning.specs.Acts.{Returns, Then, Asks, Mode, Watched}
use Rattle.meaning.specs.Runs.{Pair, mean, arguments, callee, get_method}
use Rattle.meaning.specs.Parts.{Part}
use Rattle.meaning.proofs.Determined.{returns_single, then_single, watched_single, get_method_single, mean_single}
use Rattle.host.specs.Truth.{IsTheLanguagesOwn}
use Rattle.rules.specs.MethodBecomes.{Method}
use Rattle.rules.proofs.Alike.{◌⨾◌, first, second, regroup, begun, constant, watched_alike, watched_gives}
use Rattle.rules.proofs.Keeping.{AlikeActs}

module _ (w : World) where
  -- the language's own name reads as such
  pub own_read : (j : ℕ) (u : Units) → IsTheLanguagesOwn w (Part.expression (Expression.name j u)) → (s : w.State) → w.read u s ≡ Ending.ends (Result.gives (w.own u)) s
  own_read j u h s =
      let e = h.2 in
      let i : h.1 ≡ u = cc in
      subst (λ v. w.read v s ≡ Ending.ends (Result.gives (w.own v)) s) i (h.3 s)

  module _ (c : Mode) where
    -- a static callee and a string-keyed one alike
    pub method_callee : {f o : Expression} {k : Units} → Method f o k
        → AlikeActs w (callee w (mean w c f).run (mean w c f).refers) (Then w.State (ValueIn w) (Pair (ValueIn w)) (mean w c o).run (λ v. get_method w (Pair.pair v (text_value w k))))
    unfolding mean
    method_callee Method.static = regroup ⨾ second (λ v. begun)
    method_callee Method.keyed =
        regroup ⨾ second (λ v. regroup ⨾ first (constant (watched_single c (returns_single _ _ _)) (λ s. watched_gives c Returns.returns)) ⨾ begun ⨾ begun)

    pub own_callee : (m : ℕ) (u k : Units) (f : Expression) (g : ValueIn w) → Method f (Expression.name m u) k → ((s : w.State) → w.read u s ≡ Ending.ends (Result.gives (w.own u)) s) → ((s : w.State) → w.get (w.own u) (text_value w k) s ≡ Ending.ends (Result.gives g) s)
        → AlikeActs w (callee w (mean w c f).run (mean w c f).refers) (Returns w.State (Pair (ValueIn w)) (Pair.pair (w.own u) g))
    own_callee m u k f g i h j = method_callee i ⨾ constant (then_single (mean_single w c (Expression.name m u)).0 (λ v. get_method_single w (Pair.pair v (text_value w k)))) (λ s. Then.goes (own_name m u h s) (Then.goes (Asks.asks (j s)) Returns.returns))
      where
        own_name : (m : ℕ) (u : Units) → ((s : w.State) → w.read u s ≡ Ending.ends (Result.gives (w.own u)) s) → (s : w.State) → (mean w c (Expression.name m u)).run s (Result.gives (w.own u)) s
        own_name m u h s = unfold mean in watched_gives c (Asks.asks (h s))

    -- the whole call, once its callee is known
    pub known_call : (n : ℕ) (f : Expression) (xs : Arguments) (o g : ValueIn w) → AlikeActs w (callee w (mean w c f).run (mean w c f).refers) (Returns w.State (Pair (ValueIn w)) (Pair.pair o g))
        → AlikeActs w (mean w c (Expression.call n f xs)).run (Watched w.State (ValueIn w) (Then w.State (List (ValueIn w)) (ValueIn w) (arguments w c xs) (λ vs. Asks w.State (ValueIn w) (w.apply g o vs))) c)
    unfolding mean
    known_call n f xs o g h = watched_alike c (first h ⨾ begun)
