-- A chain of `concat` on an array has the runs of one call.
use Rattle.std.proofs.Common.{◌≡◌, ℕ, List, [], ◌∷◌, ◌++◌, refl, sym, ap, ◌∙◌, ◌⊎◌, inl, inr, append_assoc}
use Rattle.meaning.specs.Expression.{Expression, Elements, Arguments}
use Rattle.meaning.specs.Value.{Value, join_slots}
use Rattle.meaning.specs.World.{World, ValueIn, SlotsIn, Result, ◌>>=◌}
use Rattle.meaning.specs.Methods.{concat_name, spread_slots, slots_joined, array_concat_result}
use Rattle.meaning.specs.Acts.{Act, Returns, Then, Settles, Mode, Watched}
use Rattle.meaning.specs.Runs.{mean, elements, arguments}
use Rattle.meaning.specs.Premises.{Premises}
use Rattle.meaning.specs.Replacing.{Keeps}
use Rattle.meaning.proofs.Replacing.{Implies, then_first}
use Rattle.meaning.proofs.Calming.{forget_arguments}
use Rattle.meaning.proofs.Determined.{arguments_single}
use Rattle.rules.specs.Facts.{true_in}
use Rattle.rules.specs.Building.{append_arguments, flat}
use Rattle.rules.specs.Interleaves.{SettledType}
use Rattle.rules.specs.MethodBecomes.{Method}
use Rattle.rules.specs.ChainBecomes.{Calls, IsArray, AllStill, MayBeReadLater, ArraysApart}
use Rattle.rules.proofs.Alike.{◌⨾◌, turned, first, second, after, regroup, begun, ended, returns_alike, asks_settles, settles_alike, settles_then, settles_gives, watched_gives, unwatched, freely}
use Rattle.rules.proofs.Keeping.{AlikeActs}
use Rattle.rules.proofs.Texts.{OneSpread, one_spread}
use Rattle.rules.proofs.Commuting.{commute}
use Rattle.rules.proofs.Merging.{array_run, array_call, found}
use Rattle.rules.proofs.StringChains.{concat_call, call_run}

module _ (w : World) where
  -- reading them gives one result, whatever the state
  abbrev AllRead : Arguments → Type 0
  AllRead Arguments.no_arguments = Unit {0}
  AllRead (Arguments.argument x xs) = OneSpread w x × AllRead xs
  AllRead (Arguments.spread_argument l x xs) = ⊥

  array_read : (x : Expression) → IsArray x → OneSpread w x
  unfolding mean spread_slots
  array_read x (IsArray.array {xs = xs}) s v t (Watched.freely (Then.goes d Returns.returns)) = (_, λ s. refl)

  -- each may be read later: all may, or nothing happens later
  read_or_still : (xs zs : Arguments) → MayBeReadLater (true_in w) xs zs → AllRead xs ⊎ AllStill (true_in w) zs
  read_or_still Arguments.no_arguments zs h = inl tt
  read_or_still (Arguments.spread_argument l x xs) zs h = inr h.0
  read_or_still (Arguments.argument x xs) zs h = by h.0 (read_or_still xs zs h.1)
    where
      by : IsArray x ⊎ (SettledType (true_in w) x ⊎ AllStill (true_in w) zs) → AllRead xs ⊎ AllStill (true_in w) zs → AllRead (Arguments.argument x xs) ⊎ AllStill (true_in w) zs
      by (inl i) (inl j) = inl (array_read x i, j)
      by (inr (inl i)) (inl j) = inl (one_spread w x i, j)
      by (inr (inr i)) (inl j) = inr i
      by i (inr j) = inr j

  still_calm : (xs : Arguments) → AllStill (true_in w) xs → (s : w.State) → (vs : List (ValueIn w)) × arguments w Mode.calm xs s (Result.gives vs) s
  unfolding mean
  still_calm Arguments.no_arguments h s = ([], Returns.returns)
  still_calm (Arguments.argument x xs) h s = let a = h.0 s in let b = still_calm xs h.1 s in (a.0 ∷ b.0, Then.goes a.1 (Then.goes b.1 Returns.returns))
  still_calm (Arguments.spread_argument l x xs) h s = let a = h.0 s in let b = still_calm xs h.1 s in (a.0 ++ b.0, Then.goes a.1 (Then.goes b.1 Returns.returns))

  still_arguments : (c : Mode) (xs : Arguments) → AllStill (true_in w) xs → (s : w.State) → (vs : List (ValueIn w)) × arguments w c xs s (Result.gives vs) s
  still_arguments Mode.calm xs h s = still_calm xs h s
  still_arguments Mode.free xs h s = let a = still_calm xs h s in (a.0, forget_arguments w xs s _ s a.1)

  read_values : (xs : Arguments) → AllRead xs → (s : w.State) (vs : List (ValueIn w)) (t : w.State) → arguments w Mode.free xs s (Result.gives vs) t
      → (a : SlotsIn w) → (b : SlotsIn w) × ((s : w.State) → slots_joined w a vs s ≡ Result.gives b)
  unfolding mean slots_joined ◌>>=◌
  read_values Arguments.no_arguments h s vs t Returns.returns a = (a, λ s. refl)
  read_values (Arguments.spread_argument l x xs) h s vs t d a = absurd h
  read_values (Arguments.argument x xs) h s vs t (Then.goes d (Then.goes {a = us} e Returns.returns)) a =
      let b = h.0 _ _ _ d in
      let f = read_values xs h.1 _ _ _ e (join_slots a b.0) in
      (f.0, λ s. ap (λ z. z >>= λ ys. slots_joined w (join_slots a ys) us s) (b.1 s) ∙ f.1 s)

  joined_append : (a : SlotsIn w) (vs us : List (ValueIn w)) (s : w.State) → slots_joined w a (vs ++ us) s ≡ (slots_joined w a vs s >>= λ b. slots_joined w b us s)
  unfolding slots_joined ◌>>=◌
  joined_append a [] us s = refl
  joined_append a (v ∷ vs) us s = by (spread_slots w v s) (λ b. joined_append b vs us s)
    where
      by : (x : Result (SlotsIn w)) → ((b : SlotsIn w) → slots_joined w b (vs ++ us) s ≡ (slots_joined w b vs s >>= λ b. slots_joined w b us s))
          → (x >>= λ ys. slots_joined w (join_slots a ys) (vs ++ us) s) ≡ ((x >>= λ ys. slots_joined w (join_slots a ys) vs s) >>= λ b. slots_joined w b us s)
      by (Result.gives ys) h = h (join_slots a ys)
      by Result.throws h = refl

  module _ (c : Mode) where
    append_values : (xs ys : Arguments) → AlikeActs w (arguments w c (append_arguments xs ys)) (Then w.State (List (ValueIn w)) (List (ValueIn w)) (arguments w c xs) (λ vs. Then w.State (List (ValueIn w)) (List (ValueIn w)) (arguments w c ys) (λ us. Returns w.State (List (ValueIn w)) (vs ++ us))))
    unfolding mean append_arguments
    append_values Arguments.no_arguments ys = turned (begun ⨾ ended)
    append_values (Arguments.spread_argument n x xs) ys =
        second (λ ts. first (append_values xs ys) ⨾ regroup ⨾ second (λ vs. regroup ⨾ second (λ us. begun ⨾ returns_alike (sym (append_assoc ts vs us)))))
        ⨾ turned (regroup ⨾ second (λ ts. regroup ⨾ second (λ vs. begun)))
    append_values (Arguments.argument x xs) ys =
        second (λ v. first (append_values xs ys) ⨾ regroup ⨾ second (λ vs. regroup ⨾ second (λ us. begun)))
        ⨾ turned (regroup ⨾ second (λ v. regroup ⨾ second (λ vs. begun)))

    -- one call's part
    abbrev adds : SlotsIn w → Arguments → Act w.State (SlotsIn w)
    adds a xs = Then w.State (List (ValueIn w)) (SlotsIn w) (arguments w c xs) (λ vs. Settles w.State (SlotsIn w) (slots_joined w a vs))

    -- the innermost first
    abbrev adds_all : SlotsIn w → List Arguments → Act w.State (SlotsIn w)
    adds_all a [] = Returns w.State (SlotsIn w) a
    adds_all a (xs ∷ xss) = Then w.State (SlotsIn w) (SlotsIn w) (adds a xs) (λ b. adds_all b xss)

    in_free : (c : Mode) (xs : Arguments) (s : w.State) (vs : List (ValueIn w)) (t : w.State) → arguments w c xs s (Result.gives vs) t → arguments w Mode.free xs s (Result.gives vs) t
    in_free Mode.free xs s vs t d = d
    in_free Mode.calm xs s vs t d = forget_arguments w xs s _ t d

    -- reading may wait for the later calls' arguments
    waits : (xs zs : Arguments) → AllRead xs ⊎ AllStill (true_in w) zs → (a : SlotsIn w) (s : w.State) (vs : List (ValueIn w)) (u : w.State) → arguments w c xs s (Result.gives vs) u
        → AlikeActs w (Then w.State (SlotsIn w) (SlotsIn w) (Settles w.State (SlotsIn w) (slots_joined w a vs)) (λ b. adds b zs))
        (Then w.State (List (ValueIn w)) (SlotsIn w) (arguments w c zs) (λ us. Settles w.State (SlotsIn w) (λ s. slots_joined w a vs s >>= λ b. slots_joined w b us s)))
    unfolding ◌>>=◌
    waits xs zs (inl h) a s vs u d =
        let k = read_values xs h s vs u (in_free c xs s vs u d) a in
        first (settles_alike k.1 ⨾ settles_gives) ⨾ begun ⨾ second (λ us. settles_alike (λ s. sym (ap (λ y. y >>= λ b. slots_joined w b us s) (k.1 s))))
    waits xs zs (inr h) a s vs u d = turned (commute (arguments w c zs) (arguments_single w c zs) (still_arguments c zs h) (slots_joined w a vs) (λ b us. slots_joined w b us))

    all_at_once : (xss : List Arguments) → ArraysApart (true_in w) xss → (a : SlotsIn w) → AlikeActs w (adds_all a xss) (adds a (flat xss))
    unfolding mean flat slots_joined
    all_at_once [] i a = turned (begun ⨾ settles_gives)
    all_at_once (xs ∷ xss) i a =
        regroup
        ⨾ after (λ vs s u d. second (λ b. all_at_once xss i.1 b) ⨾ waits xs (flat xss) (read_or_still xs (flat xss) i.0) a s vs u d ⨾ second (λ us. settles_alike (λ s. sym (joined_append a vs us s))))
        ⨾ turned (first (append_values xs (flat xss)) ⨾ regroup ⨾ second (λ vs. regroup ⨾ second (λ us. begun)))

    adds_longer : (a : SlotsIn w) (xss : List Arguments) (xs : Arguments) → AlikeActs w (Then w.State (SlotsIn w) (SlotsIn w) (adds_all a xss) (λ b. adds b xs)) (adds_all a (xss ++ (xs ∷ [])))
    adds_longer a [] xs = begun ⨾ turned ended
    adds_longer a (ys ∷ yss) xs = regroup ⨾ second (λ b. adds_longer b yss xs)

    abbrev added : Elements → List Arguments → Act w.State (SlotsIn w)
    added es xss = Then w.State (SlotsIn w) (SlotsIn w) (elements w c es) (λ a. adds_all a xss)

    abbrev as_array : Act w.State (SlotsIn w) → Act w.State (ValueIn w)
    as_array m = Then w.State (SlotsIn w) (ValueIn w) m (λ a. Returns w.State (ValueIn w) (Value.array a))

    array_step : Premises w → (t : Act w.State (SlotsIn w)) (xs : Arguments) → AlikeActs w (concat_call w c (as_array t) xs) (as_array (Then w.State (SlotsIn w) (SlotsIn w) t (λ a. adds a xs)))
    unfolding array_concat_result
    array_step p t xs =
        first (regroup ⨾ second (λ a. begun ⨾ found w c p a)) ⨾ regroup
        ⨾ second (λ a. begun ⨾ second (λ vs. asks_settles (p.applies_array_concat a vs) ⨾ turned (second (λ x. turned settles_gives) ⨾ settles_then)) ⨾ turned regroup)
        ⨾ turned regroup

    one_longer : Premises w → (es : Elements) (xss : List Arguments) (xs : Arguments) → AlikeActs w (concat_call w c (as_array (added es xss)) xs) (as_array (added es (xss ++ (xs ∷ []))))
    one_longer p es xss xs = array_step p (added es xss) xs ⨾ first (regroup ⨾ second (λ a. adds_longer a xss xs))

  module _ (p : Premises w) (next m j : ℕ) (es : Elements) where
    base_run : (c : Mode) → AlikeActs w (mean w c (Expression.array j es)).run (as_array c (added c es []))
    base_run c = array_run w c j es ⨾ first (turned ended)

    call_free : (n i : ℕ) (x : Expression) (xss : List Arguments) (xs : Arguments) → AlikeActs w (mean w Mode.free x).run (as_array Mode.free (added Mode.free es xss))
        → AlikeActs w (mean w Mode.free (Expression.call n (Expression.static_member i x concat_name) xs)).run (as_array Mode.free (added Mode.free es (xss ++ (xs ∷ []))))
    call_free n i x xss xs h = call_run w Mode.free n i x xs ⨾ freely ⨾ first (first h) ⨾ one_longer Mode.free p es xss xs

    call_calm : (n i : ℕ) (x : Expression) (xss : List Arguments) (xs : Arguments) → Implies w.State (ValueIn w) (mean w Mode.calm x).run (as_array Mode.calm (added Mode.calm es xss))
        → Implies w.State (ValueIn w) (mean w Mode.calm (Expression.call n (Expression.static_member i x concat_name) xs)).run (as_array Mode.calm (added Mode.calm es (xss ++ (xs ∷ []))))
    call_calm n i x xss xs h s r t e = (one_longer Mode.calm p es xss xs).forth s r t (then_first (then_first h) s r t (unwatched Mode.calm s r t ((call_run w Mode.calm n i x xs).forth s r t e)))

    calls_free : {x : Expression} {xss : List Arguments} → Calls (Expression.array j es) m x xss → AlikeActs w (mean w Mode.free x).run (as_array Mode.free (added Mode.free es xss))
    calls_free Calls.innermost = call_free _ _ _ [] _ (base_run Mode.free)
    calls_free (Calls.outer {xss = xss} d) = call_free _ _ _ xss _ (calls_free d)

    calls_calm : {x : Expression} {xss : List Arguments} → Calls (Expression.array j es) m x xss → Implies w.State (ValueIn w) (mean w Mode.calm x).run (as_array Mode.calm (added Mode.calm es xss))
    calls_calm Calls.innermost = call_calm _ _ _ [] _ ((base_run Mode.calm).forth)
    calls_calm (Calls.outer {xss = xss} d) = call_calm _ _ _ xss _ (calls_calm d)

    module _ (x : Expression) (xss : List Arguments) (d : Calls (Expression.array j es) m x xss) (i : ArraysApart (true_in w) xss) where
      one_call : (c : Mode) → AlikeActs w (as_array c (added c es xss))
          (Then w.State (SlotsIn w) (ValueIn w) (elements w c es) (λ a. Then w.State (List (ValueIn w)) (ValueIn w) (arguments w c (flat xss)) (λ vs. Settles w.State (ValueIn w) (array_concat_result w a vs))))
      unfolding array_concat_result
      one_call c =
          first (second (λ a. all_at_once c xss i a)) ⨾ regroup
          ⨾ second (λ a. regroup ⨾ second (λ vs. second (λ x. turned settles_gives) ⨾ settles_then))

      pub array_chain_keeps : Keeps w x (Expression.call next (Expression.static_member m (Expression.array j es) concat_name) (flat xss))
      array_chain_keeps =
          let f = calls_free d ⨾ one_call Mode.free ⨾ turned freely ⨾ turned (array_call w Mode.free p next j _ es (flat xss) Method.static) in
          record {
            forth = f.forth;
            back = f.back;
            stays_calm = λ s v k. (array_call w Mode.calm p next j _ es (flat xss) Method.static).back s _ s (watched_gives Mode.calm ((one_call Mode.calm).forth s _ s (calls_calm d s _ s k)));
          }
