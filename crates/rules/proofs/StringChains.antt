-- A chain of `concat` on a string has the runs of one template, and of one call.
use Rattle.std.proofs.Common.{ℕ, List, [], ◌∷◌, ◌++◌}
use Rattle.meaning.specs.Expression.{Expression, Arguments, Units}
use Rattle.meaning.specs.Value.{Value}
use Rattle.meaning.specs.World.{World, ValueIn, text_value, ◌>>=◌}
use Rattle.meaning.specs.Coercion.{to_text, to_primitive, primitive_text}
use Rattle.meaning.specs.Methods.{concat_name, text_concat_result, coercible}
use Rattle.meaning.specs.Acts.{Act, Returns, Then, Asks, Mode, Watched}
use Rattle.meaning.specs.Runs.{Calm, Pair, mean, arguments, pieces, get_method, apply_to}
use Rattle.meaning.specs.Premises.{Premises}
use Rattle.meaning.specs.Replacing.{Keeps}
use Rattle.meaning.proofs.Replacing.{Implies, then_first}
use Rattle.meaning.proofs.Determined.{asks_single, returns_single, then_single}
use Rattle.rules.specs.Places.{Settings}
use Rattle.rules.specs.Facts.{true_in}
use Rattle.rules.specs.Building.{new_quasi, pieces_of, joined, flat}
use Rattle.rules.specs.Interleaves.{Interleaves}
use Rattle.rules.specs.MethodBecomes.{Method}
use Rattle.rules.specs.ChainBecomes.{Calls, EachInterleaves}
use Rattle.rules.proofs.Alike.{itself, ◌⨾◌, turned, first, second, regroup, begun, ended, constant, asks_settles, settles_then, settles_gives, watched_alike, watched_gives, unwatched, freely}
use Rattle.rules.proofs.Keeping.{AlikeActs}
use Rattle.rules.proofs.Callees.{method_callee}
use Rattle.rules.proofs.Templates.{afterwards, interleave_behind, templated, string_concat_alike}
use Rattle.rules.proofs.Together.{together_each}
use Rattle.rules.proofs.Walking.{StringLed}

module _ (w : World) where
  -- the text of a chain, call by call, the innermost first
  abbrev told : Mode → Units → List Arguments → Act w.State Units
  told c u [] = Returns w.State Units u
  told c u (xs ∷ xss) = Then w.State Units Units (afterwards w c u xs) (λ v. told c v xss)

  told_longer : (c : Mode) (u : Units) (xss : List Arguments) (xs : Arguments) → AlikeActs w (Then w.State Units Units (told c u xss) (λ v. afterwards w c v xs)) (told c u (xss ++ (xs ∷ [])))
  told_longer c u [] xs = begun ⨾ turned ended
  told_longer c u (ys ∷ yss) xs = regroup ⨾ second (λ v. told_longer c v yss xs)

  abbrev as_value : Act w.State Units → Act w.State (ValueIn w)
  as_value m = Then w.State Units (ValueIn w) m (λ v. Returns w.State (ValueIn w) (text_value w v))

  abbrev pub concat_call : Mode → Act w.State (ValueIn w) → Arguments → Act w.State (ValueIn w)
  concat_call c m xs = Then w.State (Pair (ValueIn w)) (ValueIn w) (Then w.State (ValueIn w) (Pair (ValueIn w)) m (λ v. get_method w (Pair.pair v (text_value w concat_name)))) (λ g. Then w.State (List (ValueIn w)) (ValueIn w) (arguments w c xs) (λ vs. apply_to w vs g))

  pub call_run : (c : Mode) (n m : ℕ) (x : Expression) (xs : Arguments) → AlikeActs w (mean w c (Expression.call n (Expression.static_member m x concat_name) xs)).run (Watched w.State (ValueIn w) (concat_call c (mean w c x).run xs) c)
  unfolding mean
  call_run c n m x xs = watched_alike c (first (method_callee w c (Method.static {m = m})))

  module _ (p : Premises w) where
    found : (u : Units) → AlikeActs w (get_method w (Pair.pair (text_value w u) (text_value w concat_name))) (Returns w.State (Pair (ValueIn w)) (Pair.pair (text_value w u) (Value.object w.text_concat)))
    found u = constant (then_single (asks_single _ _ _) (λ o. returns_single _ _ _)) (λ s. Then.goes (Asks.asks (p.finds_text_concat u s)) Returns.returns)

    text_call : (c : Mode) (t : Act w.State Units) (xs : Arguments) → AlikeActs w (concat_call c (as_value t) xs) (as_value (Then w.State Units Units t (λ v. afterwards w c v xs)))
    unfolding text_concat_result coercible to_text to_primitive primitive_text ◌>>=◌
    text_call c t xs =
        first (regroup ⨾ second (λ u. begun ⨾ found u)) ⨾ regroup
        ⨾ second (λ u. begun ⨾ second (λ vs. asks_settles (p.applies_text_concat (text_value w u) vs) ⨾ turned (second (λ x. turned settles_gives) ⨾ settles_then)) ⨾ turned regroup)
        ⨾ turned regroup

    module _ (j : ℕ) (u : Units) where
      base_free : AlikeActs w (mean w Mode.free (Expression.string j u)).run (as_value (told Mode.free u []))
      unfolding mean
      base_free = freely ⨾ turned begun

      base_calm : Implies w.State (ValueIn w) (mean w Mode.calm (Expression.string j u)).run (as_value (told Mode.calm u []))
      unfolding mean
      base_calm s r t d = begun.back s r t (unwatched Mode.calm s r t d)

      call_free : (n i : ℕ) (x : Expression) (xss : List Arguments) (xs : Arguments) → AlikeActs w (mean w Mode.free x).run (as_value (told Mode.free u xss))
          → AlikeActs w (mean w Mode.free (Expression.call n (Expression.static_member i x concat_name) xs)).run (as_value (told Mode.free u (xss ++ (xs ∷ []))))
      call_free n i x xss xs h = call_run Mode.free n i x xs ⨾ freely ⨾ first (first h) ⨾ text_call Mode.free (told Mode.free u xss) xs ⨾ first (told_longer Mode.free u xss xs)

      call_calm : (n i : ℕ) (x : Expression) (xss : List Arguments) (xs : Arguments) → Implies w.State (ValueIn w) (mean w Mode.calm x).run (as_value (told Mode.calm u xss))
          → Implies w.State (ValueIn w) (mean w Mode.calm (Expression.call n (Expression.static_member i x concat_name) xs)).run (as_value (told Mode.calm u (xss ++ (xs ∷ []))))
      call_calm n i x xss xs h s r t e =
          (text_call Mode.calm (told Mode.calm u xss) xs ⨾ first (told_longer Mode.calm u xss xs)).forth s r t (then_first (then_first h) s r t (unwatched Mode.calm s r t ((call_run Mode.calm n i x xs).forth s r t e)))

      calls_free : {m : ℕ} {x : Expression} {xss : List Arguments} → Calls (Expression.string j u) m x xss → AlikeActs w (mean w Mode.free x).run (as_value (told Mode.free u xss))
      calls_free Calls.innermost = call_free _ _ _ [] _ base_free
      calls_free (Calls.outer {xss = xss} d) = call_free _ _ _ xss _ (calls_free d)

      calls_calm : {m : ℕ} {x : Expression} {xss : List Arguments} → Calls (Expression.string j u) m x xss → Implies w.State (ValueIn w) (mean w Mode.calm x).run (as_value (told Mode.calm u xss))
      calls_calm Calls.innermost = call_calm _ _ _ [] _ base_calm
      calls_calm (Calls.outer {xss = xss} d) = call_calm _ _ _ xss _ (calls_calm d)

  told_template : (c : Mode) (xss : List Arguments) → EachInterleaves (true_in w) xss → (n : ℕ) (u q : Units) → AlikeActs w (told c (u ++ q) xss) (pieces w c u (pieces_of n q (flat xss)))
  unfolding mean pieces_of new_quasi flat
  told_template c [] e n u q = itself
  told_template c (xs ∷ xss) e n u q = interleave_behind w c xs e.0 (flat xss) (λ v. told c v xss) (told_template c xss e.1) n u q

  module _ (p : Premises w) (next m j : ℕ) (u : Units) (x : Expression) (xss : List Arguments) (d : Calls (Expression.string j u) m x xss) where
    to_template : EachInterleaves (true_in w) xss → AlikeActs w (mean w Mode.free x).run (mean w Mode.free (joined next u (flat xss))).run
    to_template e = calls_free p j u d ⨾ first (told_template Mode.free xss e next [] u) ⨾ turned freely ⨾ turned (templated w Mode.free next (pieces_of next u (flat xss)))

    to_template_calm : EachInterleaves (true_in w) xss → (s : w.State) (v : ValueIn w) → Calm w x s v → Calm w (joined next u (flat xss)) s v
    to_template_calm e s v k =
        (templated w Mode.calm next (pieces_of next u (flat xss))).back s _ s (watched_gives Mode.calm (then_first ((told_template Mode.calm xss e next [] u).forth) s _ s (calls_calm p j u d s _ s k)))

    template_keeps : EachInterleaves (true_in w) xss → Keeps w x (joined next u (flat xss))
    template_keeps e = record { forth = (to_template e).forth; back = (to_template e).back; stays_calm = to_template_calm e }

    -- one call
    call_keeps : Interleaves (true_in w) (flat xss) → Keeps w x (Expression.call next (Expression.static_member m (Expression.string j u) concat_name) (flat xss))
    call_keeps i =
        let e = together_each (true_in w) xss i in
        let f = to_template e ⨾ turned (string_concat_alike w p Mode.free next j next u _ (flat xss) Method.static i) in
        record { forth = f.forth; back = f.back; stays_calm = λ s v k. (string_concat_alike w p Mode.calm next j next u _ (flat xss) Method.static i).back s _ s (to_template_calm e s v k) }

    pub string_chain_keeps : (s : Settings) {y : Expression} → StringLed (true_in w) s next (Expression.static_member m (Expression.string j u) concat_name) u xss y → Keeps w x y
    string_chain_keeps s (StringLed.template t e h) = template_keeps e
    string_chain_keeps s (StringLed.call i h) = call_keeps i
