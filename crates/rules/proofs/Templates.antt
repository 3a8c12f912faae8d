-- A template has the runs of `concat` on a string, where the arguments interleave.
use Rattle.std.proofs.Common.{◌≡◌, ℕ, suc, false, List, [], ◌∷◌, ◌++◌, Some, None, Option, ◌⊎◌, inl, inr, refl, sym, subst, ap, append_assoc, append-nil}
use Rattle.meaning.specs.Expression.{Expression, Arguments, Quasi, Pieces, Units}
use Rattle.meaning.specs.Value.{Value}
use Rattle.meaning.specs.World.{World, ValueIn, Result, text_value, ◌>>=◌}
use Rattle.meaning.specs.Coercion.{to_text, to_primitive, primitive_text}
use Rattle.meaning.specs.Methods.{concat_name, texts_joined, text_concat_result, coercible}
use Rattle.meaning.specs.Acts.{Act, Returns, Then, Asks, Settles, Mode, Watched}
use Rattle.meaning.specs.Runs.{Pair, mean, arguments, pieces, callee}
use Rattle.meaning.specs.Premises.{Premises}
use Rattle.meaning.specs.Parts.{Part}
use Rattle.meaning.specs.Replacing.{Keeps}
use Rattle.meaning.proofs.Determined.{returns_single, then_single, watched_single, get_method_single, arguments_single}
use Rattle.rules.specs.Facts.{Facts, true_in}
use Rattle.rules.specs.Building.{append_arguments, text_of, new_quasi, add_piece, pieces_of, template_of, joined}
use Rattle.rules.specs.Interleaves.{SettledType, EachMayFollow, Interleaves}
use Rattle.rules.specs.MethodBecomes.{Method}
use Rattle.rules.proofs.Absurd.{none_some}
use Rattle.rules.proofs.Alike.{itself, ◌⨾◌, turned, first, second, after, regroup, begun, ended, constant, returns_alike, asks_settles, settles_alike, settles_then, settles_gives, watched_alike, watched_gives}
use Rattle.rules.proofs.Keeping.{AlikeActs, keeps_by, in_mode, as_run}
use Rattle.rules.proofs.Interleaved.{AllQuiet}
use Rattle.rules.proofs.Texts.{one_text}
use Rattle.rules.proofs.Commuting.{commute}
use Rattle.rules.proofs.Callees.{method_callee, known_call}

-- what may follow x: all that has no effects, or anything, if x is settled
pub settled_or_quiet : (f : Facts) (x : Expression) (xs : Arguments) → EachMayFollow f x xs → SettledType f x ⊎ AllQuiet f xs
settled_or_quiet f x Arguments.no_arguments h = inr tt
settled_or_quiet f x (Arguments.spread_argument l y ys) h = absurd h
settled_or_quiet f x (Arguments.argument y ys) h = by h.0 (settled_or_quiet f x ys h.1)
  where
    by : SettledType f x ⊎ f.effects false (Part.expression y) → SettledType f x ⊎ AllQuiet f ys → SettledType f x ⊎ AllQuiet f (Arguments.argument y ys)
    by (inl a) b = inl a
    by (inr a) (inl b) = inl b
    by (inr a) (inr b) = inr (a, b)

pub append_none : (xs : Arguments) → append_arguments xs Arguments.no_arguments ≡ xs
unfolding append_arguments
append_none Arguments.no_arguments = refl
append_none (Arguments.argument x xs) = ap (Arguments.argument x) (append_none xs)
append_none (Arguments.spread_argument l x xs) = ap (Arguments.spread_argument l x) (append_none xs)

module _ (w : World) (c : Mode) where
  quiet_arguments : (xs : Arguments) → AllQuiet (true_in w) xs → (s : w.State) → (vs : List (ValueIn w)) × arguments w c xs s (Result.gives vs) s
  unfolding mean
  quiet_arguments Arguments.no_arguments h s = ([], Returns.returns)
  quiet_arguments (Arguments.spread_argument l x xs) h s = absurd h
  quiet_arguments (Arguments.argument x xs) h s =
      let a = h.0 s in
      let b = quiet_arguments xs h.1 s in
      (a.0 ∷ b.0, Then.goes (in_mode w c x s a.0 a.1) (Then.goes b.1 Returns.returns))

  string_run : (x : Expression) (u : Units) → text_of x ≡ Some u → AlikeActs w (mean w c x).run (Returns w.State (ValueIn w) (text_value w u))
  unfolding mean text_of
  string_run (Expression.string n v) u e = let i : v ≡ u = cc in constant (watched_single c (returns_single _ _ _)) (λ s. watched_gives c Returns.returns) ⨾ returns_alike (ap (text_value w) i)
  string_run x u e = none_some e

  -- the text of the values, made after they all have run
  abbrev pub afterwards : Units → Arguments → Act w.State Units
  afterwards p xs = Then w.State (List (ValueIn w)) Units (arguments w c xs) (λ vs. Settles w.State Units (texts_joined w p vs))

  -- one value and the rest
  one_more : (p : Units) (x : Expression) (xs : Arguments)
      → AlikeActs w (afterwards p (Arguments.argument x xs)) (Then w.State (ValueIn w) Units (mean w c x).run (λ v. Then w.State (List (ValueIn w)) Units (arguments w c xs) (λ vs. Settles w.State Units (λ s. to_text w v s >>= λ z. texts_joined w (p ++ z) vs s))))
  unfolding mean texts_joined
  one_more p x xs = regroup ⨾ second (λ v. regroup ⨾ second (λ vs. begun))

  swapped : (p : Units) (x : Expression) (xs : Arguments) → SettledType (true_in w) x ⊎ AllQuiet (true_in w) xs → (v : ValueIn w) (s u : w.State) → (mean w c x).run s (Result.gives v) u
      → AlikeActs w (Then w.State (List (ValueIn w)) Units (arguments w c xs) (λ vs. Settles w.State Units (λ s. to_text w v s >>= λ z. texts_joined w (p ++ z) vs s)))
      (Then w.State Units Units (Settles w.State Units (to_text w v)) (λ z. afterwards (p ++ z) xs))
  unfolding ◌>>=◌
  swapped p x xs (inl h) v s u d =
      let k = one_text w x h s v u (as_run w c x s v u d) in
      second (λ vs. settles_alike (λ s. ap (λ y. y >>= λ z. texts_joined w (p ++ z) vs s) (k.1 s)))
      ⨾ turned (first (settles_alike k.1 ⨾ settles_gives) ⨾ begun)
  swapped p x xs (inr h) v s u d = commute (arguments w c xs) (arguments_single w c xs) (quiet_arguments xs h) (to_text w v) (λ z vs. texts_joined w (p ++ z) vs)

  -- arguments that interleave, and behind them others, whose pieces do what `rest` does
  pub interleave_behind : (xs : Arguments) → Interleaves (true_in w) xs → (zs : Arguments) (rest : Units → Act w.State Units)
      → ((n : ℕ) (u q : Units) → AlikeActs w (rest (u ++ q)) (pieces w c u (pieces_of n q zs)))
      → (n : ℕ) (u q : Units) → AlikeActs w (Then w.State Units Units (afterwards (u ++ q) xs) rest) (pieces w c u (pieces_of n q (append_arguments xs zs)))
  unfolding mean pieces_of add_piece new_quasi append_arguments texts_joined to_text to_primitive primitive_text ◌>>=◌
  interleave_behind Arguments.no_arguments i zs rest k n u q = first (begun ⨾ settles_gives) ⨾ begun ⨾ k n u q
  interleave_behind (Arguments.spread_argument m x xs) i zs rest k n u q = absurd i
  interleave_behind (Arguments.argument x xs) i zs rest k n u q = by (text_of x) refl (interleave_behind xs i.1 zs rest k)
    where
      by : (o : Option Units) → text_of x ≡ o → ((n : ℕ) (u q : Units) → AlikeActs w (Then w.State Units Units (afterwards (u ++ q) xs) rest) (pieces w c u (pieces_of n q (append_arguments xs zs))))
          → AlikeActs w (Then w.State Units Units (afterwards (u ++ q) (Arguments.argument x xs)) rest) (pieces w c u (add_piece n q x (λ n p. pieces_of n p (append_arguments xs zs)) o))
      by (Some t) e h =
          first
          (one_more (u ++ q) x xs ⨾ first (string_run x t e) ⨾ begun
          ⨾ second (λ vs. settles_alike (λ s. ap (λ p. texts_joined w p vs s) (append_assoc u q t))))
          ⨾ h n u (q ++ t)
      by None e h =
          first (one_more (u ++ q) x xs ⨾ after (swapped (u ++ q) x xs (settled_or_quiet (true_in w) x xs i.0))) ⨾ regroup
          ⨾ second (λ v. regroup ⨾ second (λ z. first (second (λ vs. settles_alike (λ s. ap (λ p. texts_joined w p vs s) (sym (append-nil ((u ++ q) ++ z)))))) ⨾ h (suc n) ((u ++ q) ++ z) []))

  pub interleave : (xs : Arguments) → Interleaves (true_in w) xs → (n : ℕ) (u q : Units) → AlikeActs w (afterwards (u ++ q) xs) (pieces w c u (pieces_of n q xs))
  interleave xs i n u q =
      turned ended
      ⨾ subst (λ z. AlikeActs w (Then w.State Units Units (afterwards (u ++ q) xs) (λ v. Returns w.State Units v)) (pieces w c u (pieces_of n q z))) (append_none xs)
      (interleave_behind xs i Arguments.no_arguments (λ v. Returns w.State Units v) alone n u q)
    where
      alone : (n : ℕ) (u q : Units) → AlikeActs w (Returns w.State Units (u ++ q)) (pieces w c u (pieces_of n q Arguments.no_arguments))
      alone n u q = unfold mean pieces_of new_quasi in itself

module _ (w : World) where
  -- pieces as a whole: a template, or a string
  pub templated : (c : Mode) (n : ℕ) (ps : Pieces) → AlikeActs w (mean w c (template_of n ps)).run
      (Watched w.State (ValueIn w) (Then w.State Units (ValueIn w) (pieces w c [] ps) (λ u. Returns w.State (ValueIn w) (text_value w u))) c)
  unfolding mean template_of
  templated c n (Pieces.last (Quasi.quasi l raw u)) = watched_alike c (turned begun)
  templated c n (Pieces.piece q x ps) = itself

  string_callee : Premises w → (c : Mode) (j : ℕ) (u : Units) (g : Expression) → Method g (Expression.string j u) concat_name
      → AlikeActs w (callee w (mean w c g).run (mean w c g).refers) (Returns w.State (Pair (ValueIn w)) (Pair.pair (text_value w u) (Value.object w.text_concat)))
  unfolding mean
  string_callee p c j u g m =
      method_callee w c m
      ⨾ constant (then_single (watched_single c (returns_single _ _ _)) (λ o. get_method_single w (Pair.pair o (text_value w concat_name))))
      (λ s. Then.goes (watched_gives c Returns.returns) (Then.goes (Asks.asks (p.finds_text_concat u s)) Returns.returns))

  -- a call of concat on a string
  pub string_concat_alike : Premises w → (c : Mode) (l j n : ℕ) (u : Units) (g : Expression) (xs : Arguments) → Method g (Expression.string j u) concat_name → Interleaves (true_in w) xs
      → AlikeActs w (mean w c (Expression.call l g xs)).run (mean w c (joined n u xs)).run
  unfolding text_concat_result coercible to_text to_primitive primitive_text ◌>>=◌
  string_concat_alike p c l j n u g xs m i =
      known_call w c l g xs _ _ (string_callee p c j u g m)
      ⨾ watched_alike c
      (second (λ vs. asks_settles (p.applies_text_concat (text_value w u) vs) ⨾ turned (second (λ u. turned settles_gives) ⨾ settles_then))
      ⨾ turned regroup ⨾ first (interleave w c xs i n [] u))
      ⨾ turned (templated c n (pieces_of n u xs))

  pub string_concat_keeps : Premises w → (l j n : ℕ) (u : Units) (g : Expression) (xs : Arguments) → Method g (Expression.string j u) concat_name → Interleaves (true_in w) xs
      → Keeps w (Expression.call l g xs) (joined n u xs)
  string_concat_keeps p l j n u g xs m i = keeps_by w _ _ (λ c. string_concat_alike p c l j n u g xs m i)
