-- What is a run of `old` is one of `new`: then so it is at every place.
use Rattle.std.proofs.Common.{◌≡◌, ℕ, zero, suc, List, [], refl, subst}
use Rattle.tree.specs.declared.node.FirstChild.{FirstChild}
use Rattle.meaning.specs.Expression.{Expression, Elements, Arguments, Pieces, Children, Units, NoMember}
use Rattle.meaning.specs.World.{World, ValueIn, Result, Outcome, Next}
use Rattle.meaning.specs.Acts.{Act, Sight, Then, Mode, Watched, Still, Seen, Steps}
use Rattle.meaning.specs.Runs.{Reference, mean, elements, arguments, pieces, children, callee, sight_reference}
use Rattle.meaning.specs.Replacing.{Keeps, Swap, SwapElements, SwapArguments, SwapPieces, SwapChildren}
use Rattle.meaning.specs.Laws.{AlikeExpressionsReplaceEachOther}
use Rattle.meaning.proofs.Turning.{swap_back}

abbrev pub Implies : (S A : Type 0) → Act S A → Act S A → Type 0
Implies S A a b = (s : S) (r : Result A) (t : S) → a s r t → b s r t

abbrev pub ImpliesSight : (S V : Type 0) → Sight S V → Sight S V → Type 0
ImpliesSight S V a b = (s : S) (r : Outcome V) (t : S) → a s r t → b s r t

pub then_both : {S A B : Type 0} {m m2 : Act S A} {k k2 : A → Act S B} → Implies S A m m2 → ((a : A) → Implies S B (k a) (k2 a)) → Implies S B (Then S A B m k) (Then S A B m2 k2)
then_both h j s r t (Then.goes p q) = Then.goes (h _ _ _ p) (j _ _ _ _ q)
then_both h j s r t (Then.stops p) = Then.stops (h _ _ _ p)

pub then_first : {S A B : Type 0} {m m2 : Act S A} {k : A → Act S B} → Implies S A m m2 → Implies S B (Then S A B m k) (Then S A B m2 k)
then_first h = then_both h (λ a s r t d. d)

pub then_second : {S A B : Type 0} {m : Act S A} {k k2 : A → Act S B} → ((a : A) → Implies S B (k a) (k2 a)) → Implies S B (Then S A B m k) (Then S A B m k2)
then_second j = then_both (λ s r t d. d) j

pub watched_both : {S A : Type 0} {m m2 : Act S A} (c : Mode) → Implies S A m m2 → Implies S A (Watched S A m c) (Watched S A m2 c)
watched_both Mode.free h s r t (Watched.freely p) = Watched.freely (h _ _ _ p)
watched_both Mode.calm h s r t (Watched.calmly p q) = Watched.calmly (h _ _ _ p) q

pub seen_both_ways : {S A V : Type 0} {m m2 : Act S A} {f : A → Outcome V} → Implies S A m m2 → ImpliesSight S V (Seen S A V m f) (Seen S A V m2 f)
seen_both_ways h s r t (Seen.gave p e) = Seen.gave (h _ _ _ p) e
seen_both_ways h s r t (Seen.threw p) = Seen.threw (h _ _ _ p)

pub steps_all : {S V : Type 0} {next : List (Outcome V) → S → Next S V} {kid kid2 : ℕ → Sight S V} → ((i : ℕ) → ImpliesSight S V (kid i) (kid2 i))
    → {os : List (Outcome V)} {s : S} {r : Result V} {t : S} → Steps S V next kid os s r t → Steps S V next kid2 os s r t
steps_all h (Steps.ends p) = Steps.ends p
steps_all h (Steps.runs p k d) = Steps.runs p (h _ _ _ _ k) (steps_all h d)

module _ (w : World) (c : Mode) where
  abbrev pub Refines : {A : Type 0} → Act w.State A → Act w.State A → Type 0
  Refines {A} a b = Implies w.State A a b

  abbrev pub RefinesReference : Reference w.State (ValueIn w) → Reference w.State (ValueIn w) → Type 0
  RefinesReference Reference.plain Reference.plain = Unit {0}
  RefinesReference Reference.plain (Reference.member b) = ⊥
  RefinesReference (Reference.member a) Reference.plain = ⊥
  RefinesReference (Reference.member a) (Reference.member b) = Refines a b

  pub callee_refines : (m m2 : Act w.State (ValueIn w)) (f f2 : Reference w.State (ValueIn w)) → Refines m m2 → RefinesReference f f2 → Refines (callee w m f) (callee w m2 f2)
  callee_refines m m2 Reference.plain Reference.plain h j = then_first h
  callee_refines m m2 Reference.plain (Reference.member b) h j = absurd j
  callee_refines m m2 (Reference.member a) Reference.plain h j = absurd j
  callee_refines m m2 (Reference.member a) (Reference.member b) h j = then_first j

  pub sight_refines : (m m2 : Act w.State (ValueIn w)) (f f2 : Reference w.State (ValueIn w)) → Refines m m2 → RefinesReference f f2
      → ImpliesSight w.State (ValueIn w) (sight_reference w m f) (sight_reference w m2 f2)
  sight_refines m m2 Reference.plain Reference.plain h j = seen_both_ways h
  sight_refines m m2 Reference.plain (Reference.member b) h j = absurd j
  sight_refines m m2 (Reference.member a) Reference.plain h j = absurd j
  sight_refines m m2 (Reference.member a) (Reference.member b) h j = seen_both_ways j

  is_plain : (x : Expression) → NoMember x → (mean w c x).refers ≡ Reference.plain
  unfolding mean
  is_plain (Expression.string _ _) p = refl
  is_plain (Expression.number _ _) p = refl
  is_plain (Expression.boolean _ _) p = refl
  is_plain (Expression.null _) p = refl
  is_plain (Expression.name _ _) p = refl
  is_plain (Expression.array _ _) p = refl
  is_plain (Expression.static_member _ _ _) p = absurd p
  is_plain (Expression.computed_member _ _ _) p = absurd p
  is_plain (Expression.call _ _ _) p = refl
  is_plain (Expression.template _ _) p = refl
  is_plain (Expression.unary _ _ _) p = refl
  is_plain (Expression.binary _ _ _ _) p = refl
  is_plain (Expression.opaque _ _ _ _) p = refl

  plain_plain : (x y : Expression) → NoMember x → NoMember y → RefinesReference (mean w c x).refers (mean w c y).refers
  plain_plain x y p q = rw (is_plain x p, is_plain y q) tt

  reference_itself : (f : Reference w.State (ValueIn w)) → RefinesReference f f
  reference_itself Reference.plain = tt
  reference_itself (Reference.member a) = λ s r t d. d

  same_same : (x y : Expression) → x ≡ y → RefinesReference (mean w c x).refers (mean w c y).refers
  same_same x y e = subst (λ z. RefinesReference (mean w c x).refers (mean w c z).refers) e (reference_itself (mean w c x).refers)

  module _ (old new : Expression) (h : Refines (mean w c old).run (mean w c new).run) where
    mutual
      unfolding mean

      pub run_refines : {b : FirstChild} {x y : Expression} → Swap old new b x y → Refines (mean w c x).run (mean w c y).run
      run_refines Swap.here = h
      run_refines (Swap.here_referred p q) = h
      run_refines (Swap.here_itself e) = h
      run_refines (Swap.in_array d) = watched_both c (then_first (elements_refine d))
      run_refines (Swap.in_static d) = watched_both c (then_first (then_first (run_refines d)))
      run_refines (Swap.in_object d) = watched_both c (then_first (then_first (run_refines d)))
      run_refines (Swap.in_key d) = watched_both c (then_first (then_second (λ v. then_first (run_refines d))))
      run_refines (Swap.in_callee d) = watched_both c (then_first (callee_refines _ _ _ _ (run_refines d) (refers_refines d)))
      run_refines (Swap.in_arguments d) = watched_both c (then_second (λ g. then_first (arguments_refine d)))
      run_refines (Swap.in_template d) = watched_both c (then_first (pieces_refine d []))
      run_refines (Swap.in_unary d) = watched_both c (then_first (run_refines d))
      run_refines (Swap.in_left d) = watched_both c (then_first (run_refines d))
      run_refines (Swap.in_right d) = watched_both c (then_second (λ v. then_first (run_refines d)))
      run_refines (Swap.in_opaque d) = watched_both c (λ s r t. steps_all (children_refine d))

      refers_refines : {x y : Expression} → Swap old new FirstChild.Reference x y → RefinesReference (mean w c x).refers (mean w c y).refers
      refers_refines (Swap.here_referred p q) = plain_plain old new p q
      refers_refines (Swap.here_itself e) = same_same old new e
      refers_refines (Swap.in_array d) = tt
      refers_refines (Swap.in_static d) = then_first (run_refines d)
      refers_refines (Swap.in_object d) = then_first (run_refines d)
      refers_refines (Swap.in_key d) = then_second (λ v. then_first (run_refines d))
      refers_refines (Swap.in_callee d) = tt
      refers_refines (Swap.in_arguments d) = tt
      refers_refines (Swap.in_template d) = tt
      refers_refines (Swap.in_unary d) = tt
      refers_refines (Swap.in_left d) = tt
      refers_refines (Swap.in_right d) = tt
      refers_refines (Swap.in_opaque d) = tt

      elements_refine : {x y : Elements} → SwapElements old new x y → Refines (elements w c x) (elements w c y)
      elements_refine (SwapElements.past_hole d) = then_first (elements_refine d)
      elements_refine (SwapElements.past_spread d) = then_second (λ v. then_first (elements_refine d))
      elements_refine (SwapElements.past_item d) = then_second (λ v. then_first (elements_refine d))
      elements_refine (SwapElements.in_spread d) = then_first (watched_both c (then_first (run_refines d)))
      elements_refine (SwapElements.in_item d) = then_first (run_refines d)

      arguments_refine : {x y : Arguments} → SwapArguments old new x y → Refines (arguments w c x) (arguments w c y)
      arguments_refine (SwapArguments.past_spread_argument d) = then_second (λ v. then_first (arguments_refine d))
      arguments_refine (SwapArguments.past_argument d) = then_second (λ v. then_first (arguments_refine d))
      arguments_refine (SwapArguments.in_spread_argument d) = then_first (watched_both c (then_first (run_refines d)))
      arguments_refine (SwapArguments.in_argument d) = then_first (run_refines d)

      pieces_refine : {x y : Pieces} → SwapPieces old new x y → (u : Units) → Refines (pieces w c u x) (pieces w c u y)
      pieces_refine (SwapPieces.past_piece d) u = then_second (λ v. then_second (λ z. pieces_refine d _))
      pieces_refine (SwapPieces.in_piece d) u = then_first (run_refines d)

      children_refine : {b : FirstChild} {x y : Children} → SwapChildren old new b x y → (i : ℕ) → ImpliesSight w.State (ValueIn w) (children w c b x i) (children w c b y i)
      children_refine (SwapChildren.past_child d) zero = λ s r t e. e
      children_refine (SwapChildren.past_child d) (suc i) = children_refine d i
      children_refine {b = FirstChild.Reference} (SwapChildren.in_child d) zero = sight_refines _ _ _ _ (run_refines d) (refers_refines d)
      children_refine {b = FirstChild.Value} (SwapChildren.in_child d) zero = seen_both_ways (run_refines d)
      children_refine (SwapChildren.in_child d) (suc i) = λ s r t e. e

watched_still : {S A : Type 0} {m : Act S A} {s : S} {r : Result A} {t : S} → Watched S A m Mode.calm s r t → Still S A s r t
watched_still (Watched.calmly p q) = q

-- each run inside a calm one is still
pub calm_still : (w : World) (x : Expression) {s : w.State} {r : Result (ValueIn w)} {t : w.State} → (mean w Mode.calm x).run s r t → Still w.State (ValueIn w) s r t
unfolding mean
calm_still w (Expression.string _ _) d = watched_still d
calm_still w (Expression.number _ _) d = watched_still d
calm_still w (Expression.boolean _ _) d = watched_still d
calm_still w (Expression.null _) d = watched_still d
calm_still w (Expression.name _ _) d = watched_still d
calm_still w (Expression.array _ _) d = watched_still d
calm_still w (Expression.static_member _ _ _) d = watched_still d
calm_still w (Expression.computed_member _ _ _) d = watched_still d
calm_still w (Expression.call _ _ _) d = watched_still d
calm_still w (Expression.template _ _) d = watched_still d
calm_still w (Expression.unary _ _ _) d = watched_still d
calm_still w (Expression.binary _ _ _ _) d = watched_still d
calm_still w (Expression.opaque _ _ _ _) d = watched_still d

calm_all : {S A : Type 0} (m m2 : Act S A) → ((s : S) (v : A) → m s (Result.gives v) s → m2 s (Result.gives v) s) → {s : S} {r : Result A} {t : S} → Still S A s r t → m s r t → m2 s r t
calm_all m m2 h Still.still d = h _ _ d

pub keeps_refines : (w : World) (c : Mode) (x y : Expression) → Keeps w x y → Implies w.State (ValueIn w) (mean w c x).run (mean w c y).run
keeps_refines w Mode.free x y k s r t d = k.forth s r t d
keeps_refines w Mode.calm x y k s r t d = calm_all (mean w Mode.calm x).run (mean w Mode.calm y).run k.stays_calm (calm_still w x d) d

pub alike : (w : World) → AlikeExpressionsReplaceEachOther w
alike w old new x y taken k d = record {
  forth = run_refines w Mode.free old new k.forth d;
  back = run_refines w Mode.free new old k.back (swap_back d);
  stays_calm = λ s v. run_refines w Mode.calm old new (keeps_refines w Mode.calm old new k) d s (Result.gives v) s;
}
