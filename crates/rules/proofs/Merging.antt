-- `[..].concat(..)`: leading literals, and the elements of leading array literals, are taken in.
use Rattle.std.proofs.Common.{◌≡◌, ℕ, List, ◌∷◌, refl, sym, ap}
use Rattle.meaning.specs.Expression.{Expression, Elements, Arguments, Units}
use Rattle.meaning.specs.Value.{Value, Slots, join_slots, slots_of}
use Rattle.meaning.specs.World.{World, ValueIn, PrimitiveIn, SlotsIn, Result, text_value, ◌>>=◌}
use Rattle.meaning.specs.Methods.{concat_name, spread_slots, slots_joined, array_concat_result}
use Rattle.meaning.specs.Acts.{Act, Returns, Then, Asks, Settles, Mode, Watched, Still}
use Rattle.meaning.specs.Runs.{Pair, mean, elements, arguments, get_method}
use Rattle.meaning.specs.Premises.{Premises}
use Rattle.meaning.specs.Replacing.{Keeps}
use Rattle.meaning.proofs.Replacing.{Implies, calm_still}
use Rattle.meaning.proofs.Determined.{asks_single, returns_single, then_single, watched_single}
use Rattle.rules.specs.Building.{append_elements, with_object}
use Rattle.rules.specs.Takes.{IsLiteral, Takes}
use Rattle.rules.specs.MethodBecomes.{Method}
use Rattle.rules.proofs.Alike.{◌⨾◌, turned, first, second, regroup, begun, ended, constant, returns_alike, asks_settles, settles_alike, settles_gives, watched_alike, watched_gives, freely}
use Rattle.rules.proofs.Keeping.{AlikeActs, keeps_by}
use Rattle.rules.proofs.Callees.{method_callee}

join_nil : {O B Y : Type 0} (xs : Slots O B Y) → join_slots xs Slots.no_slots ≡ xs
unfolding join_slots
join_nil Slots.no_slots = refl
join_nil (Slots.hole xs) = ap Slots.hole (join_nil xs)
join_nil (Slots.value v xs) = ap (Slots.value v) (join_nil xs)

join_assoc : {O B Y : Type 0} (xs ys zs : Slots O B Y) → join_slots (join_slots xs ys) zs ≡ join_slots xs (join_slots ys zs)
unfolding join_slots
join_assoc Slots.no_slots ys zs = refl
join_assoc (Slots.hole xs) ys zs = ap Slots.hole (join_assoc xs ys zs)
join_assoc (Slots.value v xs) ys zs = ap (Slots.value v) (join_assoc xs ys zs)

-- acts that end without a throw in the state that they began in
abbrev Stills : (S A : Type 0) → Act S A → Type 0
Stills S A m = (s : S) (r : Result A) (t : S) → m s r t → Still S A s r t

returns_stills : {S A : Type 0} (a : A) → Stills S A (Returns S A a)
returns_stills a s r t Returns.returns = Still.still

still_on : {S A B : Type 0} {a : A} {r : Result B} {s u t : S} → Still S A s (Result.gives a) u → Still S B u r t → Still S B s r t
still_on Still.still h = h

no_throw : {S A X : Type 0} {s t : S} → Still S A s Result.throws t → X
no_throw d = elim d [ ]

then_stills : {S A B : Type 0} {m : Act S A} {k : A → Act S B} → Stills S A m → ((a : A) → Stills S B (k a)) → Stills S B (Then S A B m k)
then_stills h j s r t (Then.goes d e) = still_on (h _ _ _ d) (j _ _ _ _ e)
then_stills h j s r t (Then.stops d) = no_throw (h _ _ _ d)

watched_stills : {S A : Type 0} {m : Act S A} → Stills S A (Watched S A m Mode.calm)
watched_stills s r t (Watched.calmly d h) = h

module _ (w : World) where
  elements_still : (xs : Elements) → Stills w.State (SlotsIn w) (elements w Mode.calm xs)
  unfolding mean
  elements_still Elements.no_elements = returns_stills _
  elements_still (Elements.hole n xs) = then_stills (elements_still xs) (λ v. returns_stills _)
  elements_still (Elements.spread n x xs) = then_stills watched_stills (λ u. then_stills (elements_still xs) (λ v. returns_stills _))
  elements_still (Elements.item x xs) = then_stills (λ s r t. calm_still w x) (λ u. then_stills (elements_still xs) (λ v. returns_stills _))

  made_array : (c : Mode) (xs : Elements) → Act w.State (ValueIn w)
  made_array c xs = Then w.State (SlotsIn w) (ValueIn w) (elements w c xs) (λ vs. Returns w.State (ValueIn w) (Value.array vs))

  array_calm : (j : ℕ) (xs : Elements) → Implies w.State (ValueIn w) (made_array Mode.calm xs) (mean w Mode.calm (Expression.array j xs)).run
  unfolding mean made_array
  array_calm j xs s r t d = Watched.calmly d (then_stills (elements_still xs) (λ v. returns_stills _) s r t d)

  array_unwatched : (j : ℕ) (xs : Elements) → Implies w.State (ValueIn w) (mean w Mode.calm (Expression.array j xs)).run (made_array Mode.calm xs)
  unfolding mean made_array
  array_unwatched j xs s r t (Watched.calmly d h) = d

  -- an array's run is its elements'
  pub array_run : (c : Mode) (j : ℕ) (xs : Elements) → AlikeActs w (mean w c (Expression.array j xs)).run (Then w.State (SlotsIn w) (ValueIn w) (elements w c xs) (λ vs. Returns w.State (ValueIn w) (Value.array vs)))
  unfolding mean made_array
  array_run Mode.free j xs = freely
  array_run Mode.calm j xs = record { forth = array_unwatched j xs; back = array_calm j xs }

  module _ (c : Mode) where
    append_alike : (xs ys : Elements) → AlikeActs w (elements w c (append_elements xs ys)) (Then w.State (SlotsIn w) (SlotsIn w) (elements w c xs) (λ a. Then w.State (SlotsIn w) (SlotsIn w) (elements w c ys) (λ b. Returns w.State (SlotsIn w) (join_slots a b))))
    unfolding mean append_elements join_slots
    append_alike Elements.no_elements ys = turned (begun ⨾ ended)
    append_alike (Elements.hole n xs) ys = first (append_alike xs ys) ⨾ regroup ⨾ second (λ a. regroup ⨾ second (λ b. begun)) ⨾ turned (regroup ⨾ second (λ a. begun))
    append_alike (Elements.spread n x xs) ys =
        second (λ us. first (append_alike xs ys) ⨾ regroup ⨾ second (λ a. regroup ⨾ second (λ b. begun ⨾ returns_alike (sym (join_assoc (slots_of us) a b)))))
        ⨾ turned (regroup ⨾ second (λ us. regroup ⨾ second (λ a. begun)))
    append_alike (Elements.item x xs) ys =
        second (λ v. first (append_alike xs ys) ⨾ regroup ⨾ second (λ a. regroup ⨾ second (λ b. begun)))
        ⨾ turned (regroup ⨾ second (λ v. regroup ⨾ second (λ a. begun)))

    -- what the call does with its arguments, behind the slots so far
    abbrev concats : SlotsIn w → Arguments → Act w.State (ValueIn w)
    concats a xs = Then w.State (List (ValueIn w)) (ValueIn w) (arguments w c xs) (λ vs. Settles w.State (ValueIn w) (array_concat_result w a vs))

    -- after the elements that are taken in, what is left
    abbrev Merged : Arguments → Elements → Arguments → Type 0
    Merged xs es ys = (a : SlotsIn w) → AlikeActs w (concats a xs) (Then w.State (SlotsIn w) (ValueIn w) (elements w c es) (λ b. concats (join_slots a b) ys))

    concats_as : (a b : SlotsIn w) (xs : Arguments) → a ≡ b → AlikeActs w (concats a xs) (concats b xs)
    concats_as a b xs e = second (λ vs. settles_alike (λ s. ap (λ z. array_concat_result w z vs s) e))

    none_taken : (xs : Arguments) → Merged xs Elements.no_elements xs
    unfolding mean
    none_taken xs a = turned (begun ⨾ concats_as _ _ xs (join_nil a))

    one_more : (a : SlotsIn w) (x : Expression) (xs : Arguments) → AlikeActs w (concats a (Arguments.argument x xs))
        (Then w.State (ValueIn w) (ValueIn w) (mean w c x).run (λ v. Then w.State (List (ValueIn w)) (ValueIn w) (arguments w c xs) (λ vs. Settles w.State (ValueIn w) (array_concat_result w a (v ∷ vs)))))
    unfolding mean
    one_more a x xs = regroup ⨾ second (λ v. regroup ⨾ second (λ vs. begun))

    literal_taken : (x : Expression) (p : PrimitiveIn w) (xs ys : Arguments) (es : Elements) → AlikeActs w (mean w c x).run (Returns w.State (ValueIn w) (Value.primitive p)) → Merged xs es ys
        → Merged (Arguments.argument x xs) (Elements.item x es) ys
    unfolding mean array_concat_result slots_joined spread_slots ◌>>=◌ join_slots
    literal_taken x p xs ys es h k a =
        one_more a x xs ⨾ first h ⨾ begun
        ⨾ k (join_slots a (Slots.value (Value.primitive p) Slots.no_slots))
        ⨾ second (λ b. concats_as _ _ ys (join_assoc a (Slots.value (Value.primitive p) Slots.no_slots) b))
        ⨾ turned (regroup ⨾ second (λ v. regroup ⨾ second (λ b. begun)) ⨾ first h ⨾ begun)

    array_taken : (j : ℕ) (fs : Elements) (xs ys : Arguments) (es : Elements) → Merged xs es ys → Merged (Arguments.argument (Expression.array j fs) xs) (append_elements fs es) ys
    unfolding array_concat_result slots_joined spread_slots ◌>>=◌
    array_taken j fs xs ys es k a =
        one_more a (Expression.array j fs) xs ⨾ first (array_run c j fs) ⨾ regroup ⨾ second (λ b. begun ⨾ k (join_slots a b) ⨾ second (λ d. concats_as _ _ ys (join_assoc a b d)))
        ⨾ turned (first (append_alike fs es) ⨾ regroup ⨾ second (λ b. regroup ⨾ second (λ d. begun)))

    -- a literal gives one primitive value
    literal_run : {x : Expression} → IsLiteral x → (p : PrimitiveIn w) × AlikeActs w (mean w c x).run (Returns w.State (ValueIn w) (Value.primitive p))
    unfolding mean
    literal_run IsLiteral.string = (_, constant (watched_single c (returns_single _ _ _)) (λ s. watched_gives c Returns.returns))
    literal_run IsLiteral.number = (_, constant (watched_single c (returns_single _ _ _)) (λ s. watched_gives c Returns.returns))
    literal_run IsLiteral.boolean = (_, constant (watched_single c (returns_single _ _ _)) (λ s. watched_gives c Returns.returns))
    literal_run IsLiteral.null = (_, constant (watched_single c (returns_single _ _ _)) (λ s. watched_gives c Returns.returns))

    merged : {n : ℕ} {xs ys : Arguments} {es : Elements} → Takes n xs es ys → Merged xs es ys
    merged (Takes.literal i t) a = let l = literal_run i in literal_taken _ l.0 _ _ _ l.1 (merged t) a
    merged (Takes.array t) a = array_taken _ _ _ _ _ (merged t) a
    merged (Takes.at_other i) a = none_taken _ a
    merged Takes.at_spread a = none_taken _ a
    merged Takes.at_end a = none_taken _ a

    pub found : Premises w → (a : SlotsIn w) → AlikeActs w (get_method w (Pair.pair (Value.array a) (text_value w concat_name))) (Returns w.State (Pair (ValueIn w)) (Pair.pair (Value.array a) (Value.object w.array_concat)))
    found p a = constant (then_single (asks_single _ _ _) (λ o. returns_single _ _ _)) (λ s. Then.goes (Asks.asks (p.finds_array_concat a s)) Returns.returns)

    no_more : (n : ℕ) (es : Elements) → AlikeActs w (Watched w.State (ValueIn w) (Then w.State (SlotsIn w) (ValueIn w) (elements w c es) (λ a. concats a Arguments.no_arguments)) c) (mean w c (Expression.array n es)).run
    unfolding mean array_concat_result slots_joined ◌>>=◌
    no_more n es = watched_alike c (second (λ a. begun ⨾ settles_gives))

    -- a call of concat on an array literal
    pub array_call : Premises w → (l j : ℕ) (g : Expression) (es : Elements) (xs : Arguments) → Method g (Expression.array j es) concat_name
        → AlikeActs w (mean w c (Expression.call l g xs)).run (Watched w.State (ValueIn w) (Then w.State (SlotsIn w) (ValueIn w) (elements w c es) (λ a. concats a xs)) c)
    unfolding mean
    array_call p l j g es xs m =
        watched_alike c
        (first (method_callee w c m ⨾ first (array_run c j es) ⨾ regroup ⨾ second (λ a. begun ⨾ found p a))
        ⨾ regroup ⨾ second (λ a. begun ⨾ second (λ vs. asks_settles (p.applies_array_concat a vs))))

    merged_call : Premises w → (l j : ℕ) (g : Expression) (es ts : Elements) (n : ℕ) (xs ys : Arguments) → Method g (Expression.array j es) concat_name → Takes n xs ts ys
        → AlikeActs w (mean w c (Expression.call l g xs)).run (Watched w.State (ValueIn w) (Then w.State (SlotsIn w) (ValueIn w) (elements w c (append_elements es ts)) (λ a. concats a ys)) c)
    merged_call p l j g es ts n xs ys m t =
        array_call p l j g es xs m
        ⨾ watched_alike c (second (λ a. merged t a) ⨾ turned (first (append_alike es ts) ⨾ regroup ⨾ second (λ a. regroup ⨾ second (λ b. begun))))

  refitted : (i : ℕ) {g o : Expression} {k : Units} → Method g o k → (y : Expression) → Method (with_object i g y) y k
  unfolding with_object
  refitted i Method.static y = Method.static
  refitted i Method.keyed y = Method.keyed

  module _ (p : Premises w) (l j : ℕ) (g : Expression) (es : Elements) (m : Method g (Expression.array j es) concat_name) where
    -- no argument at all
    pub array_keeps : Keeps w (Expression.call l g Arguments.no_arguments) (Expression.array j es)
    array_keeps = keeps_by w _ _ (λ c. array_call c p l j g es Arguments.no_arguments m ⨾ no_more c j es)

    -- none is left
    pub taking_all_keeps : (n k : ℕ) (xs : Arguments) (ts : Elements) → Takes k xs ts Arguments.no_arguments → Keeps w (Expression.call l g xs) (Expression.array n (append_elements es ts))
    taking_all_keeps n k xs ts t = keeps_by w _ _ (λ c. merged_call c p l j g es ts k xs _ m t ⨾ no_more c n (append_elements es ts))

    -- some are left
    pub taking_some_keeps : (n i h k : ℕ) (xs ys : Arguments) (ts : Elements) → Takes k xs ts ys
        → Keeps w (Expression.call l g xs) (Expression.call n (with_object i g (Expression.array h (append_elements es ts))) ys)
    taking_some_keeps n i h k xs ys ts t =
        keeps_by w _ _ (λ c. merged_call c p l j g es ts k xs ys m t ⨾ turned (array_call c p n h _ _ _ (refitted i m (Expression.array h (append_elements es ts)))))
