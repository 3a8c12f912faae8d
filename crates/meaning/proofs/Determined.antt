-- From one state a run has at most one result and state.
use Rattle.std.proofs.Common.{◌≡◌, ℕ, zero, suc, List, [], ◌∷◌, ◌++◌, sym, refl, ◌∙◌, subst, arith}
use Rattle.tree.specs.declared.node.FirstChild.{FirstChild}
use Rattle.meaning.specs.Expression.{Expression, Elements, Arguments, Pieces, Children, Units}
use Rattle.meaning.specs.World.{World, ValueIn, Result, Ending, Outcome, Next}
use Rattle.meaning.specs.Acts.{Act, Sight, Returns, Then, Asks, Settles, Mode, Watched, Seen, Steps}
use Rattle.meaning.specs.Runs.{Pair, Reference, mean, elements, arguments, pieces, children, callee, get_value, get_method, apply_to, sight_first}
use Rattle.meaning.specs.Laws.{ARunIsDetermined}

pub data Same (S A : Type 0) : A → S → A → S → Type 0 where
  same : {a : A} {s : S} → Same S A a s a s

abbrev pub Single : (S A : Type 0) → Act S A → Type 0
Single S A m = (s : S) (r : Result A) (t : S) (r2 : Result A) (t2 : S) → m s r t → m s r2 t2 → Same S (Result A) r t r2 t2

abbrev SingleSight : (S V : Type 0) → Sight S V → Type 0
SingleSight S V m = (s : S) (r : Outcome V) (t : S) (r2 : Outcome V) (t2 : S) → m s r t → m s r2 t2 → Same S (Outcome V) r t r2 t2

pub returns_single : (S A : Type 0) (a : A) → Single S A (Returns S A a)
returns_single S A a s r t r2 t2 Returns.returns Returns.returns = Same.same

same_by : {S A : Type 0} {r r2 : A} {t t2 : S} → r ≡ r2 → t ≡ t2 → Same S A r t r2 t2
same_by {S} {A} {r} {r2} {t} {t2} p q = subst (λ x. Same S A r t x t2) p (subst (λ y. Same S A r t r y) q Same.same)

pub same_value : {S A : Type 0} {r r2 : A} {t t2 : S} → Same S A r t r2 t2 → r ≡ r2
same_value Same.same = refl

same_state : {S A : Type 0} {r r2 : A} {t t2 : S} → Same S A r t r2 t2 → t ≡ t2
same_state Same.same = refl

pub asks_single : (S A : Type 0) (f : S → Ending S A) → Single S A (Asks S A f)
asks_single S A f s r t r2 t2 (Asks.asks p) (Asks.asks q) = same_by (cc) (cc)

pub settles_single : (S A : Type 0) (f : S → Result A) → Single S A (Settles S A f)
settles_single S A f s r t r2 t2 (Settles.settles p) (Settles.settles q) = same_by (cc) refl

pub gives_throws : {V : Type 0} {A : Type 0} {a : V} → Result.gives a ≡ Result.throws → A
gives_throws {V} {A} {a} p = let z : ◌≡◌ {A = ℕ} 0 1 = cc in absurd (omega arith)

then_goes : {S A B : Type 0} {k : A → Act S B} → ((a : A) → Single S B (k a)) → {a a2 : A} {u u2 : S} {r : Result B} {t : S} {r2 : Result B} {t2 : S}
    → Same S (Result A) (Result.gives a) u (Result.gives a2) u2 → k a u r t → k a2 u2 r2 t2 → Same S (Result B) r t r2 t2
then_goes j Same.same q q2 = j _ _ _ _ _ _ q q2

pub then_single : {S A B : Type 0} {m : Act S A} {k : A → Act S B} → Single S A m → ((a : A) → Single S B (k a)) → Single S B (Then S A B m k)
then_single h j s r t r2 t2 (Then.goes p q) (Then.goes p2 q2) = then_goes j (h _ _ _ _ _ p p2) q q2
then_single h j s r t r2 t2 (Then.goes p q) (Then.stops p2) = gives_throws (same_value (h _ _ _ _ _ p p2))
then_single h j s r t r2 t2 (Then.stops p) (Then.goes p2 q2) = gives_throws (sym (same_value (h _ _ _ _ _ p p2)))
then_single h j s r t r2 t2 (Then.stops p) (Then.stops p2) = same_by refl (same_state (h _ _ _ _ _ p p2))

pub watched_single : {S A : Type 0} {m : Act S A} (c : Mode) → Single S A m → Single S A (Watched S A m c)
watched_single Mode.free h s r t r2 t2 (Watched.freely p) (Watched.freely q) = h _ _ _ _ _ p q
watched_single Mode.calm h s r t r2 t2 (Watched.calmly p _) (Watched.calmly q _) = h _ _ _ _ _ p q

seen_gave : {S A V : Type 0} (f : A → Outcome V) {a a2 : A} {o o2 : Outcome V} {u u2 : S}
    → Same S (Result A) (Result.gives a) u (Result.gives a2) u2 → f a ≡ o → f a2 ≡ o2 → Same S (Outcome V) o u o2 u2
seen_gave f Same.same p q = same_by (sym p ∙ q) refl

seen_single : {S A V : Type 0} {m : Act S A} {f : A → Outcome V} → Single S A m → SingleSight S V (Seen S A V m f)
seen_single {f} h s r t r2 t2 (Seen.gave p e) (Seen.gave p2 e2) = seen_gave f (h _ _ _ _ _ p p2) e e2
seen_single h s r t r2 t2 (Seen.gave p e) (Seen.threw p2) = gives_throws (same_value (h _ _ _ _ _ p p2))
seen_single h s r t r2 t2 (Seen.threw p) (Seen.gave p2 e2) = gives_throws (sym (same_value (h _ _ _ _ _ p p2)))
seen_single h s r t r2 t2 (Seen.threw p) (Seen.threw p2) = same_by refl (same_state (h _ _ _ _ _ p p2))

steps_differ : {S V A : Type 0} {e : Ending S V} {i : ℕ} {u : S} → Next.stops e ≡ Next.runs i u → A
steps_differ p = let z : ◌≡◌ {A = ℕ} 0 1 = cc in absurd (omega arith)

module _ {S V : Type 0} {next : List (Outcome V) → S → Next S V} {kid : ℕ → Sight S V} (h : (i : ℕ) → SingleSight S V (kid i)) where
  steps_go : (os : List (Outcome V)) {r r2 : Result V} {t t2 u u2 v v2 : S} {i i2 : ℕ} {o o2 : Outcome V}
      → ((r2 : Result V) (t2 : S) → Steps S V next kid (os ++ (o ∷ [])) v r2 t2 → Same S (Result V) r t r2 t2)
      → Same ℕ S u i u2 i2 → kid i u o v → kid i2 u2 o2 v2 → Steps S V next kid (os ++ (o2 ∷ [])) v2 r2 t2 → Same S (Result V) r t r2 t2
  steps_go os {r} {r2} {t} {t2} ih Same.same k k2 d2 = on (h _ _ _ _ _ _ k k2) ih d2
    where
      on : {v v2 : S} {o o2 : Outcome V} → Same S (Outcome V) o v o2 v2 → ((r2 : Result V) (t2 : S) → Steps S V next kid (os ++ (o ∷ [])) v r2 t2 → Same S (Result V) r t r2 t2)
          → Steps S V next kid (os ++ (o2 ∷ [])) v2 r2 t2 → Same S (Result V) r t r2 t2
      on Same.same ih d = ih _ _ d

  steps_single : {os : List (Outcome V)} {s : S} {r : Result V} {t : S} → Steps S V next kid os s r t → (r2 : Result V) (t2 : S) → Steps S V next kid os s r2 t2 → Same S (Result V) r t r2 t2
  steps_single (Steps.ends p) r2 t2 (Steps.ends p2) = same_by (cc) (cc)
  steps_single (Steps.ends p) r2 t2 (Steps.runs p2 k2 d2) = steps_differ (sym p ∙ p2)
  steps_single (Steps.runs p k d) r2 t2 (Steps.ends p2) = steps_differ (sym p2 ∙ p)
  steps_single {os} (Steps.runs p k d) r2 t2 (Steps.runs p2 k2 d2) = steps_go os (steps_single d) (same_by (cc) (cc)) k k2 d2

module _ (w : World) where
  abbrev Once : {A : Type 0} → Act w.State A → Type 0
  Once {A} m = Single w.State A m

  abbrev OnceReference : Reference w.State (ValueIn w) → Type 0
  OnceReference Reference.plain = Unit {0}
  OnceReference (Reference.member a) = Once a

  get_value_single : (b : Pair (ValueIn w)) → Once (get_value w b)
  get_value_single (Pair.pair o k) = asks_single _ _ _

  pub get_method_single : (b : Pair (ValueIn w)) → Once (get_method w b)
  get_method_single (Pair.pair o k) = then_single (asks_single _ _ _) (λ f. returns_single _ _ _)

  apply_single : (vs : List (ValueIn w)) (b : Pair (ValueIn w)) → Once (apply_to w vs b)
  apply_single vs (Pair.pair o k) = asks_single _ _ _

  callee_single : (m : Act w.State (ValueIn w)) (f : Reference w.State (ValueIn w)) → Once m → OnceReference f → Once (callee w m f)
  callee_single m Reference.plain h j = then_single h (λ f. returns_single _ _ _)
  callee_single m (Reference.member a) h j = then_single j get_method_single

  first_single : (b : FirstChild) (m : Act w.State (ValueIn w)) (f : Reference w.State (ValueIn w)) → Once m → OnceReference f → SingleSight w.State (ValueIn w) (sight_first w b (record { run = m; refers = f }))
  first_single FirstChild.Value m f h j = seen_single h
  first_single FirstChild.Reference m Reference.plain h j = seen_single h
  first_single FirstChild.Reference m (Reference.member a) h j = seen_single j

  mutual
    unfolding mean

    pub mean_single : (c : Mode) (x : Expression) → Once (mean w c x).run × OnceReference (mean w c x).refers
    mean_single c (Expression.string _ u) = (watched_single c (returns_single _ _ _), tt)
    mean_single c (Expression.number _ u) = (watched_single c (returns_single _ _ _), tt)
    mean_single c (Expression.boolean _ u) = (watched_single c (returns_single _ _ _), tt)
    mean_single c (Expression.null _) = (watched_single c (returns_single _ _ _), tt)
    mean_single c (Expression.name _ u) = (watched_single c (asks_single _ _ _), tt)
    mean_single c (Expression.array _ xs) = (watched_single c (then_single (elements_single c xs) (λ v. returns_single _ _ _)), tt)
    mean_single c (Expression.static_member _ x k) = let a = then_single (mean_single c x).0 (λ v. returns_single _ _ _) in (watched_single c (then_single a get_value_single), a)
    mean_single c (Expression.computed_member _ x k) = let a = then_single (mean_single c x).0 (λ v. then_single (mean_single c k).0 (λ v. returns_single _ _ _)) in (watched_single c (then_single a get_value_single), a)
    mean_single c (Expression.call _ f xs) = (watched_single c (then_single (callee_single _ _ (mean_single c f).0 (mean_single c f).1) (λ g. then_single (arguments_single c xs) (λ vs. apply_single vs g))), tt)
    mean_single c (Expression.template _ ps) = (watched_single c (then_single (pieces_single c [] ps) (λ v. returns_single _ _ _)), tt)
    mean_single c (Expression.unary _ o x) = (watched_single c (then_single (mean_single c x).0 (λ v. settles_single _ _ _)), tt)
    mean_single c (Expression.binary _ o x y) = (watched_single c (then_single (mean_single c x).0 (λ v. then_single (mean_single c y).0 (λ v. settles_single _ _ _))), tt)
    mean_single c (Expression.opaque _ b k xs) = (watched_single c (λ s r t r2 t2 d d2. steps_single (children_single c b xs) d r2 t2 d2), tt)

    pub elements_single : (c : Mode) (xs : Elements) → Once (elements w c xs)
    elements_single c Elements.no_elements = returns_single _ _ _
    elements_single c (Elements.hole _ xs) = then_single (elements_single c xs) (λ v. returns_single _ _ _)
    elements_single c (Elements.spread _ x xs) = then_single (watched_single c (then_single (mean_single c x).0 (λ v. asks_single _ _ _))) (λ v. then_single (elements_single c xs) (λ v. returns_single _ _ _))
    elements_single c (Elements.item x xs) = then_single (mean_single c x).0 (λ v. then_single (elements_single c xs) (λ v. returns_single _ _ _))

    pub arguments_single : (c : Mode) (xs : Arguments) → Once (arguments w c xs)
    arguments_single c Arguments.no_arguments = returns_single _ _ _
    arguments_single c (Arguments.spread_argument _ x xs) = then_single (watched_single c (then_single (mean_single c x).0 (λ v. asks_single _ _ _))) (λ v. then_single (arguments_single c xs) (λ v. returns_single _ _ _))
    arguments_single c (Arguments.argument x xs) = then_single (mean_single c x).0 (λ v. then_single (arguments_single c xs) (λ v. returns_single _ _ _))

    pieces_single : (c : Mode) (u : Units) (ps : Pieces) → Once (pieces w c u ps)
    pieces_single c u (Pieces.last q) = returns_single _ _ _
    pieces_single c u (Pieces.piece q x ps) = then_single (mean_single c x).0 (λ v. then_single (settles_single _ _ _) (λ y. pieces_single c _ ps))

    children_single : (c : Mode) (b : FirstChild) (xs : Children) (i : ℕ) → SingleSight w.State (ValueIn w) (children w c b xs i)
    children_single c b Children.no_children i = λ s r t r2 t2 d d2. absurd d
    children_single c b (Children.child x xs) zero = first_single b _ _ (mean_single c x).0 (mean_single c x).1
    children_single c b (Children.child x xs) (suc i) = children_single c FirstChild.Value xs i

pub determined : (w : World) → ARunIsDetermined w
determined w x s r r2 t t2 d d2 =
    let h : Same w.State (Result (ValueIn w)) r t r2 t2 = (mean_single w Mode.free x).0 s r t r2 t2 d d2 in
    (same_value h, same_state h)
