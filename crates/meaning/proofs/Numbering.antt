-- Runs do not depend on the numbers of nodes.
use Rattle.std.proofs.Common.{ℕ, zero, suc, List, []}
use Rattle.tree.specs.declared.node.FirstChild.{FirstChild}
use Rattle.meaning.specs.Expression.{Expression, Elements, Arguments, Pieces, Children, Quasi, Units}
use Rattle.meaning.specs.World.{World, ValueIn, Result, Outcome, Next}
use Rattle.meaning.specs.Acts.{Act, Sight, Then, Mode, Watched, Seen, Steps}
use Rattle.meaning.specs.Runs.{Reference, mean, elements, arguments, pieces, children, callee, sight_reference}
use Rattle.meaning.specs.Numbering.{renumbered, renumbered_elements, renumbered_arguments, renumbered_pieces, renumbered_children, NoRunDependsOnNumbers}
use Rattle.meaning.proofs.Replacing.{Implies, ImpliesSight, then_both, watched_both, seen_both_ways, steps_all, RefinesReference, callee_refines, sight_refines}

-- Two acts imply each other, and so do what is put together from them.
abbrev Same : (S A : Type 0) → Act S A → Act S A → Type 0
Same S A a b = Implies S A a b × Implies S A b a

abbrev SameSight : (S V : Type 0) → Sight S V → Sight S V → Type 0
SameSight S V a b = ImpliesSight S V a b × ImpliesSight S V b a

itself : {S A : Type 0} {m : Act S A} → Same S A m m
itself = (λ s r t d. d, λ s r t d. d)

both : {S A B : Type 0} {m m2 : Act S A} {k k2 : A → Act S B} → Same S A m m2 → ((a : A) → Same S B (k a) (k2 a)) → Same S B (Then S A B m k) (Then S A B m2 k2)
both h j = (then_both h.0 (λ a. (j a).0), then_both h.1 (λ a. (j a).1))

first : {S A B : Type 0} {m m2 : Act S A} {k : A → Act S B} → Same S A m m2 → Same S B (Then S A B m k) (Then S A B m2 k)
first h = both h (λ a. itself)

watching : {S A : Type 0} {m m2 : Act S A} (c : Mode) → Same S A m m2 → Same S A (Watched S A m c) (Watched S A m2 c)
watching c h = (watched_both c h.0, watched_both c h.1)

seeing : {S A V : Type 0} {m m2 : Act S A} {f : A → Outcome V} → Same S A m m2 → SameSight S V (Seen S A V m f) (Seen S A V m2 f)
seeing h = (seen_both_ways h.0, seen_both_ways h.1)

stepping : {S V : Type 0} {next : List (Outcome V) → S → Next S V} {kid kid2 : ℕ → Sight S V} → ((i : ℕ) → SameSight S V (kid i) (kid2 i))
    → Same S V (Steps S V next kid []) (Steps S V next kid2 [])
stepping h = (λ s r t. steps_all (λ i. (h i).0), λ s r t. steps_all (λ i. (h i).1))

module _ (w : World) (c : Mode) (f : ℕ → ℕ) where
  abbrev Alike : {A : Type 0} → Act w.State A → Act w.State A → Type 0
  Alike {A} a b = Same w.State A a b

  abbrev AlikeReference : Reference w.State (ValueIn w) → Reference w.State (ValueIn w) → Type 0
  AlikeReference a b = RefinesReference w c a b × RefinesReference w c b a

  calling : (m m2 : Act w.State (ValueIn w)) (a b : Reference w.State (ValueIn w)) → Alike m m2 → AlikeReference a b → Alike (callee w m a) (callee w m2 b)
  calling m m2 a b h j = (callee_refines w c m m2 a b h.0 j.0, callee_refines w c m2 m b a h.1 j.1)

  referring : (m m2 : Act w.State (ValueIn w)) (a b : Reference w.State (ValueIn w)) → Alike m m2 → AlikeReference a b
      → SameSight w.State (ValueIn w) (sight_reference w m a) (sight_reference w m2 b)
  referring m m2 a b h j = (sight_refines w c m m2 a b h.0 j.0, sight_refines w c m2 m b a h.1 j.1)

  mutual
    unfolding mean

    run_alike : (x : Expression) → Alike (mean w c x).run (mean w c (renumbered f x)).run
    run_alike (Expression.string _ _) = watching c itself
    run_alike (Expression.number _ _) = watching c itself
    run_alike (Expression.boolean _ _) = watching c itself
    run_alike (Expression.null _) = watching c itself
    run_alike (Expression.name _ _) = watching c itself
    run_alike (Expression.array _ xs) = watching c (first (elements_alike xs))
    run_alike (Expression.static_member _ x _) = watching c (first (first (run_alike x)))
    run_alike (Expression.computed_member _ x y) = watching c (first (both (run_alike x) (λ v. first (run_alike y))))
    run_alike (Expression.call _ g xs) = watching c (both (calling _ _ _ _ (run_alike g) (reference_alike g)) (λ v. first (arguments_alike xs)))
    run_alike (Expression.template _ ps) = watching c (first (pieces_alike ps []))
    run_alike (Expression.unary _ _ x) = watching c (first (run_alike x))
    run_alike (Expression.binary _ _ x y) = watching c (both (run_alike x) (λ v. first (run_alike y)))
    run_alike (Expression.opaque _ b _ xs) = watching c (stepping (children_alike xs b))

    reference_alike : (x : Expression) → AlikeReference (mean w c x).refers (mean w c (renumbered f x)).refers
    reference_alike (Expression.string _ _) = (tt, tt)
    reference_alike (Expression.number _ _) = (tt, tt)
    reference_alike (Expression.boolean _ _) = (tt, tt)
    reference_alike (Expression.null _) = (tt, tt)
    reference_alike (Expression.name _ _) = (tt, tt)
    reference_alike (Expression.array _ _) = (tt, tt)
    reference_alike (Expression.static_member _ x _) = first (run_alike x)
    reference_alike (Expression.computed_member _ x y) = both (run_alike x) (λ v. first (run_alike y))
    reference_alike (Expression.call _ _ _) = (tt, tt)
    reference_alike (Expression.template _ _) = (tt, tt)
    reference_alike (Expression.unary _ _ _) = (tt, tt)
    reference_alike (Expression.binary _ _ _ _) = (tt, tt)
    reference_alike (Expression.opaque _ _ _ _) = (tt, tt)

    elements_alike : (xs : Elements) → Alike (elements w c xs) (elements w c (renumbered_elements f xs))
    elements_alike Elements.no_elements = itself
    elements_alike (Elements.hole _ xs) = first (elements_alike xs)
    elements_alike (Elements.spread _ x xs) = both (watching c (first (run_alike x))) (λ v. first (elements_alike xs))
    elements_alike (Elements.item x xs) = both (run_alike x) (λ v. first (elements_alike xs))

    arguments_alike : (xs : Arguments) → Alike (arguments w c xs) (arguments w c (renumbered_arguments f xs))
    arguments_alike Arguments.no_arguments = itself
    arguments_alike (Arguments.spread_argument _ x xs) = both (watching c (first (run_alike x))) (λ v. first (arguments_alike xs))
    arguments_alike (Arguments.argument x xs) = both (run_alike x) (λ v. first (arguments_alike xs))

    pieces_alike : (ps : Pieces) (u : Units) → Alike (pieces w c u ps) (pieces w c u (renumbered_pieces f ps))
    pieces_alike (Pieces.last (Quasi.quasi _ _ _)) u = itself
    pieces_alike (Pieces.piece (Quasi.quasi _ _ _) x ps) u = both (run_alike x) (λ v. both itself (λ z. pieces_alike ps _))

    children_alike : (xs : Children) (b : FirstChild) (i : ℕ) → SameSight w.State (ValueIn w) (children w c b xs i) (children w c b (renumbered_children f xs) i)
    children_alike Children.no_children b i = (λ s o t d. d, λ s o t d. d)
    children_alike (Children.child x xs) FirstChild.Reference zero = referring _ _ _ _ (run_alike x) (reference_alike x)
    children_alike (Children.child x xs) FirstChild.Value zero = seeing (run_alike x)
    children_alike (Children.child x xs) b (suc i) = children_alike xs FirstChild.Value i

pub numbers_ignored : (w : World) → NoRunDependsOnNumbers w
numbers_ignored w f x =
    let free = run_alike w Mode.free f x in
    let calm = run_alike w Mode.calm f x in (
      record { forth = free.0; back = free.1; stays_calm = λ s v. calm.0 s (Result.gives v) s },
      record { forth = free.1; back = free.0; stays_calm = λ s v. calm.1 s (Result.gives v) s },
    )
