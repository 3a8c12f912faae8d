-- A calm run is a run.
use Rattle.std.proofs.Common.{ℕ, zero, suc, []}
use Rattle.tree.specs.declared.node.FirstChild.{FirstChild}
use Rattle.meaning.specs.Expression.{Expression, Elements, Arguments, Pieces, Children, Units}
use Rattle.meaning.specs.World.{World, ValueIn, Result}
use Rattle.meaning.specs.Acts.{Act, Mode, Watched}
use Rattle.meaning.specs.Runs.{mean, elements, arguments, pieces, children}
use Rattle.meaning.specs.Laws.{ACalmRunIsARun}
use Rattle.meaning.proofs.Replacing.{Implies, ImpliesSight, then_both, then_first, seen_both_ways, steps_all, Refines, RefinesReference, callee_refines, sight_refines}

loosened : {S A : Type 0} {m m2 : Act S A} → Implies S A m m2 → Implies S A (Watched S A m Mode.calm) (Watched S A m2 Mode.free)
loosened h s r t (Watched.calmly d _) = Watched.freely (h s r t d)

module _ (w : World) where
  mutual
    unfolding mean

    pub forget : (x : Expression) → Refines w Mode.free (mean w Mode.calm x).run (mean w Mode.free x).run
    forget (Expression.string _ _) = loosened (λ s r t d. d)
    forget (Expression.number _ _) = loosened (λ s r t d. d)
    forget (Expression.boolean _ _) = loosened (λ s r t d. d)
    forget (Expression.null _) = loosened (λ s r t d. d)
    forget (Expression.name _ _) = loosened (λ s r t d. d)
    forget (Expression.array _ xs) = loosened (then_first (forget_elements xs))
    forget (Expression.static_member _ x _) = loosened (then_first (then_first (forget x)))
    forget (Expression.computed_member _ x y) = loosened (then_first (then_both (forget x) (λ v. then_first (forget y))))
    forget (Expression.call _ f xs) = loosened (then_both (callee_refines w Mode.free _ _ _ _ (forget f) (forget_reference f)) (λ g. then_first (forget_arguments xs)))
    forget (Expression.template _ ps) = loosened (then_first (forget_pieces ps []))
    forget (Expression.unary _ _ x) = loosened (then_first (forget x))
    forget (Expression.binary _ _ x y) = loosened (then_both (forget x) (λ v. then_first (forget y)))
    forget (Expression.opaque _ b _ xs) = loosened (λ s r t. steps_all (forget_children xs b))

    forget_reference : (x : Expression) → RefinesReference w Mode.free (mean w Mode.calm x).refers (mean w Mode.free x).refers
    forget_reference (Expression.string _ _) = tt
    forget_reference (Expression.number _ _) = tt
    forget_reference (Expression.boolean _ _) = tt
    forget_reference (Expression.null _) = tt
    forget_reference (Expression.name _ _) = tt
    forget_reference (Expression.array _ xs) = tt
    forget_reference (Expression.static_member _ x _) = then_first (forget x)
    forget_reference (Expression.computed_member _ x y) = then_both (forget x) (λ v. then_first (forget y))
    forget_reference (Expression.call _ f xs) = tt
    forget_reference (Expression.template _ ps) = tt
    forget_reference (Expression.unary _ _ x) = tt
    forget_reference (Expression.binary _ _ x y) = tt
    forget_reference (Expression.opaque _ b _ xs) = tt

    forget_elements : (xs : Elements) → Refines w Mode.free (elements w Mode.calm xs) (elements w Mode.free xs)
    forget_elements Elements.no_elements = λ s r t d. d
    forget_elements (Elements.hole _ xs) = then_first (forget_elements xs)
    forget_elements (Elements.spread _ x xs) = then_both (loosened (then_first (forget x))) (λ v. then_first (forget_elements xs))
    forget_elements (Elements.item x xs) = then_both (forget x) (λ v. then_first (forget_elements xs))

    pub forget_arguments : (xs : Arguments) → Refines w Mode.free (arguments w Mode.calm xs) (arguments w Mode.free xs)
    forget_arguments Arguments.no_arguments = λ s r t d. d
    forget_arguments (Arguments.spread_argument _ x xs) = then_both (loosened (then_first (forget x))) (λ v. then_first (forget_arguments xs))
    forget_arguments (Arguments.argument x xs) = then_both (forget x) (λ v. then_first (forget_arguments xs))

    forget_pieces : (ps : Pieces) (u : Units) → Refines w Mode.free (pieces w Mode.calm u ps) (pieces w Mode.free u ps)
    forget_pieces (Pieces.last q) u = λ s r t d. d
    forget_pieces (Pieces.piece q x ps) u = then_both (forget x) (λ v. then_both (λ s r t d. d) (λ z. forget_pieces ps _))

    forget_children : (xs : Children) (b : FirstChild) (i : ℕ) → ImpliesSight w.State (ValueIn w) (children w Mode.calm b xs i) (children w Mode.free b xs i)
    forget_children Children.no_children b i = λ s r t d. d
    forget_children (Children.child x xs) FirstChild.Reference zero = sight_refines w Mode.free _ _ _ _ (forget x) (forget_reference x)
    forget_children (Children.child x xs) FirstChild.Value zero = seen_both_ways (forget x)
    forget_children (Children.child x xs) b (suc i) = forget_children xs FirstChild.Value i

pub calm_runs : (w : World) → ACalmRunIsARun w
calm_runs w x s v d = forget w x s (Result.gives v) s d
