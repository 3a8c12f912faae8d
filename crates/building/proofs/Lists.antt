-- Lists of elements and of arguments, by the parts that stand in them.
use Rattle.std.proofs.Common.{◌≡◌, ℕ, suc, List, [], ◌∷◌, ◌++◌, length, refl, ap}
use Rattle.tree.specs.Tree.{labels, DenoteAll}
use Rattle.tree.specs.Heap.{Held, look}
use Rattle.meaning.specs.Expression.{Elements, Arguments}
use Rattle.meaning.specs.Parts.{Part}
use Rattle.meaning.specs.Trees.{element_trees, argument_trees}
use Rattle.rules.specs.Building.{elements_of, append_elements, append_arguments}
use Rattle.rules.specs.Interleaves.{argument_count}
use Rattle.rules.specs.Space.{element_count}
use Rattle.deciding.specs.Standing.{AllStand, element_parts, argument_parts}

-- The numbers denote the trees of such a list.
pub elements_denoted : (h : Held) (ns : List ℕ) (es : Elements) → AllStand h ns (element_parts es) → (ns ≡ labels (element_trees es)) × DenoteAll (look h) (element_trees es)
unfolding element_parts
elements_denoted h [] Elements.no_elements s = (refl, tt)
elements_denoted h (n ∷ ns) Elements.no_elements s = absurd s
elements_denoted h [] (Elements.item x es) s = absurd s
elements_denoted h (n ∷ ns) (Elements.item x es) s = let i = elements_denoted h ns es s.1 in (cc (s.0.numbered, i.0), (s.0.denoted, i.1))
elements_denoted h [] (Elements.hole l es) s = absurd s
elements_denoted h (n ∷ ns) (Elements.hole l es) s = let i = elements_denoted h ns es s.1 in (cc (s.0.numbered, i.0), (s.0.denoted, i.1))
elements_denoted h [] (Elements.spread l x es) s = absurd s
elements_denoted h (n ∷ ns) (Elements.spread l x es) s = let i = elements_denoted h ns es s.1 in (cc (s.0.numbered, i.0), (s.0.denoted, i.1))

pub arguments_denoted : (h : Held) (ns : List ℕ) (xs : Arguments) → AllStand h ns (argument_parts xs) → (ns ≡ labels (argument_trees xs)) × DenoteAll (look h) (argument_trees xs)
unfolding argument_parts
arguments_denoted h [] Arguments.no_arguments s = (refl, tt)
arguments_denoted h (n ∷ ns) Arguments.no_arguments s = absurd s
arguments_denoted h [] (Arguments.argument x xs) s = absurd s
arguments_denoted h (n ∷ ns) (Arguments.argument x xs) s = let i = arguments_denoted h ns xs s.1 in (cc (s.0.numbered, i.0), (s.0.denoted, i.1))
arguments_denoted h [] (Arguments.spread_argument l x xs) s = absurd s
arguments_denoted h (n ∷ ns) (Arguments.spread_argument l x xs) s = let i = arguments_denoted h ns xs s.1 in (cc (s.0.numbered, i.0), (s.0.denoted, i.1))

-- Lists one behind the other.
pub stand_behind : (h : Held) (ns ms : List ℕ) (ps qs : List Part) → AllStand h ns ps → AllStand h ms qs → AllStand h (ns ++ ms) (ps ++ qs)
stand_behind h [] ms [] qs s t = t
stand_behind h [] ms (p ∷ ps) qs s t = absurd s
stand_behind h (n ∷ ns) ms [] qs s t = absurd s
stand_behind h (n ∷ ns) ms (p ∷ ps) qs s t = (s.0, stand_behind h ns ms ps qs s.1 t)

pub parts_behind : (es fs : Elements) → element_parts (append_elements es fs) ≡ element_parts es ++ element_parts fs
unfolding element_parts append_elements
parts_behind Elements.no_elements fs = refl
parts_behind (Elements.item x es) fs = ap (λ ps. Part.expression x ∷ ps) (parts_behind es fs)
parts_behind (Elements.hole l es) fs = ap (λ ps. Part.hole l ∷ ps) (parts_behind es fs)
parts_behind (Elements.spread l x es) fs = ap (λ ps. Part.spread l x ∷ ps) (parts_behind es fs)

pub arguments_behind : (xs ys : Arguments) → argument_parts (append_arguments xs ys) ≡ argument_parts xs ++ argument_parts ys
unfolding argument_parts append_arguments
arguments_behind Arguments.no_arguments ys = refl
arguments_behind (Arguments.argument x xs) ys = ap (λ ps. Part.expression x ∷ ps) (arguments_behind xs ys)
arguments_behind (Arguments.spread_argument l x xs) ys = ap (λ ps. Part.spread l x ∷ ps) (arguments_behind xs ys)

-- Arguments that become elements.
pub parts_of_arguments : (xs : Arguments) → element_parts (elements_of xs) ≡ argument_parts xs
unfolding element_parts argument_parts elements_of
parts_of_arguments Arguments.no_arguments = refl
parts_of_arguments (Arguments.argument x xs) = ap (λ ps. Part.expression x ∷ ps) (parts_of_arguments xs)
parts_of_arguments (Arguments.spread_argument l x xs) = ap (λ ps. Part.spread l x ∷ ps) (parts_of_arguments xs)

-- How many there are.
pub how_many_stand : (h : Held) (ns : List ℕ) (ps : List Part) → AllStand h ns ps → length ns ≡ length ps
how_many_stand h [] [] s = refl
how_many_stand h [] (p ∷ ps) s = absurd s
how_many_stand h (n ∷ ns) [] s = absurd s
how_many_stand h (n ∷ ns) (p ∷ ps) s = ap suc (how_many_stand h ns ps s.1)

pub how_many_elements : (es : Elements) → length (element_parts es) ≡ element_count es
unfolding element_parts element_count
how_many_elements Elements.no_elements = refl
how_many_elements (Elements.item x es) = ap suc (how_many_elements es)
how_many_elements (Elements.hole l es) = ap suc (how_many_elements es)
how_many_elements (Elements.spread l x es) = ap suc (how_many_elements es)

pub how_many_arguments : (xs : Arguments) → length (argument_parts xs) ≡ argument_count xs
unfolding argument_parts argument_count
how_many_arguments Arguments.no_arguments = refl
how_many_arguments (Arguments.argument x xs) = ap suc (how_many_arguments xs)
how_many_arguments (Arguments.spread_argument l x xs) = ap suc (how_many_arguments xs)
