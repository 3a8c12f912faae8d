-- The numbers of what the rules build.
use Rattle.std.proofs.Common.{◌≡◌, ◌⊎◌, ℕ, suc, ◌+◌, ◌<◌, ◌≤◌, List, [], ◌∷◌, ◌++◌, Some, None, Option, inl, inr, refl, sym, ap, ◌∙◌, arith}
use Rattle.std.proofs.lemmas.Bool.{cases_eq}
use Rattle.tree.specs.Tree.{same, uses, uses_all}
use Rattle.tree.proofs.Counting.{same_self, same_other}
use Rattle.meaning.specs.Expression.{Expression, Elements, Arguments, Quasi, Pieces, Units}
use Rattle.meaning.specs.Trees.{tree_of, element_trees, argument_trees, piece_trees}
use Rattle.rules.specs.Building.{elements_of, append_elements, append_arguments, text_of, new_quasi, add_piece, pieces_of, quasi_count, template_of, joined, void_zero, with_object, flat}
use Rattle.rules.specs.Takes.{Takes}
use Rattle.rules.specs.Indexed.{UnitAt, ElementAt}
use Rattle.rules.specs.MethodBecomes.{Method}
use Rattle.rules.specs.ChainBecomes.{Calls}

-- c counts how often n is among the k numbers from m on
abbrev pub Among : ℕ → ℕ → ℕ → ℕ → Type 0
Among n m k c = (n < m → c ≡ 0) × (m ≤ n → n < m + k → c ≡ 1) × (m + k ≤ n → c ≡ 0)

same_eq : (n m : ℕ) → n ≡ m → same n m ≡ 1
same_eq n m e = ap (same n) (sym e) ∙ same_self n

pub among_none : (n m : ℕ) → Among n m 0 0
among_none n m = (λ l. refl, λ l h. absurd (omega arith), λ l. refl)

-- one more behind them, and one more before them
pub among_behind : (n m k c : ℕ) → Among n m k c → Among n m (suc k) (c + same n (m + k))
among_behind n m k c h = by (cases_eq n (m + k))
  where
    by : (n ≡ m + k) ⊎ (n ≡ m + k → ⊥) → Among n m (suc k) (c + same n (m + k))
    by (inl e) =
        let i = same_eq n (m + k) e in
        (λ l. absurd (omega arith), λ l j. let z = h.2 (omega arith) in omega arith, λ l. absurd (omega arith))
    by (inr e) =
        let i = same_other n (m + k) e in
        (λ l. let z = h.0 l in omega arith, λ l j. let z = h.1 l (omega arith) in omega arith, λ l. let z = h.2 (omega arith) in omega arith)

pub among_before : (n m k c : ℕ) → Among n (suc m) k c → Among n m (suc k) (same n m + c)
among_before n m k c h = by (cases_eq n m)
  where
    by : (n ≡ m) ⊎ (n ≡ m → ⊥) → Among n m (suc k) (same n m + c)
    by (inl e) =
        let i = same_eq n m e in
        (λ l. absurd (omega arith), λ l j. let z = h.0 (omega arith) in omega arith, λ l. absurd (omega arith))
    by (inr e) =
        let i = same_other n m e in
        (λ l. let z = h.0 (omega arith) in omega arith, λ l j. let z = h.1 (omega arith) (omega arith) in omega arith, λ l. let z = h.2 (omega arith) in omega arith)

pub among_one : (n m : ℕ) → Among n m 1 (same n m + 0)
among_one n m = among_before n m 0 0 (among_none n (suc m))

-- what is made of numbers that are used so often: k new ones from m on, and some of them
abbrev pub Made : ℕ → ℕ → ℕ → (made from : ℕ) → Type 0
Made n m k u a = (c o : ℕ) × (u ≡ c + o) × (o ≤ a) × Among n m k c

-- ---- templates

pieces_made : (n m : ℕ) (u : Units) (xs : Arguments) → Made n m (quasi_count (pieces_of m u xs)) (uses_all n (piece_trees (pieces_of m u xs))) (uses_all n (argument_trees xs))
unfolding pieces_of add_piece new_quasi quasi_count
pieces_made n m u Arguments.no_arguments = (same n m + 0, 0, omega arith, omega arith, among_one n m)
pieces_made n m u (Arguments.spread_argument l x xs) = let h = pieces_made n m u xs in (h.0, h.1, h.2, omega (arith, h.3), h.4)
pieces_made n m u (Arguments.argument x xs) = by (text_of x) (λ k v. pieces_made n k v xs)
  where
    by : (o : Option Units) → ((k : ℕ) (v : Units) → Made n k (quasi_count (pieces_of k v xs)) (uses_all n (piece_trees (pieces_of k v xs))) (uses_all n (argument_trees xs)))
        → Made n m (quasi_count (add_piece m u x (λ k v. pieces_of k v xs) o)) (uses_all n (piece_trees (add_piece m u x (λ k v. pieces_of k v xs) o))) (uses n (tree_of x) + uses_all n (argument_trees xs))
    by (Some v) h = let i = h m (u ++ v) in (i.0, i.1, i.2, omega (arith, i.3), i.4)
    by None h =
        let i = h (suc m) [] in
        (same n m + i.0, uses n (tree_of x) + i.1, omega (arith, i.2), omega (arith, i.3), among_before n m (quasi_count (pieces_of (suc m) [] xs)) i.0 i.4)

template_count : Pieces → ℕ
template_count (Pieces.last q) = 1
template_count (Pieces.piece q x ps) = suc (quasi_count (Pieces.piece q x ps))

template_made : (n m a : ℕ) (ps : Pieces) → Made n m (quasi_count ps) (uses_all n (piece_trees ps)) a → Made n m (template_count ps) (uses n (tree_of (template_of m ps))) a
unfolding template_of template_count
template_made n m a (Pieces.last (Quasi.quasi l raw u)) h = (same n m + 0, 0, omega arith, omega arith, among_one n m)
template_made n m a (Pieces.piece q x ps) h =
    let k = quasi_count (Pieces.piece q x ps) in
    (h.0 + same n (m + k), h.1, omega (arith, h.2), h.3, among_behind n m k h.0 h.4)

pub joined_count : ℕ → Units → Arguments → ℕ
joined_count m u xs = template_count (pieces_of m u xs)

pub joined_made : (n m : ℕ) (u : Units) (xs : Arguments) → Made n m (joined_count m u xs) (uses n (tree_of (joined m u xs))) (uses_all n (argument_trees xs))
unfolding joined_count
joined_made n m u xs = template_made n m (uses_all n (argument_trees xs)) (pieces_of m u xs) (pieces_made n m u xs)

-- ---- arrays and calls

pub elements_uses : (n : ℕ) (xs : Arguments) → uses_all n (element_trees (elements_of xs)) ≡ uses_all n (argument_trees xs)
unfolding elements_of
elements_uses n Arguments.no_arguments = refl
elements_uses n (Arguments.argument x xs) = ap (λ z. uses n (tree_of x) + z) (elements_uses n xs)
elements_uses n (Arguments.spread_argument l x xs) = let i = elements_uses n xs in omega arith

pub append_elements_uses : (n : ℕ) (xs ys : Elements) → uses_all n (element_trees (append_elements xs ys)) ≡ uses_all n (element_trees xs) + uses_all n (element_trees ys)
unfolding append_elements
append_elements_uses n Elements.no_elements ys = omega arith
append_elements_uses n (Elements.item x xs) ys = let i = append_elements_uses n xs ys in omega arith
append_elements_uses n (Elements.hole l xs) ys = let i = append_elements_uses n xs ys in omega arith
append_elements_uses n (Elements.spread l x xs) ys = let i = append_elements_uses n xs ys in omega arith

append_arguments_uses : (n : ℕ) (xs ys : Arguments) → uses_all n (argument_trees (append_arguments xs ys)) ≡ uses_all n (argument_trees xs) + uses_all n (argument_trees ys)
unfolding append_arguments
append_arguments_uses n Arguments.no_arguments ys = omega arith
append_arguments_uses n (Arguments.argument x xs) ys = let i = append_arguments_uses n xs ys in omega arith
append_arguments_uses n (Arguments.spread_argument l x xs) ys = let i = append_arguments_uses n xs ys in omega arith

pub takes_uses : (n : ℕ) {k : ℕ} {xs ys : Arguments} {es : Elements} → Takes k xs es ys → uses_all n (element_trees es) + uses_all n (argument_trees ys) ≤ uses_all n (argument_trees xs)
takes_uses n (Takes.literal i t) = let j = takes_uses n t in omega arith
takes_uses n (Takes.array {fs = fs} {es = es} t) = let j = takes_uses n t in let k = append_elements_uses n fs es in omega arith
takes_uses n (Takes.at_other i) = omega arith
takes_uses n Takes.at_spread = omega arith
takes_uses n Takes.at_end = omega arith

-- a callee's own number and its key's, beside its object's
pub callee_uses : (n : ℕ) {g o : Expression} {k : Units} → Method g o k
    → (m i : ℕ) × (uses n (tree_of g) ≡ m + uses n (tree_of o) + i) × ((l : ℕ) (y : Expression) → uses n (tree_of (with_object l g y)) ≡ same n l + uses n (tree_of y) + i)
unfolding with_object
callee_uses n (Method.static {m = m}) = (same n m, 0, omega arith, λ l y. omega arith)
callee_uses n (Method.keyed {m = m} {i = i}) = (same n m, same n i, omega arith, λ l y. omega arith)

flat_longer_uses : (n : ℕ) (xss : List Arguments) (xs : Arguments) → uses_all n (argument_trees (flat (xss ++ (xs ∷ [])))) ≡ uses_all n (argument_trees (flat xss)) + uses_all n (argument_trees xs)
unfolding flat
flat_longer_uses n [] xs = let i = append_arguments_uses n xs Arguments.no_arguments in omega arith
flat_longer_uses n (ys ∷ yss) xs =
    let i = append_arguments_uses n ys (flat (yss ++ (xs ∷ []))) in
    let j = append_arguments_uses n ys (flat yss) in
    let k = flat_longer_uses n yss xs in
    omega arith

-- the innermost callee, with the base, and the arguments
pub calls_uses : (n : ℕ) {b : Expression} {m : ℕ} {x : Expression} {xss : List Arguments} → Calls b m x xss → same n m + uses n (tree_of b) + uses_all n (argument_trees (flat xss)) ≤ uses n (tree_of x)
unfolding flat
calls_uses n (Calls.innermost {xs = xs}) = let i = append_arguments_uses n xs Arguments.no_arguments in omega arith
calls_uses n (Calls.outer {xs = xs} {xss = xss} d) = let i = calls_uses n d in let j = flat_longer_uses n xss xs in omega arith

-- ---- elements

pub void_made : (n m a : ℕ) → Made n m 2 (uses n (tree_of (void_zero m))) a
void_made n m a = (same n m + 0 + same n (m + 1), 0, omega arith, omega arith, among_behind n m 1 (same n m + 0) (among_one n m))

pub unit_count : {m k : ℕ} {u : Units} {y : Expression} → UnitAt m u k y → ℕ
unit_count (UnitAt.unit e) = 1
unit_count (UnitAt.past_end e) = 2

pub unit_made : (n m a : ℕ) {k : ℕ} {u : Units} {y : Expression} (d : UnitAt m u k y) → Made n m (unit_count d) (uses n (tree_of y)) a
unfolding unit_count
unit_made n m a (UnitAt.unit e) = (same n m + 0, 0, omega arith, omega arith, among_one n m)
unit_made n m a (UnitAt.past_end e) = void_made n m a

pub element_count : {m k : ℕ} {xs : Elements} {y : Expression} → ElementAt m xs k y → ℕ
element_count ElementAt.item_here = 0
element_count ElementAt.hole_here = 2
element_count (ElementAt.past_item d) = element_count d
element_count (ElementAt.past_hole d) = element_count d

pub element_made : (n m : ℕ) {k : ℕ} {xs : Elements} {y : Expression} (d : ElementAt m xs k y) → Made n m (element_count d) (uses n (tree_of y)) (uses_all n (element_trees xs))
unfolding element_count
element_made n m (ElementAt.item_here {x = x}) = (0, uses n (tree_of x), omega arith, omega arith, among_none n m)
element_made n m ElementAt.hole_here = void_made n m _
element_made n m (ElementAt.past_item d) = let i = element_made n m d in (i.0, i.1, i.2, omega (arith, i.3), i.4)
element_made n m (ElementAt.past_hole d) = let i = element_made n m d in (i.0, i.1, i.2, omega (arith, i.3), i.4)
