-- Counting parents in a table, and the lowest wrong node.
use Rattle.std.proofs.Common.{◌≡◌, ◌≢◌, ◌≤◌, MatchOption, eqb, Bool, true, false, not, ◌&&◌, IsTrue, length, ℕ, zero, suc, ◌+◌, ◌<◌, min, List, [], ◌∷◌, get_or, take, replicate, Some, None, Option, sym, refl, ap, ◌∙◌, arith, below_more}
use Rattle.std.specs.List.{slice_get}
use Rattle.tree.specs.Tree.{same}
use Rattle.tree.specs.Laws.{count}
use Rattle.std.proofs.lemmas.Bool.{eqb-false, eqb-true, eq-eqb, ne_eqb}
use Rattle.file.specs.Lawful.{due}
use Rattle.file.specs.Tables.{Tallies, Lowest, is_named, right, Right}

-- Counts that are the same are tallied by the same table.
pub tallied_as : (table : List ℕ) (f g : ℕ → ℕ) → ((y : ℕ) → f y ≡ g y) → Tallies table f → Tallies table g
tallied_as table f g e t = λ y lt. t y lt ∙ ap (λ k. min k 255) (e y)

-- One more item of a list.
pub count_more : (ks : List ℕ) (k c y : ℕ) → slice_get ks k ≡ Some c → count y (take (k + 1) ks) ≡ count y (take k ks) + same y c
count_more [] k c y e = absurd (let z : ◌≡◌ {A = ℕ} 0 1 = cc in omega arith)
count_more (x ∷ ks) zero c y e = let f : x ≡ c = cc in omega (arith, ap (same y) f)
count_more (x ∷ ks) (suc k) c y e =
    let i : suc k + 1 ≡ suc (k + 1) = omega arith in
    omega (arith, ap (λ j. count y (take j (x ∷ ks))) i, count_more ks k c y e)

-- The lowest number of which P does not hold, one number further.
pub lowest_kept : (P : ℕ → Type 0) (n : ℕ) (o : Option ℕ) → Lowest P n o → P n → Lowest P (n + 1) o
lowest_kept P n None low here = below_more P n low here
lowest_kept P n (Some x) low here = (omega (arith, low.0), low.1, low.2)

pub lowest_found : (P : ℕ → Type 0) (n : ℕ) → Lowest P n None → (P n → ⊥) → Lowest P (n + 1) (Some n)
lowest_found P n low not = (omega arith, low, not)

pub lowest_later : (P : ℕ → Type 0) (n x : ℕ) → Lowest P n (Some x) → Lowest P (n + 1) (Some x)
lowest_later P n x low = (omega (arith, low.0), low.1, low.2)

-- A table of zeros has only zeros.
pub zeros : (n y : ℕ) → ◌≡◌ {A = ℕ} (get_or (replicate n 0) y 0) 0
zeros zero y = refl
zeros (suc n) zero = refl
zeros (suc n) (suc y) = zeros n y

-- What a right node has, and back.
not_named : (wrong : Option ℕ) (x : ℕ) → is_named wrong x ≡ false → wrong ≢ Some x
not_named None x f e = let z : ◌≡◌ {A = ℕ} 0 1 = cc in omega arith
not_named (Some w) x f e = let g : w ≡ x = cc in eqb-false w x f g

unnamed : (wrong : Option ℕ) (x : ℕ) → wrong ≢ Some x → is_named wrong x ≡ false
unnamed None x f = refl
unnamed (Some w) x f = ne_eqb w x (λ e. f (ap (λ y. Some y) e))

pub right_parts : (table : List ℕ) (wrong : Option ℕ) (x : ℕ) → Right table wrong x → (wrong ≢ Some x) × (get_or table x 0 ≡ due (length table) x)
right_parts table wrong x r = go (is_named wrong x) refl r
  where
    go : (b : Bool) → is_named wrong x ≡ b → IsTrue (not b && eqb (get_or table x 0) (due (length table) x)) → (wrong ≢ Some x) × (get_or table x 0 ≡ due (length table) x)
    go true e t = absurd (let z : ◌≡◌ {A = ℕ} 0 1 = cc in omega arith)
    go false e t = (not_named wrong x e, eqb-true _ _ t)

pub right_from : (table : List ℕ) (wrong : Option ℕ) (x : ℕ) → wrong ≢ Some x → get_or table x 0 ≡ due (length table) x → Right table wrong x
right_from table wrong x f e = ap (λ b. not b && eqb (get_or table x 0) (due (length table) x)) (unnamed wrong x f) ∙ eq-eqb _ _ e

-- The first of the numbers below n that is not right is the lowest.
pub first_is_lowest : (table : List ℕ) (wrong : Option ℕ) (n : ℕ) (r : Option ℕ)
    → MatchOption r ((k : ℕ) → 0 ≤ k → k < n → Right table wrong k) (λ i. (0 ≤ i) × (i < n) × (right table wrong i ≡ false) × ((k : ℕ) → 0 ≤ k → k < i → Right table wrong k))
    → Lowest (Right table wrong) n r
first_is_lowest table wrong n None all = λ y lt. all y (omega arith) lt
first_is_lowest table wrong n (Some i) w = (w.1, λ y lt. w.3 y (omega arith) lt, λ is. let f : true ≡ false = sym is ∙ w.2 in let z : ◌≡◌ {A = ℕ} 0 1 = cc in omega arith)
