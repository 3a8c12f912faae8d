-- A test of the other names is one of their bytes.
use Rattle.std.proofs.Common.{◌≡◌, ℕ, Bool, ◌||◌, List, [], ◌∷◌, map, refl, ap, ◌∙◌, Bor}
use Rattle.std.specs.List.{list_any}
use Rattle.std.specs.Str.{bytes_eq}
use Rattle.host.proofs.structural.is_among.Goals as goal

list_any-map : {X Y : Type 0} (f : X → Y) (test : Y → Bool) (xs : List X) → list_any (λ x. test (f x)) xs ≡ list_any test (map f xs)
list_any-map f test [] = refl
list_any-map f test (x ∷ xs) = ap (λ b. test (f x) || b) (list_any-map f test xs)

pub returns : goal.returns
returns c = c.contains.ensures.value ∙ list_any-map {X = Bor (List ℕ)} (λ x. x.now) (λ x. bytes_eq x c.args.text.now) c.args.others.now
