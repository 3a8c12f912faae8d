-- Options, added up.
use Rattle.std.specs.Prelude.{ℕ, ◌/◌, ◌%◌, Bool, cond, List, [], ◌∷◌, codes, bytes_eq, ◌==◌}
use Rattle.deciding.specs.declared.place.Support.{Support}

-- The options have this one, which is a power of two.
abbrev pub has : (options option : ℕ) → Bool
has options option = options / option % 2 == 1

-- What the payoff's engine knows.
abbrev pub support_by : ℕ → Support
support_by options = record { templates = has options 1; power = has options 2 }

-- The names that are bound, each in its stored form; where one is not, the empty name.
abbrev pub bound_by : ℕ → List (List ℕ)
bound_by options =
    cond (has options 4) (codes "undefined") [] ∷ cond (has options 8) (codes "Math") [] ∷ cond (has options 16) (codes "Array") [] ∷ []

-- The option that says that a name is bound, or 0.
abbrev pub option_of : List ℕ → ℕ
option_of name =
    cond (bytes_eq name (codes "undefined")) 4 (cond (bytes_eq name (codes "Math")) 8 (cond (bytes_eq name (codes "Array")) 16 0))
