-- A section as arrays of one length.
use Rattle.std.specs.Prelude.{◌≡◌, ℕ, List, length, Some}
use Rattle.std.specs.List.{slice_get, flat_map}

abbrev pub AllOfLength : ℕ → List (List ℕ) → Type 0
AllOfLength n arrays = (k : ℕ) (array : List ℕ) → slice_get arrays k ≡ Some array → length array ≡ n

-- The bytes of all, one array behind the other.
abbrev pub bytes_of : List (List ℕ) → List ℕ
bytes_of arrays = flat_map (λ array. array) arrays
