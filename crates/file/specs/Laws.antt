-- The laws of files.
use Rattle.std.specs.Prelude.{◌≡◌, ℕ, ◌<◌, List, slice_index}
use Rattle.base.specs.declared.fault.Fault.{Fault}
use Rattle.base.specs.Questions.{Granted, Refuses}
use Rattle.store.specs.declared.stores.Counts.{Counts}
use Rattle.tree.specs.Heap.{Held}
use Rattle.file.specs.Lawful.{LawfulFile, Fits, load_questions}

-- A lawful file that fits is granted every question; one that is granted every question is lawful and fits; then no
-- refusal is possible; and a file holds one thing at most.
abbrev pub LawfulExactlyWhereGranted : Type 0
LawfulExactlyWhereGranted =
    ((file : List ℕ) (h : Held) (rooms : Counts) → LawfulFile file h → Fits file rooms → Granted (load_questions file rooms))
    × ((file : List ℕ) (rooms : Counts) → Granted (load_questions file rooms) → (h : Held) × LawfulFile file h × Fits file rooms)
    × ((file : List ℕ) (rooms : Counts) (e : Fault) → Granted (load_questions file rooms) → Refuses (load_questions file rooms) e → ⊥)
    × ((file : List ℕ) (h k : Held) → LawfulFile file h → LawfulFile file k → h ≡ k)

-- A byte list: each element is below 256.
abbrev pub Bytes : List ℕ → Type 0
Bytes file = (i : ℕ) → slice_index file i < 256

-- Two lawful files that hold the same are the same: no byte of a file is left free.
abbrev pub SameContentsSameFile : Type 0
SameContentsSameFile = (file other : List ℕ) (h : Held) → Bytes file → Bytes other → LawfulFile file h → LawfulFile other h → file ≡ other
