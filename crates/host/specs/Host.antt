-- What the answer of a host has to do with what is stored.
use Rattle.std.specs.Prelude.{◌≡◌, ℕ}
use Rattle.tree.specs.Tree.{label, Denotes}
use Rattle.tree.specs.Heap.{Held, look}
use Rattle.meaning.specs.Parts.{Part, part_tree}

-- What is said of a number is the answer of each part that the number denotes. (No section of ECMA-262: a notion of
-- ours.)
abbrev pub Says : {A : Type 0} → (Part → A) → Held → ℕ → A → Type 0
Says {A} answer h n said = (p : Part) → label (part_tree p) ≡ n → Denotes (look h) (part_tree p) → said ≡ answer p
