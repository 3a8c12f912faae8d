-- What is stored at a number that denotes a part gives the structural host's answers of the part.
use Rattle.std.proofs.Common.{◌≡◌, ℕ, false, not, ◌&&◌, List, refl, ap, ap₂, ◌∙◌, sym}
use Rattle.std.specs.List.{list_all}
use Rattle.std.specs.Option.{option_map_or}
use Rattle.tree.specs.Tree.{Own, Tree, Trees, tree, none, more, label, labels, own_of, below, Look, Denotes, DenoteAll}
use Rattle.tree.specs.Heap.{Held, look}
use Rattle.meaning.specs.Parts.{part_tree}
use Rattle.host.specs.declared.value_type.ValueType.TheVariants.{Undetermined}
use Rattle.host.specs.Host.{Says}
use Rattle.host.specs.Structural.{is_literal_or_hole, is_free_of_effects, type_of, is_global, all_literals_or_holes, structural_answers, literal_or_hole_at, free_of_effects_at, structural_effects, structural_type, structural_global}

-- What is read of the own part that is stored at a tree's number is read of the tree's.
own_read : {A : Type 0} (f : Own → A) (none_there : A) (h : Look) (t : Tree) → Denotes h t → option_map_or (λ r. f r.0) (h (label t)) none_there ≡ f (own_of t)
own_read f a h (tree l o ts) d = rw d.0 refl

all_read : (h : Look) (ts : Trees) → DenoteAll h ts → list_all (literal_or_hole_at h) (labels ts) ≡ all_literals_or_holes ts
all_read h none d = refl
all_read h (more t ts) d = ap₂ (λ a b. a && b) (own_read is_literal_or_hole false h t d.0) (all_read h ts d.1)

free_read : (h : Look) (t : Tree) → Denotes h t → free_of_effects_at h (label t) ≡ is_free_of_effects (own_of t) (all_literals_or_holes (below t))
free_read h (tree l o ts) d = rw d.0 (ap (is_free_of_effects o) (all_read h ts d.1))

pub effects_say : (bound : List (List ℕ)) (h : Held) (n : ℕ) → Says (structural_answers bound).effects h n (structural_effects h n)
effects_say bound h n p e d = ap (λ k. structural_effects h k) (sym e) ∙ ap not (free_read (look h) (part_tree p) d)

pub type_says : (bound : List (List ℕ)) (h : Held) (n : ℕ) → Says (structural_answers bound).value_type h n (structural_type h n)
type_says bound h n p e d = ap (λ k. structural_type h k) (sym e) ∙ own_read type_of Undetermined (look h) (part_tree p) d

pub global_says : (bound : List (List ℕ)) (h : Held) (n : ℕ) → Says (structural_answers bound).global h n (structural_global bound h n)
global_says bound h n p e d = ap (λ k. structural_global bound h k) (sym e) ∙ own_read (is_global bound) false (look h) (part_tree p) d
