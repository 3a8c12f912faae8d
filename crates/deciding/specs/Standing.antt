-- A part of a payoff stands in the stores.
use Rattle.std.specs.Prelude.{◌≡◌, ℕ, true, List, [], ◌∷◌}
use Rattle.text.specs.Stored.{Stores}
use Rattle.tree.specs.declared.run.Run.{Run}
use Rattle.tree.specs.Tree.{label, Denotes}
use Rattle.tree.specs.Heap.{Held, look, within, entries_at, text_at}
use Rattle.tree.specs.Lawful.{LawfulTree}
use Rattle.meaning.specs.Expression.{Elements, Arguments, Units}
use Rattle.meaning.specs.Parts.{Part, part_tree}
use Rattle.meaning.specs.Payoffs.{Spelled, SpelledQuasi}

-- Each of the part's texts is one of 16-bit code units. ECMA-262, "The String Type".
abbrev pub SpelledPart : Part → Type 0
SpelledPart (Part.expression x) = Spelled x
SpelledPart (Part.hole l) = Unit {0}
SpelledPart (Part.spread l x) = Spelled x
SpelledPart (Part.quasi q) = SpelledQuasi q

-- The number stands for the part: it denotes how the part is stored, which is lawful.
pub record Stands (h : Held) (n : ℕ) (p : Part) : Type 0 where
  pub numbered : label (part_tree p) ≡ n
  pub denoted : Denotes (look h) (part_tree p)
  pub lawful : LawfulTree (part_tree p)
  pub spelled : SpelledPart p

-- And so do numbers for parts, one by one.
abbrev pub AllStand : Held → List ℕ → List Part → Type 0
AllStand h [] [] = Unit {0}
AllStand h [] (p ∷ ps) = ⊥
AllStand h (n ∷ ns) [] = ⊥
AllStand h (n ∷ ns) (p ∷ ps) = Stands h n p × AllStand h ns ps

-- The elements of an array, and the arguments of a call, as the parts that stand in its list.
unfoldable pub element_parts : Elements → List Part
element_parts Elements.no_elements = []
element_parts (Elements.item x xs) = Part.expression x ∷ element_parts xs
element_parts (Elements.hole l xs) = Part.hole l ∷ element_parts xs
element_parts (Elements.spread l x xs) = Part.spread l x ∷ element_parts xs

unfoldable pub argument_parts : Arguments → List Part
argument_parts Arguments.no_arguments = []
argument_parts (Arguments.argument x xs) = Part.expression x ∷ argument_parts xs
argument_parts (Arguments.spread_argument l x xs) = Part.spread l x ∷ argument_parts xs

-- A list of the stores, which holds all of it, is that of these elements, or of these arguments.
abbrev pub ListsElements : Held → Run ℕ → Elements → Type 0
ListsElements h r xs = (within h.entries r.start r.len ≡ true) × AllStand h (entries_at h.entries r) (element_parts xs)

abbrev pub ListsArguments : Held → Run ℕ → Arguments → Type 0
ListsArguments h r xs = (within h.entries r.start r.len ≡ true) × AllStand h (entries_at h.entries r) (argument_parts xs)

-- A text of the stores, which hold all of it, is stored as these units.
abbrev pub Spells : Held → Run ℕ → Units → Type 0
Spells h r u = (within h.text r.start r.len ≡ true) × Stores (text_at h.text r) u
