-- What the rules have to do with the parts of an expression: the nodes at its places, each with what is below it.
use Rattle.std.specs.Prelude.{◌≡◌, ℕ, ◌<◌, List, [], ◌∷◌, Some}
use Rattle.tree.specs.Tree.{Tree, label, at_place}
use Rattle.meaning.specs.Expression.{Expression}
use Rattle.meaning.specs.Trees.{tree_of}
use Rattle.meaning.specs.Parts.{Part, part_tree}
use Rattle.host.specs.Answers.{Answers, Question}
use Rattle.rules.specs.Places.{Role, Settings}
use Rattle.rules.specs.Deciding.{decided, asked}
use Rattle.rules.specs.Property.{property_rule}
use Rattle.rules.specs.Method.{method_rule}
use Rattle.rules.specs.Chain.{chain_rule}

-- A node, with what is below it, stands at a place of an expression. (No origin: a notion of ours.)
abbrev pub StandsIn : Tree → Expression → Type 0
StandsIn t x = (place : List ℕ) × (at_place (tree_of x) place ≡ Some t)

-- The part that a question is about. (No origin: a notion of ours.)
abbrev pub about : Question → Part
about (Question.effects p) = p
about (Question.value_type p) = p
about (Question.global p) = p

-- Each question is about a part of an expression. (No origin: a notion of ours.)
abbrev pub AllAbout : Expression → List Question → Type 0
AllAbout x [] = Unit {0}
AllAbout x (q ∷ qs) = StandsIn (part_tree (about q)) x × AllAbout x qs

-- Whatever a host answers, a rule asks only of parts of its expression.
abbrev pub OnlyPartsAreAskedOf : Type 0
OnlyPartsAreAskedOf =
    (a : Answers) (s : Settings) (next : ℕ) (r : Role) (x : Expression)
    → AllAbout x (asked a (chain_rule s next r x))
    × AllAbout x (asked a (method_rule s next r x))
    × AllAbout x (asked a (property_rule next r x))

-- What has a number below `next` in the second expression stands in the first as well, with the same below it. (No
-- origin: a notion of ours.)
abbrev pub OldIn : ℕ → (old new : Expression) → Type 0
OldIn next x y = (t : Tree) → StandsIn t y → label t < next → StandsIn t x

-- By the answers of any host: what an expression becomes is made of parts of the expression, unchanged, and new nodes.
abbrev pub OldPartsStay : Type 0
OldPartsStay =
    (a : Answers) (s : Settings) (next : ℕ) (r : Role) (x y : Expression)
    → (decided a (chain_rule s next r x) ≡ Some y → OldIn next x y)
    × (decided a (method_rule s next r x) ≡ Some y → OldIn next x y)
    × (decided a (property_rule next r x) ≡ Some y → OldIn next x y)
