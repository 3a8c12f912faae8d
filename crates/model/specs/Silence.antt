-- What holds of the host that knows nothing, with no hypothesis of its answers; and what other hosts allow.
use Rattle.std.specs.Prelude.{◌≡◌, ℕ, true, List, [], ◌∷◌, Some, None, Option, codes}
use Rattle.tree.specs.declared.node.BinaryOperator.TheVariants.{Exponentiation}
use Rattle.tree.specs.declared.node.FirstChild.TheVariants.{Value}
use Rattle.tree.specs.Tree.{Tree}
use Rattle.meaning.specs.Expression.{Expression, Elements, Arguments, Pieces, Quasi, Children}
use Rattle.meaning.specs.World.{World}
use Rattle.meaning.specs.Premises.{Premises}
use Rattle.meaning.specs.Replacing.{Keeps}
use Rattle.meaning.specs.Parts.{Part}
use Rattle.host.specs.Answers.{Answers}
use Rattle.host.specs.Silent.{silent_answers}
use Rattle.host.specs.Structural.{structural_answers}
use Rattle.host.specs.Table.{row_at, table_answers}
use Rattle.host.specs.Laws.{TrueRow}
use Rattle.host.specs.QuietWorld.{quiet}
use Rattle.rules.specs.Places.{Role, Settings}
use Rattle.rules.specs.Deciding.{decided}
use Rattle.rules.specs.Laws.{Fits}
use Rattle.model.specs.Model.{Given, Model, Opened}
use Rattle.model.specs.Tries.{Rule, Try, deciding}
use Rattle.model.specs.Calls.{Call, Answer, MakesAll}
use Rattle.model.specs.Laws.{RunAlike}

-- In a world with the premises, what a rule makes of an expression by the answers of the host that knows nothing has
-- the same runs, and it fits where it stands.
abbrev pub ASilentHostNeedsNoWord : World → Type 0
ASilentHostNeedsNoWord w =
    Premises w → (rule : Rule) (s : Settings) (next : ℕ) (r : Role) (x y : Expression)
    → decided silent_answers (deciding rule s next r x) ≡ Some y → Keeps w x y × Fits r x y

-- If a call takes a host, it takes the one that knows nothing.
abbrev pub Silent : Call → Type 0
Silent (Call.enter k) = Unit {0}
Silent Call.leave = Unit {0}
Silent (Call.rewrite k a) = a ≡ silent_answers
Silent (Call.sweep a) = a ≡ silent_answers

abbrev pub AllSilent : List Call → Type 0
AllSilent [] = Unit {0}
AllSilent (c ∷ cs) = Silent c × AllSilent cs

-- Whatever such calls are made of a session, nobody who runs the payoff can tell the tree that is left from the one
-- that was opened, in every world that keeps the premises.
abbrev pub NobodyCanTellSilentCalls : World → Type 0
NobodyCanTellSilentCalls w =
    Premises w → (g : Given) (t : Tree) (l m : Model) (cs : List Call) (rs : List Answer) (ts : List Try)
    → Opened t l → MakesAll g l cs rs m ts → AllSilent cs → RunAlike w t m.whole

-- ---- what is kept for want of an answer, and what is made with one

-- Templates and `**` are supported, the place is an ordinary one, and 20 is the first free number.
abbrev pub by_rule : Answers → Rule → Expression → Option Expression
by_rule a rule x = decided a (deciding rule (record { templates = true; power = true }) 20 Role.ordinary x)

abbrev pub NoRuleRewrites : Answers → Expression → Type 0
NoRuleRewrites a x = (rule : Rule) → by_rule a rule x ≡ None

-- p, q and n are opaque, n with a child. The structural host takes no names to be bound.
abbrev pub p : Expression
p = Expression.opaque 5 Value 0 Children.no_children

abbrev pub q : Expression
q = Expression.opaque 6 Value 1 Children.no_children

abbrev pub n : Expression
n = Expression.opaque 0 Value 2 (Children.child (Expression.null 4) Children.no_children)

abbrev pub structural : Answers
structural = structural_answers []

-- The numbers 0 to 3, by their bits.
abbrev pub zero_node : Expression
zero_node = Expression.number 1 0

abbrev pub one_node : Expression
one_node = Expression.number 7 0x3FF0000000000000

abbrev pub two_node : Expression
two_node = Expression.number 8 0x4000000000000000

abbrev pub three_node : Expression
three_node = Expression.number 9 0x4008000000000000

-- name.method(..), [x], and [x][0].
abbrev pub arguments : List Expression → Arguments
arguments [] = Arguments.no_arguments
arguments (x ∷ xs) = Arguments.argument x (arguments xs)

abbrev pub called : Expression → (method : List ℕ) → List Expression → Expression
called o method xs = Expression.call 11 (Expression.static_member 12 o method) (arguments xs)

abbrev pub one_element : ℕ → Expression → Expression
one_element l x = Expression.array l (Elements.item x Elements.no_elements)

abbrev pub first_of : Expression → Expression
first_of x = Expression.computed_member 3 (one_element 2 x) zero_node

-- Math.pow(2, 3), Array.of(1), "".concat(p, q) and "".concat(p), which is `${p}`.
abbrev pub a_power : Expression
a_power = called (Expression.name 10 (codes "Math")) (codes "pow") (two_node ∷ three_node ∷ [])

abbrev pub an_array_of : Expression
an_array_of = called (Expression.name 10 (codes "Array")) (codes "of") (one_node ∷ [])

abbrev pub a_text_of_two : Expression
a_text_of_two = called (Expression.string 10 []) (codes "concat") (p ∷ q ∷ [])

abbrev pub a_text_of_one : Expression
a_text_of_one = called (Expression.string 10 []) (codes "concat") (p ∷ [])

abbrev pub a_template : Expression
a_template = Expression.template 22 (Pieces.piece (Quasi.quasi 20 [] []) p (Pieces.last (Quasi.quasi 21 [] [])))

-- A row for each node of [n][0], but for n's child, of which nothing is known: n, 0 and the array have no effects; the
-- same, but the array may have some; and nothing is known of any.
abbrev pub rows : List ℕ
rows = 0x00 ∷ 0x03 ∷ 0x07 ∷ 0x80 ∷ []

abbrev pub rows_of_n_alone : List ℕ
rows_of_n_alone = 0x00 ∷ 0x03 ∷ 0x80 ∷ 0x80 ∷ []

abbrev pub silent_rows : List ℕ
silent_rows = 0x80 ∷ 0x80 ∷ 0x80 ∷ 0x80 ∷ []

pub record WhatHostsAllow : Type 0 where
  -- With the silent host Math.pow(2, 3), Array.of(1), [1][0] and "".concat(p, q) are kept.
  pub power_kept : NoRuleRewrites silent_answers a_power
  pub array_of_kept : NoRuleRewrites silent_answers an_array_of
  pub first_kept : NoRuleRewrites silent_answers (first_of one_node)
  pub text_kept : NoRuleRewrites silent_answers a_text_of_two
  -- It takes no word for this one.
  pub text : by_rule silent_answers Rule.method a_text_of_one ≡ Some a_template
  -- With the structural one the first three are 2 ** 3, [1] and 1.
  pub power : by_rule structural Rule.method a_power ≡ Some (Expression.binary 20 Exponentiation two_node three_node)
  pub array_of : by_rule structural Rule.method an_array_of ≡ Some (one_element 20 one_node)
  pub first : by_rule structural Rule.property (first_of one_node) ≡ Some one_node
  -- The structural host knows nothing of n, and keeps [n][0]. With a table by which the array has no effects it is n.
  pub first_of_n_kept : NoRuleRewrites structural (first_of n)
  pub first_of_n : by_rule (table_answers rows) Rule.property (first_of n) ≡ Some n
  -- These rows are true in the quiet world.
  pub true_of_n : TrueRow quiet (row_at rows 0) (Part.expression n)
  pub true_of_zero : TrueRow quiet (row_at rows 1) (Part.expression zero_node)
  pub true_of_array : TrueRow quiet (row_at rows 2) (Part.expression (one_element 2 n))
  pub true_of_member : TrueRow quiet (row_at rows 3) (Part.expression (first_of n))
  -- It is kept where nothing is known of the array, whatever is known of n.
  pub array_unknown : NoRuleRewrites (table_answers rows_of_n_alone) (first_of n)
  pub all_unknown : NoRuleRewrites (table_answers silent_rows) (first_of n)
