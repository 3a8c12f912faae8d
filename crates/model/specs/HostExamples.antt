-- A session with a table of its loaded nodes, by which a payoff is rewritten that the silent host keeps.
use Rattle.std.specs.Prelude.{◌≡◌, ℕ, true, List, [], ◌∷◌, take, Ok}
use Rattle.meaning.specs.Expression.{Expression}
use Rattle.meaning.specs.Trees.{tree_of}
use Rattle.meaning.specs.Laws.{one_bits}
use Rattle.meaning.specs.Premises.{Premises}
use Rattle.host.specs.Answers.{Answers}
use Rattle.host.specs.Silent.{silent_answers}
use Rattle.host.specs.Table.{table_answers}
use Rattle.host.specs.QuietWorld.{quiet}
use Rattle.host.specs.Laws.{math_and_text, a_text}
use Rattle.model.specs.declared.answer.Outcome.TheVariants.{Kept, Rewritten}
use Rattle.model.specs.Model.{Given, Model, Opened}
use Rattle.model.specs.Tries.{Rule, Try, limits}
use Rattle.model.specs.Calls.{Call, Answer, MakesAll}
use Rattle.model.specs.Hosts.{HostsTrueFrom}

-- [Math, "a"][1]
abbrev pub second_read : Expression
second_read = Expression.computed_member 4 math_and_text (Expression.number 3 one_bits)

-- A row for each node: Math is a global name and an object, "a" is a text, the array is an object, 1 is a number, and
-- none of them has effects. Of the whole nothing is said.
abbrev pub five_rows : List ℕ
five_rows = 0x47 ∷ 0x05 ∷ 0x07 ∷ 0x03 ∷ 0x80 ∷ []

abbrev pub by_table : Answers
by_table = table_answers (take 5 five_rows)

-- The session when it is opened.
abbrev pub all_given : Given
all_given = record { supported = record { templates = true; power = true }; rooms = limits }

abbrev pub at_first : Model
at_first = record { whole = tree_of second_read; place = []; rewrites = 0; held = record { nodes = 5; entries = 2; text = 5 } }

-- The rule property is tried with the silent host, and then with the table.
abbrev pub two_calls : List Call
two_calls = Call.rewrite Rule.property silent_answers ∷ Call.rewrite Rule.property by_table ∷ []

abbrev pub two_answers : List Answer
two_answers = Answer.tries (Ok Kept) ∷ Answer.tries (Ok Rewritten) ∷ []

-- The hypotheses of the laws can be met, and more is said then than by silence.
pub record TrueHostsCanBeHad : Type 0 where
  pub premises : Premises quiet
  pub opened : Opened (tree_of second_read) at_first
  pub true_hosts : HostsTrueFrom quiet (tree_of second_read) 5 two_calls
  -- The first call keeps the payoff, and the second leaves "a".
  pub makes : (m : Model) × (ts : List Try) × MakesAll all_given at_first two_calls two_answers m ts × (m.whole ≡ tree_of a_text)
