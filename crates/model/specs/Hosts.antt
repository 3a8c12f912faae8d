-- Hosts that say what is true of a payoff as it was opened, and of all that a session makes of it.
use Rattle.std.specs.Prelude.{◌≡◌, ℕ, List, [], ◌∷◌, take, Some}
use Rattle.tree.specs.Tree.{Tree, label, at_place}
use Rattle.meaning.specs.Parts.{Part, part_tree}
use Rattle.meaning.specs.Payoffs.{Spelled, SpelledQuasi}
use Rattle.meaning.specs.World.{World}
use Rattle.meaning.specs.Premises.{Premises}
use Rattle.host.specs.declared.row.Row.{Row}
use Rattle.host.specs.Answers.{Answers}
use Rattle.host.specs.Silent.{silent_answers}
use Rattle.host.specs.Structural.{structural_answers}
use Rattle.host.specs.Table.{table_answers}
use Rattle.host.specs.Laws.{Complete, HasEntry, TrueRow}
use Rattle.model.specs.Model.{Given, Model, Opened}
use Rattle.model.specs.Tries.{Try}
use Rattle.model.specs.Calls.{Call, Answer, MakesAll}
use Rattle.model.specs.Laws.{EachTrue, RunAlike}

-- Each text of a part is a text, of 16-bit code units.
abbrev pub SpelledPart : Part → Type 0
SpelledPart (Part.expression x) = Spelled x
SpelledPart (Part.hole l) = Unit {0}
SpelledPart (Part.spread l x) = Spelled x
SpelledPart (Part.quasi q) = SpelledQuasi q

-- The part is a node of the tree, with what is below it.
abbrev pub IsPart : Tree → Part → Type 0
IsPart t p = SpelledPart p × (place : List ℕ) × (at_place t place ≡ Some (part_tree p))

-- Of each part of the tree the entry that has its number, if there is one, is true.
abbrev pub EntriesAreTrue : World → Tree → (rows : List ℕ) → (loaded : ℕ) → Type 0
EntriesAreTrue w t rows loaded = (p : Part) → IsPart t p → (r : Row) → HasEntry rows loaded (label (part_tree p)) r → TrueRow w r p

-- A host of which it is enough to look at the tree that was opened, with so many loaded nodes: the silent one; the
-- structural one, by a complete list of bound names; and one that goes by a table with an entry for each loaded node,
-- if the entries are true of that tree.
pub data TrueFrom (w : World) (t : Tree) (loaded : ℕ) : Answers → Type 0 where
  silent : TrueFrom w t loaded silent_answers
  structural : (bound : List (List ℕ)) → Complete w bound → TrueFrom w t loaded (structural_answers bound)
  table : (rows : List ℕ) → EntriesAreTrue w t rows loaded → TrueFrom w t loaded (table_answers (take loaded rows))

-- The host of a call, if it takes one, is such a host.
abbrev pub HostTrueFrom : World → Tree → (loaded : ℕ) → Call → Type 0
HostTrueFrom w t loaded (Call.enter k) = Unit {0}
HostTrueFrom w t loaded Call.leave = Unit {0}
HostTrueFrom w t loaded (Call.rewrite k a) = TrueFrom w t loaded a
HostTrueFrom w t loaded (Call.sweep a) = TrueFrom w t loaded a

-- And each call's host.
abbrev pub HostsTrueFrom : World → Tree → (loaded : ℕ) → List Call → Type 0
HostsTrueFrom w t loaded [] = Unit {0}
HostsTrueFrom w t loaded (c ∷ cs) = HostTrueFrom w t loaded c × HostsTrueFrom w t loaded cs

-- In a world with the premises, whatever calls are made with such hosts, each answer that was asked for is true,
-- although the tree is another one after each rewrite.
abbrev pub HostsStayTrue : World → Type 0
HostsStayTrue w =
    Premises w → (g : Given) (t : Tree) (l m : Model) (cs : List Call) (rs : List Answer) (ts : List Try)
    → Opened t l → HostsTrueFrom w t l.held.nodes cs → MakesAll g l cs rs m ts → EachTrue w ts

-- So nobody who runs the payoff can tell the tree that is left from the one that was opened.
abbrev pub NobodyCanTellWithTrueHosts : World → Type 0
NobodyCanTellWithTrueHosts w =
    Premises w → (g : Given) (t : Tree) (l m : Model) (cs : List Call) (rs : List Answer) (ts : List Try)
    → Opened t l → HostsTrueFrom w t l.held.nodes cs → MakesAll g l cs rs m ts → RunAlike w t m.whole
