-- The laws of sessions.
use Rattle.std.specs.Prelude.{◌≡◌, ◌≤◌, List, [], ◌∷◌, ◌↔◌}
use Rattle.tree.specs.Tree.{Tree}
use Rattle.meaning.specs.Expression.{Expression}
use Rattle.meaning.specs.Payoffs.{StoredAs}
use Rattle.meaning.specs.World.{World, ValueIn, Result}
use Rattle.meaning.specs.Premises.{Premises}
use Rattle.meaning.specs.Runs.{Runs}
use Rattle.rules.specs.Laws.{AllTrue}
use Rattle.rules.specs.Size.{size}
use Rattle.model.specs.Model.{Given, Model, Sound, Opened}
use Rattle.model.specs.Tries.{Try}
use Rattle.model.specs.Calls.{Call, Answer, MakesAll, all_told, changes}

-- Each answer that was asked for, of whichever host, is true in a world.
abbrev pub EachTrue : World → List Try → Type 0
EachTrue w [] = Unit {0}
EachTrue w (t ∷ ts) = AllTrue w t.host t.asked × EachTrue w ts

-- From every state the runs of two payoffs have the same results and end in the same states.
abbrev pub SameRuns : World → (x y : Expression) → Type 0
SameRuns w x y = (s : w.State) (r : Result (ValueIn w)) (t : w.State) → Runs w x s r t ↔ Runs w y s r t

-- The payoffs that two trees store run alike.
abbrev pub RunAlike : World → Tree → Tree → Type 0
RunAlike w t u = (x y : Expression) → StoredAs t x → StoredAs u y → SameRuns w x y

-- Whatever calls are made of a session, in whatever order and with whatever hosts, refused or not: in every world that
-- keeps the premises, and in which the answers that were asked for are true, nobody who runs the payoff can tell the
-- tree that is left from the one that was opened.
abbrev pub NobodyCanTell : World → Type 0
NobodyCanTell w =
    Premises w → (g : Given) (t : Tree) (l m : Model) (cs : List Call) (rs : List Answer) (ts : List Try)
    → Opened t l → MakesAll g l cs rs m ts → EachTrue w ts → RunAlike w t m.whole

-- And in no matter what world: the session counts each change of the node at the cursor's place, the calls tell of no
-- other number, and it is no more than the calls, members and arguments of the opened payoff.
abbrev pub EachRewriteIsCounted : Type 0
EachRewriteIsCounted =
    (g : Given) (t : Tree) (l m : Model) (cs : List Call) (rs : List Answer) (ts : List Try)
    → Opened t l → MakesAll g l cs rs m ts
    → (m.rewrites ≡ changes ts) × (m.rewrites ≡ all_told rs) × ((x : Expression) → StoredAs t x → m.rewrites ≤ size x)

-- What is left is a payoff's tree, with numbers that are held, none of them used twice.
abbrev pub APayoffIsLeft : Type 0
APayoffIsLeft =
    (g : Given) (t : Tree) (l m : Model) (cs : List Call) (rs : List Answer) (ts : List Try)
    → Opened t l → MakesAll g l cs rs m ts → Sound m
