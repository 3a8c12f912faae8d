-- What comes of a whole session.
use Rattle.std.specs.Prelude.{◌≡◌, ℕ, ◌≤◌, List, ◌++◌, map, take, drop, length}
use Rattle.tree.specs.Tree.{Tree, label, Denotes}
use Rattle.tree.specs.Heap.{look}
use Rattle.tree.specs.Lawful.{Payoff}
use Rattle.store.specs.Stores.{held_of, rooms_of}
use Rattle.file.specs.declared.loaded.Loaded.{Loaded}
use Rattle.file.specs.Calls.{loaded_stores, loaded_root}
use Rattle.file.specs.Payoff.{DenotesPayoff}
use Rattle.meaning.specs.Expression.{Expression}
use Rattle.meaning.specs.Payoffs.{StoredAs}
use Rattle.meaning.specs.World.{World}
use Rattle.meaning.specs.Premises.{Premises}
use Rattle.host.specs.Answers.{Answers}
use Rattle.rules.specs.Size.{size}
use Rattle.deciding.specs.declared.place.Support.{Support}
use Rattle.deciding.specs.Plans.{settings_of}
use Rattle.model.specs.Model.{Given, Model, Opened}
use Rattle.model.specs.Tries.{Try}
use Rattle.model.specs.Calls.{Call, Answer, MakesAll, all_told, changes}
use Rattle.model.specs.Laws.{EachTrue, RunAlike}
use Rattle.session.specs.declared.call.Call.{Call as CallValue}
use Rattle.session.specs.declared.call.Answer.{Answer as AnswerValue}
use Rattle.session.specs.declared.session.ends.Ended.{Ended}
use Rattle.session.specs.Calling.{call_of, answer_of}
use Rattle.session.specs.Trying.{Holds, Written}

-- What is supported, and how much room the stores have.
abbrev pub given_by : Loaded → Support → Given
given_by d support = record { supported = settings_of support; rooms = rooms_of (loaded_stores d) }

-- A session was opened on a payoff's tree, these calls were made, and answered so, and it was ended. The root that is
-- given back denotes the tree that is left, and it is a payoff's.
pub record Shortened (w : World) (g : Given) (t : Tree) (cs : List Call) (rs : List Answer) (e : Ended) : Type 0 where
  pub left : Tree
  pub rooted : label left ≡ e.root
  pub denoted : Denotes (look (held_of e.stores)) left
  pub payoff : Payoff left
  -- What was tried meanwhile, by which hosts, and what these were asked.
  pub tries : List Try
  pub made : (l : Model) × (m : Model) × Opened t l × MakesAll g l cs rs m tries × (m.whole ≡ left) × (m.held ≡ e.counts)
  -- In a world with the premises, if the answers that were asked for are true there, nobody who runs the payoff can
  -- tell what is left from what was opened.
  pub nobody_can_tell : Premises w → EachTrue w tries → RunAlike w t left
  -- Each rewrite is counted, which is each change of the node at the cursor's place; the calls tell of no others; and
  -- there are no more than the opened payoff had calls, members and arguments.
  pub counted : e.rewrites ≡ changes tries
  pub told : e.rewrites ≡ all_told rs
  pub bounded : (x : Expression) → StoredAs t x → e.rewrites ≤ size x

-- The stores are given back with all that was loaded in them, as it was but for the links that these rewrites changed,
-- one each, and with what is new behind it. The rest of the lent memory is as it was.
pub record GivesBack (d : Loaded) (e : Ended) : Type 0 where
  pub written : Written e.rewrites (held_of (loaded_stores d)) (held_of e.stores)
  pub holds : Holds (loaded_stores d) (held_of e.stores) e.stores
  pub new_text : List ℕ
  pub text_kept : (held_of e.stores).text ≡ (held_of (loaded_stores d)).text ++ new_text
  pub same_rooms : rooms_of e.stores ≡ rooms_of (loaded_stores d)

-- So it is with the first calls, as many as there is room for answers. The rest of the answers' memory is as it was.
pub record RunsCalls {H : Type 0} (w : World) (a : H → Answers) (d : Loaded) (support : Support) (calls : List (CallValue H)) (old new : List AnswerValue) (e : Ended) : Type 0 where
  pub shortened : (t : Tree) → DenotesPayoff (held_of (loaded_stores d)) (loaded_root d) t
      → Shortened w (given_by d support) t (map (call_of a) (take (length old) calls)) (map answer_of (take (length calls) new)) e
  pub given_back : ∥ GivesBack d e ∥₁
  pub others_kept : drop (length calls) new ≡ drop (length calls) old
