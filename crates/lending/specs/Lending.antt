-- A payoff that is shortened in memory that a caller lends.
use Rattle.std.specs.Prelude.{◌≡◌, ℕ, ◌*◌, ◌/◌, ◌≤◌, List, map, length, take, drop, min, ◌++◌, Ok, Err, Result}
use Rattle.base.specs.declared.fault.Fault.{Fault}
use Rattle.base.specs.Questions.{Refuses}
use Rattle.tree.specs.declared.node.Node.{Node}
use Rattle.tree.specs.Tree.{Tree, label, Denotes}
use Rattle.tree.specs.Heap.{Held, look}
use Rattle.tree.specs.Lawful.{Payoff}
use Rattle.store.specs.declared.stores.Counts.{Counts}
use Rattle.store.specs.Stores.{held_of, rooms_of}
use Rattle.meaning.specs.Expression.{Expression}
use Rattle.meaning.specs.Payoffs.{StoredAs}
use Rattle.meaning.specs.Premises.{Premises}
use Rattle.host.specs.Answers.{Answers}
use Rattle.host.specs.Structural.{structural_answers}
use Rattle.host.specs.Table.{table_answers}
use Rattle.rules.specs.Size.{size}
use Rattle.deciding.specs.declared.place.Support.{Support}
use Rattle.deciding.specs.Plans.{settings_of}
use Rattle.model.specs.declared.answer.Swept.{Swept}
use Rattle.model.specs.declared.answer.SweepRefused.{SweepRefused}
use Rattle.model.specs.Model.{Given, Model, Opened}
use Rattle.model.specs.Tries.{Try}
use Rattle.model.specs.Sweeps.{Sweeps}
use Rattle.model.specs.Calls.{changes}
use Rattle.model.specs.Laws.{EachTrue, RunAlike}
use Rattle.file.specs.Format.{record_of, records}
use Rattle.file.specs.Layout.{root}
use Rattle.file.specs.Lawful.{LawfulFile, Fits, load_questions}
use Rattle.file.specs.declared.loaded.Loaded.{Loaded}
use Rattle.file.specs.Calls.{loaded_stores, loaded_root}
use Rattle.file.specs.Payoff.{DenotesPayoff}
use Rattle.session.specs.declared.session.ends.Ended.{Ended}
use Rattle.session.specs.Models.{counts}
use Rattle.session.specs.Trying.{Written}
use Rattle.lending.specs.declared.known.Known.{Known}
use Rattle.lending.specs.declared.known.Known.TheVariants.{Bound, Rows}
use Rattle.lending.specs.declared.shortening.Shortened.{Shortened}
use Rattle.lending.specs.declared.checking.Checked.{Checked}
use Rattle.lending.specs.NumberedWorld.{NumberedWorld, world_of}

-- ---- the memory

-- What is lent: bytes for the records of nodes, 20 to each, list entries and text.
pub record Lent : Type 0 where
  pub records : List ℕ
  pub entries : List ℕ
  pub text : List ℕ

abbrev pub lent : (records entries text : List ℕ) → Lent
lent r e t = record { records = r; entries = e; text = t }

-- How much of it is used, where there may be so much at most.
abbrev pub rooms_up_to : Counts → Lent → Counts
rooms_up_to most m =
    record { nodes = min (length m.records / 20) most.nodes; entries = min (length m.entries) most.entries; text = min (length m.text) most.text }

abbrev pub counts_up_to : (nodes entries text : ℕ) → Counts
counts_up_to n e t = record { nodes = n; entries = e; text = t }

-- No more than the limits of a payoff.
abbrev pub limits : Counts
limits = counts_up_to 4096 16384 65536

-- At the front of some bytes stand the records of the nodes, as a file has them. The rest is as it was.
abbrev pub Recorded : (nodes : List Node) (old new : List ℕ) → Type 0
Recorded nodes old new =
    (records (take (20 * length nodes) new) 0 (length nodes) ≡ map record_of nodes) × (drop (20 * length nodes) new ≡ drop (20 * length nodes) old)

-- The memory has all this at its front, and the rest of it is as it was.
pub record Has (old : Lent) (h : Held) (new : Lent) : Type 0 where
  pub recorded : Recorded h.nodes old.records new.records
  pub listed : new.entries ≡ h.entries ++ drop (length h.entries) old.entries
  pub texted : new.text ≡ h.text ++ drop (length h.text) old.text

-- There is room for it.
abbrev pub RoomFor : Held → Lent → Type 0
RoomFor h m = (20 * length h.nodes ≤ length m.records) × (length h.entries ≤ length m.entries) × (length h.text ≤ length m.text)

-- ---- what is known

-- The answers of the host that is made of it, for a payoff of which so many nodes were loaded.
abbrev pub answers_by : Known → (loaded : ℕ) → Answers
answers_by (Bound names) loaded = structural_answers (map (λ name. name.now) names.now)
answers_by (Rows rows) loaded = table_answers (take loaded rows.now)

-- ---- the sweep

abbrev pub rewrites_of : Result Swept SweepRefused → ℕ
rewrites_of (Ok s) = s.rewrites
rewrites_of (Err e) = e.rewrites

-- A session was opened on a payoff's tree, one sweep was made by a host with these answers, and the session was ended: the
-- stores hold this, in which the root denotes the tree that is left.
pub record Left (a : Answers) (g : Given) (t : Tree) (h : Held) (s : Shortened) : Type 0 where
  pub left : Tree
  pub rooted : label left ≡ s.root
  pub denoted : Denotes (look h) left
  pub payoff : Payoff left
  pub counted : s.counts ≡ counts h
  -- What was tried meanwhile, and what the host was asked.
  pub tries : List Try
  pub swept : (l : Model) × (m : Model) × Opened t l × Sweeps g a l s.swept m tries × (m.whole ≡ left) × (m.held ≡ s.counts)
  -- In a world with the premises, if the answers that were asked for are true there, nobody who runs the payoff can tell
  -- what is left from what was opened.
  pub nobody_can_tell : (n : NumberedWorld) → Premises (world_of n) → EachTrue (world_of n) tries → RunAlike (world_of n) t left
  -- Each rewrite is counted, and there are no more than the opened payoff had calls, members and arguments.
  pub all_counted : rewrites_of s.swept ≡ changes tries
  pub bounded : (x : Expression) → StoredAs t x → rewrites_of s.swept ≤ size x

abbrev pub given_in : Counts → Support → Given
given_in rooms support = record { supported = settings_of support; rooms = rooms }

abbrev pub loaded_nodes : Loaded → ℕ
loaded_nodes d = length (held_of (loaded_stores d)).nodes

-- So it is with what was loaded. There is as much room as there was, and all that was loaded is held still, but for the links
-- that the rewrites changed, one each.
pub record SweepsLoaded (a : Answers) (d : Loaded) (support : Support) (e : Ended) (r : Result Swept SweepRefused) : Type 0 where
  pub rooms_same : rooms_of e.stores ≡ rooms_of (loaded_stores d)
  pub written : ∥ Written (rewrites_of r) (held_of (loaded_stores d)) (held_of e.stores) ∥₁
  pub left : (t : Tree) → DenotesPayoff (held_of (loaded_stores d)) (loaded_root d) t
      → Left a (given_in (rooms_of (loaded_stores d)) support) t (held_of e.stores) (record { root = e.root; counts = e.counts; swept = r })

-- So it is with what is loaded of a file, in stores with so much room: there is as much still. Or the first question that is
-- answered no is named.
abbrev pub SweepsFile : (rooms : Counts) → List ℕ → (ℕ → Answers) → Support → Result (Ended × Result Swept SweepRefused) Fault → Type 0
SweepsFile rooms file answers support (Ok p) =
    (loaded : Held) × LawfulFile file loaded × Fits file rooms × (rooms_of p.0.stores ≡ rooms)
    × ∥ Written (rewrites_of p.1) loaded (held_of p.0.stores) ∥₁
    × (t : Tree) × DenotesPayoff loaded (root file) t
    × Left (answers (length loaded.nodes)) (given_in rooms support) t (held_of p.0.stores) (record { root = p.0.root; counts = p.0.counts; swept = p.1 })
SweepsFile rooms file answers support (Err e) = Refuses (load_questions file rooms) e

-- ---- the whole

-- The file is lawful and fits, its tree was shortened by a host with these answers, where so many nodes were loaded, and what is
-- left stands in the memory. Or the first question that is answered no is named, and the memory is as it was.
abbrev pub ShortensIn : (rooms : Counts) → List ℕ → (ℕ → Answers) → Support → (old : Lent) → Result Shortened Fault → (new : Lent) → Type 0
ShortensIn rooms file answers support old (Ok s) new =
    (loaded : Held) × (left : Held) × LawfulFile file loaded × Fits file rooms × Has old left new
    × ∥ Written (rewrites_of s.swept) loaded left ∥₁
    × (t : Tree) × DenotesPayoff loaded (root file) t × Left (answers (length loaded.nodes)) (given_in rooms support) t left s
ShortensIn rooms file answers support old (Err e) new = Refuses (load_questions file rooms) e × (new ≡ old)

-- In as much of the memory as a payoff may need.
abbrev pub Shortens : List ℕ → (ℕ → Answers) → Support → (old : Lent) → Result Shortened Fault → (new : Lent) → Type 0
Shortens file answers support old = ShortensIn (rooms_up_to limits old) file answers support old

-- ---- a file alone

-- The file is lawful, and how much it holds; or the first question that is answered no, where there is as much room as a payoff
-- may need.
abbrev pub ChecksIn : (rooms : Counts) → List ℕ → Result Checked Fault → Type 0
ChecksIn rooms file (Ok c) = (h : Held) × LawfulFile file h × (c.root ≡ root file) × (c.counts ≡ counts h)
ChecksIn rooms file (Err e) = Refuses (load_questions file rooms) e

abbrev pub Checks : List ℕ → Result Checked Fault → Type 0
Checks = ChecksIn limits
