-- What a rule does to a session where it is tried.
use Rattle.std.specs.Prelude.{◌≡◌, ℕ, suc, ◌+◌, List, take, Some, None, Option, Ok, Err, Result}
use Rattle.std.specs.List.{last_or}
use Rattle.base.specs.declared.fault.Fault.{Fault}
use Rattle.base.specs.Questions.{Questions, Refuses, Granted}
use Rattle.tree.specs.declared.role.Sort.TheVariants.{IsExpression}
use Rattle.tree.specs.Tree.{Tree, own_of, at_place}
use Rattle.tree.specs.Lawful.{sort_of}
use Rattle.tree.specs.Heap.{Held, grown, relinked}
use Rattle.meaning.specs.Expression.{Expression}
use Rattle.rules.specs.Deciding.{decided}
use Rattle.deciding.specs.declared.plan.Decision.{Decision}
use Rattle.deciding.specs.declared.plan.Decision.TheVariants.{Kept as KeptNode}
use Rattle.deciding.specs.Plans.{DecisionOf, WritesFor}
use Rattle.store.specs.declared.stores.Stores.{Stores}
use Rattle.store.specs.declared.stores.Counts.{Counts}
use Rattle.store.specs.Held.{Refilled}
use Rattle.store.specs.Stores.{held_of}
use Rattle.host.specs.Answers.{Answers}
use Rattle.model.specs.declared.answer.Outcome.{Outcome}
use Rattle.model.specs.declared.answer.Outcome.TheVariants.{Kept, Rewritten}
use Rattle.model.specs.Model.{Model, At}
use Rattle.model.specs.Tries.{Rule, Try, Tries, decision, space_questions}
use Rattle.session.specs.declared.step.Step.{Step}
use Rattle.session.specs.declared.session.Session.{Session}
use Rattle.session.specs.declared.session.rewrites.Rule.{Rule as RuleTried}
use Rattle.session.specs.declared.session.rewrites.Rule.TheVariants.{Chain, Method, Property}
use Rattle.session.specs.Following.{Is, given_of, Follows}

-- The caller's view: the rule is tried, by a host with these answers.
abbrev pub TriesRule : Answers → Rule → (old new : Session) → Result Outcome Fault → Type 0
TriesRule a rule old new result = Follows (λ m n. (ts : List Try) × Tries (given_of old) a rule m result n ts) old new

-- The rule by its name.
abbrev pub rule_of : RuleTried → Rule
rule_of Chain = Rule.chain
rule_of Method = Rule.method
rule_of Property = Rule.property

-- What the rule decides of the cursor's node: as the rules' definitions do of an expression. All else is kept.
pub record Decides (a : Answers) (rule : Rule) (s : Session) (d : Decision) : Type 0 where
  pub of_expression : (m : Model) → Is s m → (x : Expression) → At m x → DecisionOf (held_of s.stores) (decided a (decision (given_of s) a rule m x)) d
  pub writes : (m : Model) → Is s m → (x : Expression) → At m x → WritesFor x d
  pub of_other : (m : Model) → Is s m → (t : Tree) → at_place m.whole m.place ≡ Some t → (sort_of (own_of t) ≡ IsExpression → ⊥) → d ≡ KeptNode

-- The last step of a path: the cursor's parent, and which of its children the cursor is at.
abbrev pub parent_of : Session → Option Step
parent_of s = last_or None (take s.depth s.path)

-- The link to the cursor's node goes to another number: its parent's link, or the root's number.
abbrev pub hung : Option Step → Held → ℕ → Held
hung None h n = h
hung (Some s) h n = relinked h s.node s.child n

abbrev pub hung_root : Option Step → ℕ → ℕ → ℕ
hung_root None root n = n
hung_root (Some s) root n = root

-- The stores hold all this now. The rest of the lent memory is as it was.
pub record Holds (old : Stores) (h : Held) (new : Stores) : Type 0 where
  pub nodes : Refilled old.nodes h.nodes new.nodes
  pub entries : Refilled old.entries h.entries new.entries
  pub text : Refilled old.text h.text new.text

-- All records, entries and bytes are as they were, but for the one link to the cursor's node, which goes to the node
-- that took its place. What is new stands behind them. Nothing else is changed but the count.
pub record Appends (old new : Session) : Type 0 where
  pub holds : ∥ ((extra : Held) × Holds old.stores (hung (parent_of old) (grown (held_of old.stores) extra) new.here) new.stores) ∥₁
  pub same_given : given_of new ≡ given_of old
  pub rooted : new.root ≡ hung_root (parent_of old) old.root new.here
  pub counted : new.rewrites ≡ old.rewrites + 1
  pub same_path : new.path ≡ old.path
  pub same_depth : new.depth ≡ old.depth

-- Where the node is kept, or the rewrite is refused, nothing is changed at all.
abbrev pub Appended : (old new : Session) → Result Outcome Fault → Type 0
Appended old new (Ok Kept) = new ≡ old
Appended old new (Ok Rewritten) = Appends old new
Appended old new (Err e) = new ≡ old

-- So many rewrites, one on what the other leaves: each appends behind what is held, and changes one link.
pub data Written : ℕ → Held → Held → Type 0 where
  none : {h : Held} → Written 0 h h
  then : {n : ℕ} {h k : Held} (link : Option Step) (extra : Held) (number : ℕ) → Written n (hung link (grown h extra) number) k → Written (suc n) h k

-- All that was held is as it was but for the links that the rewrites between changed, one each, and what is new stands
-- behind it. The rest of the lent memory is as it was.
pub record Writes (old new : Session) : Type 0 where
  pub count : ℕ
  pub counted : new.rewrites ≡ old.rewrites + count
  pub written : Written count (held_of old.stores) (held_of new.stores)
  pub holds : Holds old.stores (held_of new.stores) new.stores

-- The questions are asked in order.
abbrev pub Asks : Questions → Result (Unit {0}) Fault → Type 0
Asks qs (Ok u) = Granted qs
Asks qs (Err e) = Refuses qs e

-- There is space for so much more, where the cursor is.
abbrev pub AsksForSpace : Session → Counts → Result (Unit {0}) Fault → Type 0
AsksForSpace s need result = (m : Model) → Is s m → Asks (space_questions (given_of s) m s.here need) result
