-- What a rule does where the cursor is.
use Rattle.std.specs.Prelude.{◌≡◌, ℕ, suc, ◌+◌, ◌≤◌, List, [], ◌∷◌, Some, None, Ok, Err, Result}
use Rattle.base.specs.declared.fault.Fault.{Fault}
use Rattle.base.specs.Questions.{Questions, Refuses, Granted}
use Rattle.store.specs.declared.stores.Counts.{Counts}
use Rattle.tree.specs.declared.role.Sort.TheVariants.{IsExpression}
use Rattle.tree.specs.Tree.{Tree, label, own_of, at_place, replace}
use Rattle.tree.specs.Lawful.{sort_of}
use Rattle.meaning.specs.Expression.{Expression}
use Rattle.meaning.specs.Trees.{tree_of}
use Rattle.host.specs.Answers.{Answers, Question}
use Rattle.rules.specs.Places.{Role, Settings}
use Rattle.rules.specs.Deciding.{Deciding, decided, asked}
use Rattle.rules.specs.Chain.{chain_rule}
use Rattle.rules.specs.Method.{method_rule}
use Rattle.rules.specs.Property.{property_rule}
use Rattle.rules.specs.Space.{space}
use Rattle.model.specs.declared.answer.Outcome.{Outcome}
use Rattle.model.specs.declared.answer.Outcome.TheVariants.{Kept, Rewritten}
use Rattle.model.specs.Places.{role_at}
use Rattle.model.specs.Model.{Given, Model, At}

pub data Rule : Type 0 where
  chain method property : Rule

abbrev pub deciding : Rule → Settings → ℕ → Role → Expression → Deciding
deciding Rule.chain s next r x = chain_rule s next r x
deciding Rule.method s next r x = method_rule s next r x
deciding Rule.property s next r x = property_rule next r x

-- What one try of a rule was: by which host, what it was asked, and the number of the node at the cursor's place before
-- and after it.
pub record Try : Type 0 where
  pub host : Answers
  pub asked : List Question
  pub before : ℕ
  pub after : ℕ

-- How much a payoff's stores may hold, however much room they have.
abbrev pub limits : Counts
limits = record { nodes = 4096; entries = 16384; text = 65536 }

abbrev pub HasSpace : (held need room limit : ℕ) → Type 0
HasSpace held need room limit = (held + need ≤ room) × (held + need ≤ limit)

-- There is space for the new nodes, for their lists, and for their texts.
abbrev pub space_questions : Given → Model → (node : ℕ) → (need : Counts) → Questions
space_questions g m node need =
    ((9, node), HasSpace m.held.nodes need.nodes g.rooms.nodes limits.nodes)
    ∷ ((10, node), HasSpace m.held.entries need.entries g.rooms.entries limits.entries)
    ∷ ((11, node), HasSpace m.held.text need.text g.rooms.text limits.text)
    ∷ []

-- The cursor's node becomes another.
abbrev pub rewritten : Model → Expression → Counts → Model
rewritten m y need = record {
  whole = replace m.whole m.place (tree_of y);
  place = m.place;
  rewrites = suc m.rewrites;
  held = record { nodes = m.held.nodes + need.nodes; entries = m.held.entries + need.entries; text = m.held.text + need.text };
}

module _ (g : Given) (a : Answers) (rule : Rule) where
  -- How the rule decides where the cursor is, by what place it is; new nodes are numbered behind those that are held.
  abbrev pub decision : Model → Expression → Deciding
  decision m x = deciding rule g.supported m.held.nodes (role_at m.whole m.place) x

  -- The questions that would be asked of an expression there, and what that space it needs as another one.
  abbrev pub tried : Model → (x : Expression) → (after : ℕ) → Try
  tried m x after = record { host = a; asked = asked a (decision m x); before = label (tree_of x); after = after }

  abbrev pub need : Model → (x y : Expression) → Counts
  need m x y = space m.held.nodes x y

  -- The rule is tried: it keeps the node, or rewrites it; or a rewrite is refused for want of space, and nothing is
  -- changed.
  pub data Tries (m : Model) : Result Outcome Fault → Model → List Try → Type 0 where
    at_no_expression : (s : Tree) → at_place m.whole m.place ≡ Some s → (sort_of (own_of s) ≡ IsExpression → ⊥)
        → Tries m (Ok Kept) m []
    keeps : (x : Expression) → At m x → decided a (decision m x) ≡ None
        → Tries m (Ok Kept) m (tried m x (label (tree_of x)) ∷ [])
    rewrites : (x y : Expression) → At m x → decided a (decision m x) ≡ Some y
        → Granted (space_questions g m (label (tree_of x)) (need m x y))
        → Tries m (Ok Rewritten) (rewritten m y (need m x y)) (tried m x (label (tree_of y)) ∷ [])
    refuses : (x y : Expression) (e : Fault) → At m x → decided a (decision m x) ≡ Some y
        → Refuses (space_questions g m (label (tree_of x)) (need m x y)) e
        → Tries m (Err e) m (tried m x (label (tree_of x)) ∷ [])
