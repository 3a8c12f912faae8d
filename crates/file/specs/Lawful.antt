-- Which files are lawful, from the format alone.
use Rattle.std.specs.Prelude.{◌≡◌, ℕ, suc, ◌-◌, ◌<◌, ◌≤◌, true, cond, List, [], ◌∷◌, ◌++◌, map, length, Some, None, Option, ◌==◌}
use Rattle.std.specs.List.{slice_get}
use Rattle.base.specs.Questions.{Questions, each_from}
use Rattle.store.specs.declared.stores.Counts.{Counts}
use Rattle.tree.specs.declared.node.Node.{Node}
use Rattle.tree.specs.declared.role.Sort.TheVariants.{IsExpression}
use Rattle.tree.specs.Tree.{Own, Look}
use Rattle.tree.specs.Heap.{Held, look, own, children, inside}
use Rattle.tree.specs.Laws.{parents}
use Rattle.tree.specs.Lawful.{LawfulOwn, sort_of, AdmitsRow, role}
use Rattle.file.specs.Format.{record_at, records, record_of}
use Rattle.file.specs.Layout.{Versioned, Sized, Layout, layout, root, node_count, entry_count, text_count}

-- The node's pieces lie within entries and text, and it is lawful on its own.
abbrev pub LawfulNode : (entries text : List ℕ) → Node → Type 0
LawfulNode entries text n = (inside entries text n ≡ true) × LawfulOwn (own text n) (length (children entries n))

-- What is stored at a number is an expression.
abbrev pub ExpressionRow : Option (Own × List ℕ) → Type 0
ExpressionRow None = ⊥
ExpressionRow (Some p) = sort_of p.0 ≡ IsExpression

-- Each child of node x has a lower number, and may stand where it stands.
abbrev pub LinksRow : Look → ℕ → Option (Own × List ℕ) → Type 0
LinksRow h x None = ⊥
LinksRow h x (Some p) = (k c : ℕ) → slice_get p.1 k ≡ Some c → (c < x) × AdmitsRow (role p.0 k) (h c)

-- Of n nodes, all but the last are linked once, and the last never.
abbrev pub due : ℕ → ℕ → ℕ
due n x = cond (suc x == n) 0 1

-- The root is the last node, and an expression.
abbrev pub RootAt : Held → ℕ → Type 0
RootAt h top = (suc top ≡ length h.nodes) × ExpressionRow (look h top)

-- The links of node x are lawful, and so is the number of links to it.
abbrev pub LinkedAt : Held → ℕ → Type 0
LinkedAt h x = LinksRow (look h) x (look h x) × (parents (look h) (length h.nodes) x ≡ due (length h.nodes) x)

-- Nodes, entries and text that make one tree, with the root `top`.
pub record LawfulHeld (h : Held) (top : ℕ) : Type 0 where
  pub nodes_lawful : (x : ℕ) (n : Node) → slice_get h.nodes x ≡ Some n → LawfulNode h.entries h.text n
  pub root_lawful : RootAt h top
  pub links_lawful : (x : ℕ) → x < length h.nodes → LinkedAt h x

-- What a file holds: the nodes of its records, its entries and its text.
pub record Contents (l : Layout) (h : Held) : Type 0 where
  pub recorded : map record_of h.nodes ≡ records l.rows 0 l.count
  pub listed : h.entries ≡ l.entries
  pub texted : h.text ≡ l.text

-- A lawful file, and what it holds.
pub record LawfulFile (file : List ℕ) (h : Held) : Type 0 where
  pub versioned : Versioned file
  pub sized : Sized file
  pub contents : Contents (layout file) h
  pub lawful : LawfulHeld h (root file)

-- The stores have room for what the file holds.
pub record Fits (file : List ℕ) (rooms : Counts) : Type 0 where
  pub nodes_fit : node_count file ≤ rooms.nodes
  pub entries_fit : entry_count file ≤ rooms.entries
  pub text_fits : text_count file ≤ rooms.text

-- What is asked of a file once it is cut. Record x is that of a node which is lawful on its own.
abbrev pub LawfulRecord : Layout → ℕ → Type 0
LawfulRecord l x = (n : Node) × (record_of n ≡ record_at l.rows x) × LawfulNode l.entries l.text n

-- The root of what it holds is lawful, and so are the links of node x.
abbrev pub LawfulRoot : Layout → Type 0
LawfulRoot l = (h : Held) → Contents l h → RootAt h l.top

abbrev pub LawfulLinks : Layout → ℕ → Type 0
LawfulLinks l x = (h : Held) → Contents l h → LinkedAt h x

abbrev pub record_questions : Layout → Questions
record_questions l = each_from 4 (LawfulRecord l) 0 l.count

abbrev pub link_questions : Layout → Questions
link_questions l = ((5, l.count - 1), LawfulRoot l) ∷ each_from 5 (LawfulLinks l) 0 l.count

-- What load asks, in this order.
abbrev pub size_questions : List ℕ → Questions
size_questions file = ((1, 0), Versioned file) ∷ ((2, 0), Sized file) ∷ []

abbrev pub load_questions : List ℕ → Counts → Questions
load_questions file rooms =
    size_questions file ++ (((3, 0), Fits file rooms) ∷ (record_questions (layout file) ++ link_questions (layout file)))
