-- The space that is taken: what the rules count of an expression is what its new nodes take.
use Rattle.std.proofs.Common.{◌≡◌, ℕ, ◌+◌, ◌<◌, ◌≤◌, cond, Ok, Result, refl, subst, ap, arith}
use Rattle.std.specs.Prelude.{length}
use Rattle.std.proofs.lemmas.Bool.{le-leb, lt-leb}
use Rattle.base.specs.declared.fault.Fault.{Fault}
use Rattle.store.specs.declared.stores.Stores.{Stores}
use Rattle.store.specs.Held.{held}
use Rattle.store.specs.Stores.{held_of}
use Rattle.tree.specs.Tree.{Own, Tree, Trees, tree, label, labels, Denotes, DenoteAll}
use Rattle.tree.specs.Heap.{Held, look}
use Rattle.tree.proofs.Cuts.{nth_low}
use Rattle.tree.proofs.Growing.{stored}
use Rattle.meaning.specs.Expression.{Expression}
use Rattle.meaning.specs.Trees.{tree_of, element_trees, argument_trees, piece_trees}
use Rattle.rules.specs.Space.{bytes_of, new_nodes, new_nodes_of, new_bytes, new_bytes_of, elements_from, entries_of_call, piece_count, new_entries, space}
use Rattle.building.specs.Growing.{GrowsBy}
use Rattle.building.specs.Builds.{Built}
use Rattle.building.proofs.Grown.{holds_more}

-- ---- what was there takes nothing

pub numbered_below : (h : Held) (l : ℕ) (o : Own) (ts : Trees) → Denotes (look h) (tree l o ts) → l < length h.nodes
numbered_below h l o ts d = let s = stored h l o (labels ts) d.0 in nth_low h.nodes l s.0 s.1

mutual
  unfolding new_nodes

  pub old_nodes : (h : Held) (t : Tree) → Denotes (look h) t → new_nodes (length h.nodes) t ≡ 0
  old_nodes h (tree l o ts) d =
      let low = ap (λ b. cond {A = ℕ} b 1 0) (lt-leb (length h.nodes) l (numbered_below h l o ts d)) in
      omega (arith, low, old_nodes_of h ts d.1)

  pub old_nodes_of : (h : Held) (ts : Trees) → DenoteAll (look h) ts → new_nodes_of (length h.nodes) ts ≡ 0
  old_nodes_of h Trees.none d = refl
  old_nodes_of h (Trees.more t ts) d = omega (arith, old_nodes h t d.0, old_nodes_of h ts d.1)

mutual
  unfolding new_bytes

  pub old_bytes : (h : Held) (t : Tree) → Denotes (look h) t → new_bytes (length h.nodes) t ≡ 0
  old_bytes h (tree l o ts) d =
      let low = ap (λ b. cond b (bytes_of o) 0) (lt-leb (length h.nodes) l (numbered_below h l o ts d)) in
      omega (arith, low, old_bytes_of h ts d.1)

  pub old_bytes_of : (h : Held) (ts : Trees) → DenoteAll (look h) ts → new_bytes_of (length h.nodes) ts ≡ 0
  old_bytes_of h Trees.none d = refl
  old_bytes_of h (Trees.more t ts) d = omega (arith, old_bytes h t d.0, old_bytes_of h ts d.1)

pub old_entries : (h : Held) (x y : Expression) → Denotes (look h) (tree_of y) → new_entries (length h.nodes) x y ≡ 0
unfolding new_entries
old_entries h x (Expression.array l es) d = ap (λ b. cond b (elements_from x es) 0) (lt-leb (length h.nodes) l (numbered_below h l Own.array (element_trees es) d))
old_entries h x (Expression.call l f xs) d =
    ap (λ b. cond b (entries_of_call (length h.nodes) f xs) 0) (lt-leb (length h.nodes) l (numbered_below h l Own.call (Trees.more (tree_of f) (argument_trees xs)) d))
old_entries h x (Expression.template l ps) d = ap (λ b. cond b (piece_count ps) 0) (lt-leb (length h.nodes) l (numbered_below h l Own.template (piece_trees ps) d))
old_entries h x y d = refl

-- ---- a new node takes one, and its texts

pub one_more_node : (next l : ℕ) (o : Own) (ts : Trees) → next ≤ l → new_nodes next (tree l o ts) ≡ 1 + new_nodes_of next ts
unfolding new_nodes
one_more_node next l o ts le = ap (λ b. cond b 1 0 + new_nodes_of next ts) (le-leb next l le)

pub its_bytes : (next l : ℕ) (o : Own) (ts : Trees) → next ≤ l → new_bytes next (tree l o ts) ≡ bytes_of o + new_bytes_of next ts
unfolding new_bytes
its_bytes next l o ts le = ap (λ b. cond b (bytes_of o) 0 + new_bytes_of next ts) (le-leb next l le)

-- ---- of one child, and of two

pub nodes_none : (next : ℕ) → new_nodes_of next Trees.none ≡ 0
unfolding new_nodes
nodes_none next = refl

pub nodes_behind : (next : ℕ) (t : Tree) (ts : Trees) → new_nodes_of next (Trees.more t ts) ≡ new_nodes next t + new_nodes_of next ts
unfolding new_nodes
nodes_behind next t ts = refl

pub bytes_none : (next : ℕ) → new_bytes_of next Trees.none ≡ 0
unfolding new_bytes
bytes_none next = refl

pub bytes_behind : (next : ℕ) (t : Tree) (ts : Trees) → new_bytes_of next (Trees.more t ts) ≡ new_bytes next t + new_bytes_of next ts
unfolding new_bytes
bytes_behind next t ts = refl

-- ---- one new node, on what there is

pub one_new : (h : Held) (o : Own) (ts : Trees) → DenoteAll (look h) ts → new_nodes (length h.nodes) (tree (length h.nodes) o ts) ≡ 1
one_new h o ts d = omega (arith, one_more_node (length h.nodes) (length h.nodes) o ts (omega arith), old_nodes_of h ts d)

pub its_bytes_alone : (h : Held) (o : Own) (ts : Trees) → DenoteAll (look h) ts → new_bytes (length h.nodes) (tree (length h.nodes) o ts) ≡ bytes_of o
its_bytes_alone h o ts d = omega (arith, its_bytes (length h.nodes) (length h.nodes) o ts (omega arith), old_bytes_of h ts d)

-- ---- all together

pub built : {a c : Stores} {m : Held} {r : Result ℕ Fault} (x y : Expression) → GrowsBy a m c → r ≡ Ok (label (tree_of y)) → Denotes (look (held_of c)) (tree_of y)
    → length m.nodes ≡ new_nodes (length (held a.nodes)) (tree_of y)
    → length m.entries ≡ new_entries (length (held a.nodes)) x y
    → length m.text ≡ new_bytes (length (held a.nodes)) (tree_of y)
    → Built a y (space (length (held a.nodes)) x y) c r
built {a} {c} {m} {r} x y g e d i j k = record {
  more = m;
  answered = e;
  grew = g;
  needed = cc (i, j, k);
  denoted = subst (λ h. Denotes (look h) (tree_of y)) (holds_more g) d;
}
