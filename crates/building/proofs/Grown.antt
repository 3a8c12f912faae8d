-- What stays so in stores that hold more, and what is new in them.
use Rattle.std.proofs.Common.{◌≡◌, ℕ, zero, suc, ◌+◌, ◌≤◌, true, List, [], ◌∷◌, ◌++◌, length, take, drop, Some, refl, sym, subst, ap, ap₂, ◌∙◌, append_assoc, append-nil, arith, length-append, length-drop}
use Rattle.std.proofs.lemmas.Slice.{drop-append-drop}
use Rattle.std.proofs.lemmas.Bool.{leb-true, le-leb}
use Rattle.std.specs.List.{slice_get}
use Rattle.text.specs.Stored.{Stores as StoresText}
use Rattle.store.specs.declared.store.Store.{Store}
use Rattle.store.specs.declared.stores.Stores.{Stores}
use Rattle.store.specs.Held.{lent, held, room, Refilled}
use Rattle.store.specs.Stores.{held_of}
use Rattle.tree.specs.declared.node.Node.{Node}
use Rattle.tree.specs.declared.run.Run.{Run}
use Rattle.tree.specs.Tree.{Own, Tree, Trees, tree, labels, Denotes, DenoteAll}
use Rattle.tree.specs.Heap.{Held, look, read, own, children, inside, within, cut, entries_at, grown}
use Rattle.tree.proofs.Cuts.{cut_more}
use Rattle.tree.proofs.Growing.{grows}
use Rattle.tree.proofs.Records.{read_inside}
use Rattle.meaning.specs.Expression.{Elements, Arguments, Units}
use Rattle.meaning.specs.Parts.{Part, part_tree}
use Rattle.deciding.specs.Standing.{Stands, AllStand, ListsElements, ListsArguments, Spells, element_parts, argument_parts}
use Rattle.building.specs.Growing.{GrowsBy, nothing, one_node, Takes}

-- ---- growing

module _ {X : Type 0} where
  take_rest : (n : ℕ) (xs : List X) → take n xs ++ drop (length (take n xs)) xs ≡ xs
  take_rest zero xs = refl
  take_rest (suc n) [] = refl
  take_rest (suc n) (x ∷ xs) = ap (λ ys. x ∷ ys) (take_rest n xs)

  -- A store that holds nothing more, and one that grows twice.
  refilled_same : (s : Store X) → Refilled s (held s ++ []) s
  refilled_same s = (sym (append-nil (held s)), sym (ap (λ ys. ys ++ drop (length ys) (lent s)) (append-nil (held s)) ∙ take_rest s.len (lent s)))

  refilled_twice : (a b c : Store X) (m n : List X) → Refilled a (held a ++ m) b → Refilled b (held b ++ n) c → Refilled a (held a ++ (m ++ n)) c
  refilled_twice a b c m n f g =
      let all : held b ++ n ≡ held a ++ (m ++ n) = ap (λ ys. ys ++ n) f.0 ∙ append_assoc (held a) m n in
      let behind : drop (length (held b ++ n)) (lent b) ≡ drop (length (held a ++ (m ++ n))) (lent a) =
      ap₂ drop (ap length all) f.1
      ∙ drop-append-drop (length (held a ++ m)) (lent a) (held a ++ m) (length (held a ++ (m ++ n)))
      (omega (arith, length-append (held a) m, length-append (held a) (m ++ n), length-append m n)) refl in
      (g.0 ∙ all, g.1 ∙ ap₂ (λ xs ys. xs ++ ys) all behind)

  -- There is as much room as there was.
  refilled_room : (a b : Store X) (xs : List X) → Refilled a xs b → room a ≤ room b
  refilled_room a b xs f = omega (arith, ap length f.1 ∙ length-append xs (drop (length xs) (lent a)), length-drop (length xs) (lent a))

pub grows_none : (s : Stores) → GrowsBy s nothing s
grows_none s = record { nodes_grow = refilled_same s.nodes; entries_grow = refilled_same s.entries; text_grows = refilled_same s.text }

pub grows_twice : {a b c : Stores} {m n : Held} → GrowsBy a m b → GrowsBy b n c → GrowsBy a (grown m n) c
grows_twice {a} {b} {c} {m} {n} f g = record {
  nodes_grow = refilled_twice a.nodes b.nodes c.nodes m.nodes n.nodes f.nodes_grow g.nodes_grow;
  entries_grow = refilled_twice a.entries b.entries c.entries m.entries n.entries f.entries_grow g.entries_grow;
  text_grows = refilled_twice a.text b.text c.text m.text n.text f.text_grows g.text_grows;
}

-- What they hold then.
pub holds_more : {a b : Stores} {m : Held} → GrowsBy a m b → held_of b ≡ grown (held_of a) m
holds_more {a} {b} {m} g = cc (g.nodes_grow.0, g.entries_grow.0, g.text_grows.0)

-- ---- what stays so

pub stands_more : (h more : Held) {n : ℕ} {p : Part} → Stands h n p → Stands (grown h more) n p
stands_more h more {n} {p} s = record { numbered = s.numbered; denoted = grows h more (part_tree p) s.denoted; lawful = s.lawful; spelled = s.spelled }

pub all_stand_more : (h more : Held) (ns : List ℕ) (ps : List Part) → AllStand h ns ps → AllStand (grown h more) ns ps
all_stand_more h more [] [] s = tt
all_stand_more h more [] (p ∷ ps) s = absurd s
all_stand_more h more (n ∷ ns) [] s = absurd s
all_stand_more h more (n ∷ ns) (p ∷ ps) s = (stands_more h more s.0, all_stand_more h more ns ps s.1)

module _ {X : Type 0} (xs more : List X) (start len : ℕ) (e : within xs start len ≡ true) where
  pub within_more : within (xs ++ more) start len ≡ true
  within_more = le-leb (start + len) (length (xs ++ more)) (omega (arith, length-append xs more, leb-true (start + len) (length xs) e))

  pub piece_more : cut (xs ++ more) start len ≡ cut xs start len
  piece_more = cut_more xs start len more (leb-true (start + len) (length xs) e)

pub lists_elements_more : (h more : Held) (r : Run ℕ) (xs : Elements) → ListsElements h r xs → ListsElements (grown h more) r xs
lists_elements_more h more r xs s = (
  within_more h.entries more.entries r.start r.len s.0,
  subst (λ ns. AllStand (grown h more) ns (element_parts xs)) (sym (piece_more h.entries more.entries r.start r.len s.0)) (all_stand_more h more (entries_at h.entries r) (element_parts xs) s.1),
)

pub lists_arguments_more : (h more : Held) (r : Run ℕ) (xs : Arguments) → ListsArguments h r xs → ListsArguments (grown h more) r xs
lists_arguments_more h more r xs s = (
  within_more h.entries more.entries r.start r.len s.0,
  subst (λ ns. AllStand (grown h more) ns (argument_parts xs)) (sym (piece_more h.entries more.entries r.start r.len s.0)) (all_stand_more h more (entries_at h.entries r) (argument_parts xs) s.1),
)

pub spells_more : (h more : Held) (r : Run ℕ) (u : Units) → Spells h r u → Spells (grown h more) r u
spells_more h more r u s =
    (within_more h.text more.text r.start r.len s.0, subst (λ bytes. StoresText bytes u) (sym (piece_more h.text more.text r.start r.len s.0)) s.1)

pub denote_all_more : (h more : Held) (ts : Trees) → DenoteAll (look h) ts → DenoteAll (look (grown h more)) ts
denote_all_more h more Trees.none d = tt
denote_all_more h more (Trees.more t ts) d = (grows h more t d.0, denote_all_more h more ts d.1)

-- The same of stores that have grown.
module _ {a b : Stores} {m : Held} (g : GrowsBy a m b) where
  pub denotes_then : (t : Tree) → Denotes (look (held_of a)) t → Denotes (look (held_of b)) t
  denotes_then t d = subst (λ h. Denotes (look h) t) (sym (holds_more g)) (grows (held_of a) m t d)

  pub denote_all_then : (ts : Trees) → DenoteAll (look (held_of a)) ts → DenoteAll (look (held_of b)) ts
  denote_all_then ts d = subst (λ h. DenoteAll (look h) ts) (sym (holds_more g)) (denote_all_more (held_of a) m ts d)

  pub stands_then : {n : ℕ} {p : Part} → Stands (held_of a) n p → Stands (held_of b) n p
  stands_then {n} {p} s = subst (λ h. Stands h n p) (sym (holds_more g)) (stands_more (held_of a) m s)

  pub all_stand_then : (ns : List ℕ) (ps : List Part) → AllStand (held_of a) ns ps → AllStand (held_of b) ns ps
  all_stand_then ns ps s = subst (λ h. AllStand h ns ps) (sym (holds_more g)) (all_stand_more (held_of a) m ns ps s)

  pub lists_elements_then : (r : Run ℕ) (xs : Elements) → ListsElements (held_of a) r xs → ListsElements (held_of b) r xs
  lists_elements_then r xs s = subst (λ h. ListsElements h r xs) (sym (holds_more g)) (lists_elements_more (held_of a) m r xs s)

  pub lists_arguments_then : (r : Run ℕ) (xs : Arguments) → ListsArguments (held_of a) r xs → ListsArguments (held_of b) r xs
  lists_arguments_then r xs s = subst (λ h. ListsArguments h r xs) (sym (holds_more g)) (lists_arguments_more (held_of a) m r xs s)

  pub spells_then : (r : Run ℕ) (u : Units) → Spells (held_of a) r u → Spells (held_of b) r u
  spells_then r u s = subst (λ h. Spells h r u) (sym (holds_more g)) (spells_more (held_of a) m r u s)

-- ---- room

-- So much less has room, and a part of what had room before has room behind the rest.
takes_less : {X : Type 0} (a b : Store X) (m : List X) (k n : ℕ) → Refilled a (held a ++ m) b → length m + k ≤ n → Takes (length (held a)) n (room a) → Takes (length (held b)) k (room b)
takes_less a b m k n f le t =
    let long : length (held b) ≡ length (held a) + length m = ap length f.0 ∙ length-append (held a) m in
    let r = refilled_room a b (held a ++ m) f in
    let t0 = t.0 in
    let t1 = t.1 in
    (omega (arith, long, r, t0, le), omega (arith, long, t1, le))

module _ {a b : Stores} {m : Held} (g : GrowsBy a m b) (k n : ℕ) where
  pub nodes_left : length m.nodes + k ≤ n → Takes (length (held a.nodes)) n (room a.nodes) → Takes (length (held b.nodes)) k (room b.nodes)
  nodes_left le t = takes_less a.nodes b.nodes m.nodes k n g.nodes_grow le t

  pub entries_left : length m.entries + k ≤ n → Takes (length (held a.entries)) n (room a.entries) → Takes (length (held b.entries)) k (room b.entries)
  entries_left le t = takes_less a.entries b.entries m.entries k n g.entries_grow le t

  pub text_left : length m.text + k ≤ n → Takes (length (held a.text)) n (room a.text) → Takes (length (held b.text)) k (room b.text)
  text_left le t = takes_less a.text b.text m.text k n g.text_grows le t

-- ---- a new node

nth_behind : {X : Type 0} (xs : List X) (x : X) → slice_get (xs ++ (x ∷ [])) (length xs) ≡ Some x
nth_behind [] x = refl
nth_behind (y ∷ xs) x = nth_behind xs x

-- A node whose pieces lie within the stores is what is stored at its number.
pub look_new : (h : Held) (n : Node) → inside h.entries h.text n ≡ true → look (grown h (one_node n)) (length h.nodes) ≡ Some (own h.text n, children h.entries n)
look_new h n i =
    ap (read (h.entries ++ []) (h.text ++ [])) (nth_behind h.nodes n)
    ∙ ap₂ (λ es bytes. read es bytes (Some n)) (append-nil h.entries) (append-nil h.text)
    ∙ read_inside h.entries h.text n i

-- So its number denotes a tree, where its children do.
pub denotes_new : (h : Held) (n : Node) (o : Own) (ts : Trees) → inside h.entries h.text n ≡ true → own h.text n ≡ o → children h.entries n ≡ labels ts → DenoteAll (look h) ts
    → Denotes (look (grown h (one_node n))) (tree (length h.nodes) o ts)
denotes_new h n o ts i e f d = (look_new h n i ∙ ap₂ (λ w cs. Some (w, cs)) e f, denote_all_more h (one_node n) ts d)

pub denotes_pushed : {a b : Stores} {n : Node} (o : Own) (ts : Trees) → GrowsBy a (one_node n) b → inside (held_of a).entries (held_of a).text n ≡ true → own (held_of a).text n ≡ o
    → children (held_of a).entries n ≡ labels ts → DenoteAll (look (held_of a)) ts → Denotes (look (held_of b)) (tree (length (held a.nodes)) o ts)
denotes_pushed {a} {b} {n} o ts g i e f d = subst (λ h. Denotes (look h) (tree (length (held a.nodes)) o ts)) (sym (holds_more g)) (denotes_new (held_of a) n o ts i e f d)
