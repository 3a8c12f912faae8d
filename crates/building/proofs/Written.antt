-- An array whose elements are written anew.
use Rattle.std.proofs.Common.{◌≡◌, ℕ, ◌-◌, true, cond, List, ◌++◌, length, Ok, Err, Result, refl, sym, subst, ap, ◌∙◌, append-nil, arith, length-append}
use Rattle.std.proofs.lemmas.Bool.{and_from, le-leb}
use Rattle.std.specs.Result.{IsErr}
use Rattle.base.specs.declared.fault.Fault.{Fault}
use Rattle.store.specs.declared.stores.Stores.{Stores}
use Rattle.store.specs.Held.{held, room}
use Rattle.store.specs.Stores.{held_of}
use Rattle.tree.specs.declared.node.Node.TheVariants.{Array}
use Rattle.tree.specs.declared.run.Run.{Run}
use Rattle.tree.specs.Tree.{Own, tree, labels, Denotes, DenoteAll}
use Rattle.tree.specs.Heap.{look, within, cut, entries_at}
use Rattle.meaning.specs.Expression.{Expression, Elements, Arguments}
use Rattle.meaning.specs.Parts.{Part}
use Rattle.meaning.specs.Trees.{element_trees}
use Rattle.rules.specs.Building.{append_elements}
use Rattle.rules.specs.Taking.{taken}
use Rattle.rules.specs.Space.{bytes_of, new_nodes, new_bytes, new_entries, elements_from, element_count, space}
use Rattle.deciding.specs.declared.plan.Plan.TheVariants.{Merged}
use Rattle.deciding.specs.Standing.{AllStand, ListsElements, ListsArguments, element_parts}
use Rattle.building.specs.Growing.{GrowsBy, HasRoom, Pushes, RunBetween, Takes, one_node}
use Rattle.building.specs.Builds.{Built, Builds}
use Rattle.building.specs.Lists.{Lists, NoRoom, ListedAt, Writes, WritesElements}
use Rattle.building.proofs.Grown.{grows_twice, nodes_left, lists_arguments_then}
use Rattle.building.proofs.Spent.{one_new, its_bytes_alone, built}
use Rattle.building.proofs.Lists.{elements_denoted, parts_behind, how_many_stand, how_many_elements}
use Rattle.building.proofs.Appended.{lists_behind, no_room_behind, no_room_for_more, listed_at}
use Rattle.building.proofs.Ends.{ends_within, ends_with}
use Rattle.building.proofs.Plain.{pushed, of_form, denotes_at}

-- ---- writing the elements

module _ (a : Stores) (elements arguments : Run ℕ) where
  both : (es : Elements) (xs : Arguments) → element_parts es ++ element_parts (taken xs) ≡ element_parts (append_elements es (taken xs))
  both es xs = sym (parts_behind es (taken xs))

  pub elements_refused : (c : Stores) (r : Result (Run ℕ) Fault) → IsErr r
      → ((ps : List Part) → within (held a.entries) elements.start elements.len ≡ true → AllStand (held_of a) (entries_at (held a.entries) elements) ps → NoRoom a ps)
      → WritesElements a elements arguments c r
  elements_refused c (Ok u) e f es xs se sx = absurd (cc)
  elements_refused c (Err z) e f es xs se sx = subst (NoRoom a) (both es xs) (no_room_for_more a (element_parts es) (element_parts (taken xs)) (f (element_parts es) se.0 se.1))

  module _ (b : Stores) (f : (ps : List Part) → within (held a.entries) elements.start elements.len ≡ true → AllStand (held_of a) (entries_at (held a.entries) elements) ps → Lists a ps b) where
    pub arguments_refused : (c : Stores) (r : Result (Run ℕ) Fault) → IsErr r
        → ((xs : Arguments) → ListsArguments (held_of b) arguments xs → NoRoom b (element_parts (taken xs)))
        → WritesElements a elements arguments c r
    arguments_refused c (Ok u) e g es xs se sx = absurd (cc)
    arguments_refused c (Err z) e g es xs se sx =
        let l = f (element_parts es) se.0 se.1 in
        subst (NoRoom a) (both es xs) (no_room_behind (element_parts (taken xs)) l (g xs (lists_arguments_then l.grew arguments xs sx)))

    pub elements_written : (c : Stores) (start end : ℕ) (r : Result (Run ℕ) Fault) → ((xs : Arguments) → ListsArguments (held_of b) arguments xs → Lists b (element_parts (taken xs)) c)
        → start ≡ length (held a.entries) → end ≡ length (held c.entries) → RunBetween start end r → WritesElements a elements arguments c r
    elements_written c start end r g i j k es xs se sx =
        let l = f (element_parts es) se.0 se.1 in
        subst (λ ps. Writes a ps c r) (both es xs) (listed_at start end r (lists_behind l (g xs (lists_arguments_then l.grew arguments xs sx))) i j k)

-- ---- the array

module _ (a b : Stores) (es : Elements) (list : Run ℕ) (w : ListedAt a (element_parts es) b list) where
  abbrev next : ℕ
  next = length (held a.nodes)

  pub same_count : length (held b.nodes) ≡ next
  same_count = ap length w.lists.grew.nodes_grow.0 ∙ ap length (append-nil (held a.nodes))

  as_long : list.len ≡ length (held a.entries ++ w.lists.numbers) - length (held a.entries)
  as_long = let l = w.len in omega (arith, l, length-append (held a.entries) w.lists.numbers)

  lies : within (held b.entries) list.start list.len ≡ true
  lies = ap (λ ns. within ns list.start list.len) w.lists.grew.entries_grow.0 ∙ ends_within (held a.entries) w.lists.numbers list.start list.len w.start as_long

  reads : entries_at (held b.entries) list ≡ w.lists.numbers
  reads = ap (λ ns. cut ns list.start list.len) w.lists.grew.entries_grow.0 ∙ ends_with (held a.entries) w.lists.numbers list.start list.len w.start as_long

  list_denoted : (w.lists.numbers ≡ labels (element_trees es)) × DenoteAll (look (held_of b)) (element_trees es)
  list_denoted = elements_denoted (held_of b) w.lists.numbers es w.lists.stand

  pub array_denoted : (c : Stores) → GrowsBy b (one_node (Array list)) c → Denotes (look (held_of c)) (tree next Own.array (element_trees es))
  array_denoted c g =
      denotes_at Own.array (element_trees es) g same_count (and_from (within (held b.entries) list.start list.len) true lies refl) refl (reads ∙ list_denoted.0) list_denoted.1

  pub array_nodes : new_nodes next (tree next Own.array (element_trees es)) ≡ 1
  array_nodes = subst (λ k. new_nodes k (tree k Own.array (element_trees es)) ≡ 1) same_count (one_new (held_of b) Own.array (element_trees es) list_denoted.1)

  pub array_bytes : new_bytes next (tree next Own.array (element_trees es)) ≡ 0
  unfolding bytes_of
  array_bytes = subst (λ k. new_bytes k (tree k Own.array (element_trees es)) ≡ 0) same_count (its_bytes_alone (held_of b) Own.array (element_trees es) list_denoted.1)

  pub array_entries : length w.lists.numbers ≡ element_count es
  array_entries = how_many_stand (held_of b) w.lists.numbers (element_parts es) w.lists.stand ∙ how_many_elements es

-- ---- the plan

merged_entries : (next : ℕ) (x : Expression) (es : Elements) → ((fs : Elements) → elements_from x fs ≡ element_count fs) → new_entries next x (Expression.array next es) ≡ element_count es
unfolding new_entries
merged_entries next x es w = ap (λ b. cond b (elements_from x es) 0) (le-leb next next (omega arith)) ∙ w es

pub merged_refused : (a : Stores) (elements arguments : Run ℕ) (c : Stores) (r : Result ℕ Fault)
    → ((es : Elements) (xs : Arguments) → ListsElements (held_of a) elements es → ListsArguments (held_of a) arguments xs → NoRoom a (element_parts (append_elements es (taken xs))))
    → Builds a (Merged elements arguments) c r
merged_refused a elements arguments c r f limits x y plan writes has =
    let es = append_elements plan.0 (taken plan.1) in
    of_form x plan.2
    (λ h. absurd (f plan.0 plan.1 plan.3 plan.4
    (subst (λ k. Takes (length (held a.entries)) k (room a.entries)) (merged_entries (length (held a.nodes)) x es writes ∙ sym (how_many_elements es)) h.for_entries)))
    has

pub merged_built : (a b : Stores) (elements arguments list : Run ℕ) (c : Stores) (r : Result ℕ Fault)
    → ((es : Elements) (xs : Arguments) → ListsElements (held_of a) elements es → ListsArguments (held_of a) arguments xs → ListedAt a (element_parts (append_elements es (taken xs))) b list)
    → Pushes b (Array list) c r → Builds a (Merged elements arguments) c r
merged_built a b elements arguments list c r f p limits x y plan writes has =
    of_form x plan.2 (go (append_elements plan.0 (taken plan.1)) (f plan.0 plan.1 plan.3 plan.4)) has
  where
    next : ℕ
    next = length (held a.nodes)

    go : (es : Elements) → ListedAt a (element_parts es) b list → HasRoom a (space next x (Expression.array next es)) → Built a (Expression.array next es) (space next x (Expression.array next es)) c r
    go es w h =
        let one = subst (λ k. Takes next k (room a.nodes)) (array_nodes a b es list w) h.for_nodes in
        let l = pushed r p (nodes_left w.lists.grew 1 1 (omega arith) one) in
        built x (Expression.array next es) (grows_twice w.lists.grew l.1) (l.0 ∙ ap Ok (same_count a b es list w)) (array_denoted a b es list w c l.1) (sym (array_nodes a b es list w))
        (ap length (append-nil w.lists.numbers) ∙ array_entries a b es list w ∙ sym (merged_entries next x es writes)) (sym (array_bytes a b es list w))
