-- A call of `concat` on an array whose elements are written anew, with the arguments that are left.
use Rattle.std.proofs.Common.{◌≡◌, ℕ, zero, suc, ◌+◌, ◌-◌, ◌≤◌, true, cond, List, [], ◌∷◌, ◌++◌, length, take, drop, ◌&&◌, Some, None, Option, Ok, Result, refl, sym, subst, ap, ap₂, ◌∙◌, append-nil, arith}
use Rattle.std.specs.List.{slice_get}
use Rattle.std.proofs.lemmas.Bool.{and_from, and_parts, le-leb, leb-true}
use Rattle.std.proofs.Math.Seq.{drop-nil}
use Rattle.base.specs.declared.fault.Fault.{Fault}
use Rattle.text.specs.Stored.{stored, Stores as StoresText}
use Rattle.store.specs.declared.stores.Stores.{Stores}
use Rattle.store.specs.Held.{held, room}
use Rattle.store.specs.Stores.{held_of}
use Rattle.tree.specs.declared.node.Node.{Node}
use Rattle.tree.specs.declared.node.Node.TheVariants.{String, Number, Boolean, Null, Name, Hole, Spread, Array, StaticMember, ComputedMember, Call, Template, Quasi, Unary, Binary, Opaque}
use Rattle.tree.specs.declared.run.Run.{Run}
use Rattle.tree.specs.Tree.{Own, Trees, label, labels, Denotes, DenoteAll}
use Rattle.tree.specs.Heap.{Held, look, within, cut, text_at, entries_at, with_link, grown}
use Rattle.tree.proofs.Cuts.{length_cut}
use Rattle.meaning.specs.Expression.{Expression, Elements, Arguments, Units}
use Rattle.meaning.specs.Parts.{Part}
use Rattle.meaning.specs.Trees.{tree_of, element_trees, argument_trees}
use Rattle.rules.specs.Building.{append_elements, with_object}
use Rattle.rules.specs.Interleaves.{argument_count}
use Rattle.rules.specs.Method.{Callee, callee_of}
use Rattle.rules.specs.Taking.{Leading, leading, taken, left, left_with, taken_count, taken_count_with}
use Rattle.rules.specs.Space.{bytes_of, new_nodes, new_bytes, new_entries, entries_of_call, elements_or_arguments, element_count, space}
use Rattle.deciding.specs.declared.plan.Plan.TheVariants.{ConcatLeft}
use Rattle.tree.specs.Limits.{WithinLimits}
use Rattle.deciding.specs.Standing.{Stands, AllStand, ListsElements, ListsArguments, element_parts, argument_parts}
use Rattle.deciding.proofs.Records.{Read, same_expression, not_missing}
use Rattle.building.specs.Growing.{GrowsBy, HasRoom, Pushes, Takes, one_node, some_entries}
use Rattle.building.specs.Builds.{Built, Builds}
use Rattle.building.specs.Lists.{NoRoom, ListedAt, LiesBehind}
use Rattle.building.proofs.Grown.{grows_twice, nodes_left, denotes_then, denote_all_then, within_more, piece_more}
use Rattle.building.proofs.Spent.{old_nodes, old_nodes_of, old_bytes, old_bytes_of, one_more_node, its_bytes, nodes_none, nodes_behind, bytes_none, bytes_behind, built}
use Rattle.building.proofs.Lists.{arguments_denoted, how_many_elements}
use Rattle.building.proofs.Written.{same_count, array_denoted, array_nodes, array_bytes, array_entries}
use Rattle.building.proofs.Plain.{pushed, of_form, one_behind, denotes_at, no_pieces}

-- ---- the arguments that are left

pub left_stand : (h : Held) (ns : List ℕ) (xs : Arguments) → AllStand h ns (argument_parts xs) → AllStand h (drop (taken_count xs) ns) (argument_parts (left xs))
unfolding argument_parts taken_count taken_count_with left left_with
left_stand h [] Arguments.no_arguments s = tt
left_stand h (n ∷ ns) Arguments.no_arguments s = absurd s
left_stand h [] (Arguments.spread_argument l x xs) s = absurd s
left_stand h (n ∷ ns) (Arguments.spread_argument l x xs) s = s
left_stand h [] (Arguments.argument x xs) s = absurd s
left_stand h (n ∷ ns) (Arguments.argument x xs) s = by (leading x) (left_stand h ns xs s.1)
  where
    by : (l : Leading) → AllStand h (drop (taken_count xs) ns) (argument_parts (left xs)) → AllStand h (drop (taken_count_with l (taken_count xs)) (n ∷ ns)) (argument_parts (left_with x l xs (left xs)))
    by Leading.literal i = i
    by (Leading.gives es) i = i
    by Leading.other i = s

pub count_stands : (h : Held) (ns : List ℕ) (xs : Arguments) → AllStand h ns (argument_parts xs) → taken_count xs ≤ length ns
unfolding argument_parts taken_count taken_count_with
count_stands h ns Arguments.no_arguments s = omega arith
count_stands h ns (Arguments.spread_argument l x xs) s = omega arith
count_stands h [] (Arguments.argument x xs) s = absurd s
count_stands h (n ∷ ns) (Arguments.argument x xs) s = by (leading x) (count_stands h ns xs s.1)
  where
    by : (l : Leading) → taken_count xs ≤ length ns → taken_count_with l (taken_count xs) ≤ length (n ∷ ns)
    by Leading.literal i = omega (arith, i)
    by (Leading.gives es) i = omega (arith, i)
    by Leading.other i = omega arith

drop_both : (start k : ℕ) (es : List ℕ) → drop k (drop start es) ≡ drop (start + k) es
drop_both zero k es = ap (λ j. drop j es) (sum k)
  where
    sum : (k : ℕ) → k ≡ 0 + k
    sum k = omega arith
drop_both (suc start) k [] = drop-nil k ∙ sym (drop-nil (suc start + k))
drop_both (suc start) k (e ∷ es) = drop_both start k es ∙ ap (λ j. drop j (e ∷ es)) (sum start k)
  where
    sum : (i k : ℕ) → suc (i + k) ≡ suc i + k
    sum i k = omega arith

take_none : (j : ℕ) → ◌≡◌ {A = List ℕ} (take j []) []
take_none zero = refl
take_none (suc j) = refl

drop_taken : (len k : ℕ) (es : List ℕ) → k ≤ len → take (len - k) (drop k es) ≡ drop k (take len es)
drop_taken len zero es le = ap (λ j. take j es) (sum len)
  where
    sum : (n : ℕ) → n - 0 ≡ n
    sum n = omega arith
drop_taken zero (suc k) es le = absurd (omega arith)
drop_taken (suc len) (suc k) [] le = take_none (suc len - suc k)
drop_taken (suc len) (suc k) (e ∷ es) le = ap (λ j. take j (drop k es)) (sum len k) ∙ drop_taken len k es (omega arith)
  where
    sum : (n k : ℕ) → suc n - suc k ≡ n - k
    sum n k = omega arith

module _ (es : List ℕ) (list rest : Run ℕ) (k : ℕ) (le : k ≤ list.len) (w : within es list.start list.len ≡ true) (i : rest.start ≡ list.start + k) (j : rest.len ≡ list.len - k) where
  pub rest_within : within es rest.start rest.len ≡ true
  rest_within = le-leb (rest.start + rest.len) (length es) (let lies = leb-true (list.start + list.len) (length es) w in omega (arith, lies, i, j, le))

  pub rest_entries : entries_at es rest ≡ drop k (entries_at es list)
  rest_entries = ap₂ (λ s n. cut es s n) i j ∙ ap (take (list.len - k)) (sym (drop_both list.start k es)) ∙ drop_taken list.len k (drop list.start es) le

-- ---- the member with another object

module _ (h : Held) (z : Expression) where
  abbrev next : ℕ
  next = length h.nodes

  -- What it takes, beside its object.
  record MemberTakes (f : Expression) : Type 0 where
    labelled : label (tree_of f) ≡ next + 1
    nodes : new_nodes next (tree_of f) ≡ 1 + new_nodes next (tree_of z)
    bytes : new_bytes next (tree_of f) ≡ new_bytes next (tree_of z)
    entries : (xs : Arguments) → entries_of_call next f xs ≡ elements_or_arguments next z xs

  static_takes : (k : Units) → MemberTakes (Expression.static_member (next + 1) z k)
  unfolding bytes_of entries_of_call
  static_takes k = record {
    labelled = refl;
    nodes =
        omega (arith, one_more_node next (next + 1) (Own.static_member (stored k)) (Trees.more (tree_of z) Trees.none) (omega arith), nodes_behind next (tree_of z) Trees.none, nodes_none next);
    bytes =
        omega (arith, its_bytes next (next + 1) (Own.static_member (stored k)) (Trees.more (tree_of z) Trees.none) (omega arith), bytes_behind next (tree_of z) Trees.none, bytes_none next);
    entries = λ xs. refl;
  }

  computed_takes : (y : Expression) → Denotes (look h) (tree_of y) → MemberTakes (Expression.computed_member (next + 1) z y)
  unfolding bytes_of entries_of_call
  computed_takes y d = record {
    labelled = refl;
    nodes =
        omega (
          arith,
          one_more_node next (next + 1) Own.computed_member (Trees.more (tree_of z) (Trees.more (tree_of y) Trees.none)) (omega arith),
          nodes_behind next (tree_of z) (Trees.more (tree_of y) Trees.none),
          nodes_behind next (tree_of y) Trees.none,
          old_nodes h (tree_of y) d,
          nodes_none next,
        );
    bytes =
        omega (
          arith,
          its_bytes next (next + 1) Own.computed_member (Trees.more (tree_of z) (Trees.more (tree_of y) Trees.none)) (omega arith),
          bytes_behind next (tree_of z) (Trees.more (tree_of y) Trees.none),
          bytes_behind next (tree_of y) Trees.none,
          old_bytes h (tree_of y) d,
          bytes_none next,
        );
    entries = λ xs. refl;
  }

  member_takes : (g o : Expression) (k : Units) → callee_of g ≡ Callee.method o k → Denotes (look h) (tree_of g) → MemberTakes (with_object (next + 1) g z)
  unfolding callee_of with_object
  member_takes (Expression.static_member m x p) o k e d = static_takes p
  member_takes (Expression.computed_member m x y) o k e d = computed_takes y d.1.1.0
  member_takes (Expression.string l u) o k e d = absurd (cc)
  member_takes (Expression.number l u) o k e d = absurd (cc)
  member_takes (Expression.boolean l u) o k e d = absurd (cc)
  member_takes (Expression.null l) o k e d = absurd (cc)
  member_takes (Expression.name l u) o k e d = absurd (cc)
  member_takes (Expression.array l u) o k e d = absurd (cc)
  member_takes (Expression.call l f u) o k e d = absurd (cc)
  member_takes (Expression.template l u) o k e d = absurd (cc)
  member_takes (Expression.unary l u x) o k e d = absurd (cc)
  member_takes (Expression.binary l u x y) o k e d = absurd (cc)
  member_takes (Expression.opaque l f u x) o k e d = absurd (cc)

-- What its record denotes, in stores that hold more than those in which the callee was read.
module _ (a c d : Stores) (m : Held) (n l : ℕ) (z : Expression) (grew : GrowsBy a m c) (numbered : label (tree_of z) ≡ n) (denoted : Denotes (look (held_of c)) (tree_of z))
    (at : length (held c.nodes) ≡ l) where
  abbrev Made : Node → Expression → Type 0
  Made r f = GrowsBy c (one_node r) d → Denotes (look (held_of d)) (tree_of f)

  static_made : (t : Run ℕ) (k : Units) → within (held a.text) t.start t.len ≡ true → StoresText (text_at (held a.text) t) k → Made (StaticMember n t) (Expression.static_member l z k)
  static_made t k w s g =
      let text = grew.text_grows.0 in
      let lies = ap (λ bytes. within bytes t.start t.len) text ∙ within_more (held a.text) m.text t.start t.len w in
      let reads = ap (λ bytes. cut bytes t.start t.len) text ∙ piece_more (held a.text) m.text t.start t.len w ∙ sym s.1 in
      denotes_at (Own.static_member (stored k)) (Trees.more (tree_of z) Trees.none) g at
      (and_from (within (held c.entries) 0 0) (within (held c.text) t.start t.len && true) (le-leb 0 (length (held c.entries)) (omega arith)) (and_from (within (held c.text) t.start t.len) true lies refl))
      (ap Own.static_member reads) (ap (λ i. i ∷ []) (sym numbered)) (denoted, tt)

  computed_made : (key : ℕ) (y : Expression) → Stands (held_of a) key (Part.expression y) → Made (ComputedMember n key) (Expression.computed_member l z y)
  computed_made key y s g =
      denotes_at Own.computed_member (Trees.more (tree_of z) (Trees.more (tree_of y) Trees.none)) g at (no_pieces (held_of c) (ComputedMember n key) refl refl) refl
      (ap₂ (λ i j. i ∷ j ∷ []) (sym numbered) (sym s.numbered)) (denoted, (denotes_then grew (tree_of y) s.denoted, tt))

  pub by_record : (r : Node) (g o : Expression) (k : Units) → Read (held_of a) r (Part.expression g) → callee_of g ≡ Callee.method o k → Made (with_link r 0 n) (with_object l g z)
  unfolding callee_of with_object
  by_record (StaticMember x t) g o k s e =
      let lies = and_parts (within (held a.text) t.start t.len) true (and_parts (within (held a.entries) 0 0) (within (held a.text) t.start t.len && true) s.within).1 in
      subst (λ f. Made (StaticMember n t) (with_object l f z)) (same_expression s.says.3) (static_made t s.says.2 lies.0 s.says.5)
  by_record (ComputedMember x key) g o k s e =
      subst (λ f. Made (ComputedMember n key) (with_object l f z)) (same_expression s.says.3) (computed_made key s.says.2 s.says.5)
  by_record (String t) g o k s e = absurd (cc (s.says.2, e))
  by_record (Number b) g o k s e = absurd (cc (s.says.1, e))
  by_record (Boolean b) g o k s e = absurd (cc (s.says.1, e))
  by_record Null g o k s e = absurd (cc (s.says.1, e))
  by_record (Name t) g o k s e = absurd (cc (s.says.2, e))
  by_record Hole g o k s e = let i = s.says.1 in absurd (cc)
  by_record (Spread x) g o k s e = let i = s.says.2 in absurd (cc)
  by_record (Array es) g o k s e = absurd (cc (s.says.2, e))
  by_record (Call f es) g o k s e = absurd (cc (s.says.3, e))
  by_record (Template es) g o k s e = absurd (cc (s.says.2, e))
  by_record (Quasi q w) g o k s e = let i = s.says.1 in absurd (cc)
  by_record (Unary u x) g o k s e = absurd (cc (s.says.2, e))
  by_record (Binary u x y) g o k s e = absurd (cc (s.says.3, e))
  by_record (Opaque es u x) g o k s e = absurd (cc (s.says.2, e))

-- ---- the whole call

takes_fewer : (h k n most : ℕ) → Takes h n most → k ≤ n → Takes h k most
takes_fewer h k n most t le =
    let t0 = t.0 in
    let t1 = t.1 in
    (omega (arith, t0, le), omega (arith, t1, le))

module _ (a : Stores) (x g o : Expression) (k : Units) (fs : Elements) (xs : Arguments) (arguments : Run ℕ) (callee : ℕ)
    (named : callee_of g ≡ Callee.method o k) (stands : Stands (held_of a) callee (Part.expression g)) (lists : ListsArguments (held_of a) arguments xs) where
  abbrev first : ℕ
  first = length (held a.nodes)

  abbrev array : Expression
  array = Expression.array first fs

  abbrev member : Expression
  member = with_object (first + 1) g array

  abbrev whole : Expression
  whole = Expression.call (first + 2) member (left xs)

  abbrev ns : List ℕ
  ns = entries_at (held a.entries) arguments

  takes : MemberTakes (held_of a) array member
  takes = member_takes (held_of a) array g o k named stands.denoted

  left_denoted : (drop (taken_count xs) ns ≡ labels (argument_trees (left xs))) × DenoteAll (look (held_of a)) (argument_trees (left xs))
  left_denoted = arguments_denoted (held_of a) (drop (taken_count xs) ns) (left xs) (left_stand (held_of a) ns xs lists.1)

  whole_nodes : new_nodes first (tree_of whole) ≡ 2 + new_nodes first (tree_of array)
  whole_nodes =
      omega (
        arith,
        one_more_node first (first + 2) Own.call (Trees.more (tree_of member) (argument_trees (left xs))) (omega arith),
        nodes_behind first (tree_of member) (argument_trees (left xs)),
        takes.nodes,
        old_nodes_of (held_of a) (argument_trees (left xs)) left_denoted.1,
      )

  at_least : 3 ≤ new_nodes first (tree_of whole)
  at_least = omega (arith, whole_nodes, one_more_node first first Own.array (element_trees fs) (omega arith))

  whole_bytes : new_bytes first (tree_of whole) ≡ new_bytes first (tree_of array)
  unfolding bytes_of
  whole_bytes =
      omega (
        arith,
        its_bytes first (first + 2) Own.call (Trees.more (tree_of member) (argument_trees (left xs))) (omega arith),
        bytes_behind first (tree_of member) (argument_trees (left xs)),
        takes.bytes,
        old_bytes_of (held_of a) (argument_trees (left xs)) left_denoted.1,
      )

  whole_entries : new_entries first x whole ≡ element_count fs
  unfolding new_entries elements_or_arguments
  whole_entries =
      ap (λ b. cond b (entries_of_call first member (left xs)) 0) (le-leb first (first + 2) (omega arith)) ∙ takes.entries (left xs)
      ∙ ap (λ b. cond b (element_count fs) (argument_count (left xs))) (le-leb first first (omega arith))

  pub whole_room : HasRoom a (space first x whole) → Takes first 3 (room a.nodes)
  whole_room h = takes_fewer first 3 (new_nodes first (tree_of whole)) (room a.nodes) h.for_nodes at_least

  pub elements_room : HasRoom a (space first x whole) → Takes (length (held a.entries)) (length (element_parts fs)) (room a.entries)
  elements_room h = subst (λ n. Takes (length (held a.entries)) n (room a.entries)) (whole_entries ∙ sym (how_many_elements fs)) h.for_entries

  count_within : taken_count xs ≤ arguments.len
  count_within =
      omega (arith, count_stands (held_of a) ns xs lists.1, length_cut (held a.entries) arguments.start arguments.len (leb-true (arguments.start + arguments.len) (length (held a.entries)) lists.0))

  pub lies_behind : WithinLimits (held_of a) → LiesBehind arguments (taken_count xs) None → ⊥
  lies_behind limits f =
      let lies = leb-true (arguments.start + arguments.len) (length (held a.entries)) lists.0 in
      let few = limits.1 in
      f count_within (omega (arith, lies, few, count_within))

  module _ (b c d e : Stores) (list rest : Run ℕ) (node : Node) (object number : ℕ) (r : Result ℕ Fault) (behind : LiesBehind arguments (taken_count xs) (Some rest))
      (says : Read (held_of a) node (Part.expression g)) (w : ListedAt a (element_parts fs) b list) (i : object ≡ length (held b.nodes)) (g1 : GrowsBy b (one_node (Array list)) c)
      (g2 : GrowsBy c (one_node (with_link node 0 object)) d) (j : number ≡ length (held c.nodes)) (p : Pushes d (Call number rest) e r) where
    c_count : length (held c.nodes) ≡ first + 1
    c_count = one_behind g1 ∙ ap (λ n. n + 1) (same_count a b fs list w)

    d_count : length (held d.nodes) ≡ first + 2
    d_count = let f = one_behind g2 in omega (arith, f, c_count)

    array_there : Denotes (look (held_of c)) (tree_of array)
    array_there = array_denoted a b fs list w c g1

    member_there : Denotes (look (held_of d)) (tree_of member)
    member_there =
        by_record a c d (grown (some_entries w.lists.numbers) (one_node (Array list))) object (first + 1) array (grows_twice w.lists.grew g1) (sym (i ∙ same_count a b fs list w)) array_there c_count node g o k
        says named g2

    to_d : GrowsBy a (grown (grown (some_entries w.lists.numbers) (one_node (Array list))) (one_node (with_link node 0 object))) d
    to_d = grows_twice (grows_twice w.lists.grew g1) g2

    rest_lies : within (held d.entries) rest.start rest.len ≡ true
    rest_lies =
        ap (λ es. within es rest.start rest.len) to_d.entries_grow.0
        ∙ within_more (held a.entries) (w.lists.numbers ++ [] ++ []) rest.start rest.len (rest_within (held a.entries) arguments rest (taken_count xs) count_within lists.0 behind.0 behind.1)

    rest_reads : entries_at (held d.entries) rest ≡ drop (taken_count xs) ns
    rest_reads =
        ap (λ es. cut es rest.start rest.len) to_d.entries_grow.0
        ∙ piece_more (held a.entries) (w.lists.numbers ++ [] ++ []) rest.start rest.len (rest_within (held a.entries) arguments rest (taken_count xs) count_within lists.0 behind.0 behind.1)
        ∙ rest_entries (held a.entries) arguments rest (taken_count xs) count_within lists.0 behind.0 behind.1

    linked : number ∷ entries_at (held d.entries) rest ≡ label (tree_of member) ∷ labels (argument_trees (left xs))
    linked = ap₂ (λ m ms. m ∷ ms) (j ∙ c_count ∙ sym takes.labelled) (rest_reads ∙ left_denoted.0)

    whole_built : HasRoom a (space first x whole) → Built a whole (space first x whole) e r
    whole_built h =
        let l = pushed r p (nodes_left to_d 1 3 (omega arith) (whole_room h)) in
        built x whole (grows_twice to_d l.1) (l.0 ∙ ap Ok d_count)
        (denotes_at Own.call (Trees.more (tree_of member) (argument_trees (left xs))) l.1 d_count (and_from (within (held d.entries) rest.start rest.len) true rest_lies refl) refl linked
        (member_there, denote_all_then to_d (argument_trees (left xs)) left_denoted.1))
        (sym (whole_nodes ∙ ap (λ n. 2 + n) (array_nodes a b fs list w)))
        (ap length (append-nil (w.lists.numbers ++ [] ++ []) ∙ append-nil (w.lists.numbers ++ []) ∙ append-nil w.lists.numbers) ∙ array_entries a b fs list w ∙ sym whole_entries)
        (sym (whole_bytes ∙ array_bytes a b fs list w))

-- ---- the plan

module _ (a : Stores) (callee : ℕ) (elements arguments : Run ℕ) (count : ℕ) where
  pub nothing_behind : (c : Stores) (r : Result ℕ Fault) → LiesBehind arguments count None → Builds a (ConcatLeft callee elements arguments count) c r
  nothing_behind c r f limits x y plan writes has =
      absurd (lies_behind a x plan.0 plan.5.1.0 plan.5.1.1 (append_elements plan.1 (taken plan.2)) plan.2 arguments callee plan.5.1.2 plan.5.0 plan.7 limits
      (subst (λ n. LiesBehind arguments n None) plan.4 f))

  pub callee_missing : (o : Option Node) (c : Stores) (r : Result ℕ Fault) → o ≡ slice_get (held a.nodes) callee → o ≡ None → Builds a (ConcatLeft callee elements arguments count) c r
  callee_missing o c r e f limits x y plan writes has = not_missing plan.5.0 e f

  module _ (b : Stores) where
    pub left_refused : (c : Stores) (r : Result ℕ Fault)
        → ((es : Elements) (xs : Arguments) → ListsElements (held_of a) elements es → ListsArguments (held_of a) arguments xs → NoRoom a (element_parts (append_elements es (taken xs))))
        → Builds a (ConcatLeft callee elements arguments count) c r
    left_refused c r f limits x y plan writes has =
        let es = append_elements plan.1 (taken plan.2) in
        of_form x plan.3 (λ h. absurd (f plan.1 plan.2 plan.6 plan.7 (elements_room a x plan.0 plan.5.1.0 plan.5.1.1 es plan.2 arguments callee plan.5.1.2 plan.5.0 plan.7 h))) has

    module _ (list : Run ℕ)
        (f : (es : Elements) (xs : Arguments) → ListsElements (held_of a) elements es → ListsArguments (held_of a) arguments xs → ListedAt a (element_parts (append_elements es (taken xs))) b list) where
      pub array_refused : (c : Stores) (r : Result ℕ Fault) → (Takes (length (held b.nodes)) 1 (room b.nodes) → ⊥) → Builds a (ConcatLeft callee elements arguments count) c r
      array_refused c r p limits x y plan writes has =
          let es = append_elements plan.1 (taken plan.2) in
          let w = f plan.1 plan.2 plan.6 plan.7 in
          of_form x plan.3
          (λ h. absurd (p (nodes_left w.lists.grew 1 3 (omega arith) (whole_room a x plan.0 plan.5.1.0 plan.5.1.1 es plan.2 arguments callee plan.5.1.2 plan.5.0 plan.7 h)))) has

      module _ (c : Stores) (object : ℕ) (i : object ≡ length (held b.nodes)) (g1 : GrowsBy b (one_node (Array list)) c) where
        pub member_refused : (d : Stores) (r : Result ℕ Fault) → (Takes (length (held c.nodes)) 1 (room c.nodes) → ⊥) → Builds a (ConcatLeft callee elements arguments count) d r
        member_refused d r p limits x y plan writes has =
            let es = append_elements plan.1 (taken plan.2) in
            let w = f plan.1 plan.2 plan.6 plan.7 in
            of_form x plan.3
            (λ h.
            absurd (p (nodes_left (grows_twice w.lists.grew g1) 1 3 (omega arith) (whole_room a x plan.0 plan.5.1.0 plan.5.1.1 es plan.2 arguments callee plan.5.1.2 plan.5.0 plan.7 h)))) has

        pub left_built : (d e : Stores) (rest : Run ℕ) (node made : Node) (number : ℕ) (r : Result ℕ Fault) → LiesBehind arguments count (Some rest)
            → ((p : Part) → Stands (held_of a) callee p → Read (held_of a) node p) → made ≡ with_link node 0 object → GrowsBy c (one_node made) d
            → number ≡ length (held c.nodes) → Pushes d (Call number rest) e r → Builds a (ConcatLeft callee elements arguments count) e r
        left_built d e rest node made number r behind says m g2 j p limits x y plan writes has =
            let es = append_elements plan.1 (taken plan.2) in
            of_form x plan.3
            (whole_built a x plan.0 plan.5.1.0 plan.5.1.1 es plan.2 arguments callee plan.5.1.2 plan.5.0 plan.7 b c d e list rest node object number r
            (subst (λ n. LiesBehind arguments n (Some rest)) plan.4 behind) (says (Part.expression plan.0) plan.5.0) (f plan.1 plan.2 plan.6 plan.7) i g1
            (subst (λ z. GrowsBy c (one_node z) d) m g2) j p)
            has
