-- One call with the arguments of all calls of a chain.
use Rattle.std.proofs.Common.{◌≡◌, ℕ, ◌+◌, ◌-◌, ◌<◌, ◌≤◌, true, cond, List, [], ◌∷◌, ◌++◌, length, drop, get_or, Some, Ok, Err, Result, ◌⊎◌, inl, inr, refl, sym, subst, ap, ap₂, ◌∙◌, append-nil, append_assoc, arith, length-append}
use Rattle.std.specs.Result.{IsErr}
use Rattle.std.proofs.lemmas.Bool.{and_from, le-leb, lt-leb}
use Rattle.base.specs.declared.fault.Fault.{Fault}
use Rattle.store.specs.declared.stores.Stores.{Stores}
use Rattle.store.specs.Held.{held, room}
use Rattle.store.specs.Stores.{held_of}
use Rattle.tree.specs.declared.node.Node.TheVariants.{Call}
use Rattle.tree.specs.declared.run.Run.{Run}
use Rattle.tree.specs.Tree.{Own, Trees, tree, labels, Denotes, DenoteAll}
use Rattle.tree.specs.Heap.{Held, look, within, cut, entries_at}
use Rattle.meaning.specs.Expression.{Expression, Arguments, Units}
use Rattle.meaning.specs.Parts.{Part}
use Rattle.meaning.specs.Trees.{tree_of, element_trees, argument_trees}
use Rattle.rules.specs.Building.{flat}
use Rattle.rules.specs.Chain.{Chain, chain_of}
use Rattle.rules.specs.Interleaves.{argument_count}
use Rattle.rules.specs.Space.{element_count, bytes_of, new_nodes, new_bytes, new_entries, entries_of_call, elements_or_arguments, space}
use Rattle.deciding.specs.declared.plan.Plan.TheVariants.{OneCall}
use Rattle.deciding.specs.declared.concat_chain.ConcatChain.{ConcatChain}
use Rattle.deciding.specs.declared.concat_chain.Root.{Root}
use Rattle.deciding.specs.declared.concat_chain.Root.TheVariants.{String, Array}
use Rattle.tree.specs.Limits.{WithinLimits}
use Rattle.deciding.specs.ConcatCalls.{CallsStand, calls_of, Rooted, Collects}
use Rattle.deciding.specs.Standing.{Stands, argument_parts}
use Rattle.deciding.proofs.ChainWalks.{call_at, behind_it, calls_end, flat_front}
use Rattle.building.specs.Growing.{HasRoom, Pushes, RunBetween, Takes}
use Rattle.building.specs.Builds.{Built, Builds}
use Rattle.building.specs.Lists.{Lists, NoRoom, AppendsList, ListedAt, Writes, WritesArguments}
use Rattle.building.proofs.Grown.{grows_twice, nodes_left, denotes_then, lists_arguments_then}
use Rattle.building.proofs.Spent.{numbered_below, one_new, its_bytes_alone, built}
use Rattle.building.proofs.Lists.{arguments_denoted, arguments_behind, how_many_stand, how_many_arguments}
use Rattle.building.proofs.Appended.{none_listed, lists_behind, no_room_behind, no_room_for_more, listed_at}
use Rattle.building.proofs.Ends.{ends_within, ends_with}
use Rattle.building.proofs.Plain.{pushed, of_form, denotes_at}

-- ---- writing the arguments

-- The arguments of so many calls are written, and those of the others are not.
record Gathered (a : Stores) (i : ℕ) (b : Stores) (xss : List Arguments) : Type 0 where
  done : List Part
  lists : Lists a done b
  all : argument_parts (flat xss) ≡ done ++ argument_parts (flat (drop i xss))

pub record Gathering (a : Stores) (calls : List (Run ℕ)) (i : ℕ) (b : Stores) : Type 0 where
  pub long : length (held a.entries) ≤ length (held b.entries)
  so_far : (xss : List Arguments) → CallsStand (held_of a) calls xss → Gathered a i b xss

pub none_gathered : (a : Stores) (calls : List (Run ℕ)) → Gathering a calls 0 a
none_gathered a calls = record { long = omega arith; so_far = λ xss s. record { done = []; lists = none_listed a; all = refl } }

no_parts : argument_parts (flat []) ≡ []
unfolding flat argument_parts
no_parts = refl

parts_front : (xs : Arguments) (xss : List Arguments) → argument_parts (flat (xs ∷ xss)) ≡ argument_parts xs ++ argument_parts (flat xss)
parts_front xs xss = ap argument_parts (flat_front xs xss) ∙ arguments_behind xs (flat xss)

module _ (a b c : Stores) (calls : List (Run ℕ)) (i : ℕ) (d : Run ℕ) (w : Gathering a calls i b) (lt : i < length calls) where
  pub gathers_one : (r : Result (Unit {0}) Fault) → AppendsList b (get_or calls i d) c (Ok tt) → length (held b.entries) ≤ length (held c.entries) → Gathering a calls (i + 1) c
  gathers_one r f le = record {
    long = omega (arith, w.long, le);
    so_far = λ xss s.
        let g = w.so_far xss s in
        let k = call_at (held_of a) calls i d xss s lt in
        let l = lists_arguments_then g.lists.grew (get_or calls i d) k.arguments k.stand in
        record {
          done = g.done ++ argument_parts k.arguments;
          lists = lists_behind g.lists (f (argument_parts k.arguments) l.0 l.1);
          all =
              g.all ∙ ap (λ z. g.done ++ argument_parts (flat z)) k.here ∙ ap (λ ps. g.done ++ ps) (parts_front k.arguments k.rest)
              ∙ sym (append_assoc g.done (argument_parts k.arguments) (argument_parts (flat k.rest)))
              ∙ ap (λ z. (g.done ++ argument_parts k.arguments) ++ argument_parts (flat z)) (sym (behind_it (held_of a) calls i d xss k));
        };
  }

  pub gathers_none : (e : Fault) (r : Result (Run ℕ) Fault) → IsErr r → AppendsList b (get_or calls i d) c (Err e) → WritesArguments a calls c r
  gathers_none e (Ok u) k f xss s = absurd (cc)
  gathers_none e (Err z) j f xss s =
      let g = w.so_far xss s in
      let k = call_at (held_of a) calls i d xss s lt in
      let l = lists_arguments_then g.lists.grew (get_or calls i d) k.arguments k.stand in
      let all =
      g.all ∙ ap (λ z. g.done ++ argument_parts (flat z)) k.here ∙ ap (λ ps. g.done ++ ps) (parts_front k.arguments k.rest)
      ∙ sym (append_assoc g.done (argument_parts k.arguments) (argument_parts (flat k.rest))) in
      subst (NoRoom a) (sym all) (no_room_for_more a (g.done ++ argument_parts k.arguments) (argument_parts (flat k.rest)) (no_room_behind (argument_parts k.arguments) g.lists (f (argument_parts k.arguments) l.0 l.1)))

pub arguments_written : (a b : Stores) (calls : List (Run ℕ)) (i start end : ℕ) (r : Result (Run ℕ) Fault) → Gathering a calls i b → length calls ≤ i → start ≡ length (held a.entries)
    → end ≡ length (held b.entries) → RunBetween start end r → WritesArguments a calls b r
arguments_written a b calls i start end r w le e f g xss s =
    let k = w.so_far xss s in
    let all = k.all ∙ ap (λ z. k.done ++ argument_parts (flat z)) (calls_end (held_of a) calls i xss s le) ∙ ap (λ ps. k.done ++ ps) no_parts ∙ append-nil k.done in
    subst (λ ps. Writes a ps b r) (sym all) (listed_at start end r k.lists e f g)

-- ---- the call

-- An object that there is takes no entries of its own.
old_object : (h : Held) (o : Expression) (xs : Arguments) → Denotes (look h) (tree_of o) → elements_or_arguments (length h.nodes) o xs ≡ argument_count xs
unfolding elements_or_arguments
old_object h (Expression.array j es) xs d = ap (λ b. cond b (element_count es) (argument_count xs)) (lt-leb (length h.nodes) j (numbered_below h j Own.array (element_trees es) d))
old_object h o xs d = refl

old_callee : (h : Held) (g : Expression) (xs : Arguments) → Denotes (look h) (tree_of g) → entries_of_call (length h.nodes) g xs ≡ argument_count xs
unfolding entries_of_call
old_callee h (Expression.static_member m o k) xs d = old_object h o xs d.1.0
old_callee h (Expression.computed_member m o k) xs d = old_object h o xs d.1.0
old_callee h g xs d = refl

module _ (a : Stores) (x g : Expression) (xs : Arguments) (callee : ℕ) (stands : Stands (held_of a) callee (Part.expression g)) where
  abbrev next : ℕ
  next = length (held a.nodes)

  abbrev whole : Expression
  whole = Expression.call next g xs

  call_entries : new_entries next x whole ≡ length (argument_parts xs)
  unfolding new_entries
  call_entries = ap (λ b. cond b (entries_of_call next g xs) 0) (le-leb next next (omega arith)) ∙ old_callee (held_of a) g xs stands.denoted ∙ sym (how_many_arguments xs)

  arguments_room : HasRoom a (space next x whole) → Takes (length (held a.entries)) (length (argument_parts xs)) (room a.entries)
  arguments_room h = subst (λ n. Takes (length (held a.entries)) n (room a.entries)) call_entries h.for_entries

  module _ (b c : Stores) (list : Run ℕ) (r : Result ℕ Fault) (w : ListedAt a (argument_parts xs) b list) (p : Pushes b (Call callee list) c r) where
    same_count : length (held b.nodes) ≡ next
    same_count = ap length w.lists.grew.nodes_grow.0 ∙ ap length (append-nil (held a.nodes))

    as_long : list.len ≡ length (held a.entries ++ w.lists.numbers) - length (held a.entries)
    as_long = let l = w.len in omega (arith, l, length-append (held a.entries) w.lists.numbers)

    lies : within (held b.entries) list.start list.len ≡ true
    lies = ap (λ ns. within ns list.start list.len) w.lists.grew.entries_grow.0 ∙ ends_within (held a.entries) w.lists.numbers list.start list.len w.start as_long

    reads : entries_at (held b.entries) list ≡ w.lists.numbers
    reads = ap (λ ns. cut ns list.start list.len) w.lists.grew.entries_grow.0 ∙ ends_with (held a.entries) w.lists.numbers list.start list.len w.start as_long

    list_denoted : (w.lists.numbers ≡ labels (argument_trees xs)) × DenoteAll (look (held_of b)) (argument_trees xs)
    list_denoted = arguments_denoted (held_of b) w.lists.numbers xs w.lists.stand

    abbrev children_trees : Trees
    children_trees = Trees.more (tree_of g) (argument_trees xs)

    all_denoted : DenoteAll (look (held_of b)) children_trees
    all_denoted = (denotes_then w.lists.grew (tree_of g) stands.denoted, list_denoted.1)

    call_nodes : new_nodes next (tree_of whole) ≡ 1
    call_nodes = subst (λ k. new_nodes k (tree k Own.call children_trees) ≡ 1) same_count (one_new (held_of b) Own.call children_trees all_denoted)

    call_bytes : new_bytes next (tree_of whole) ≡ 0
    unfolding bytes_of
    call_bytes = subst (λ k. new_bytes k (tree k Own.call children_trees) ≡ 0) same_count (its_bytes_alone (held_of b) Own.call children_trees all_denoted)

    call_built : HasRoom a (space next x whole) → Built a whole (space next x whole) c r
    call_built h =
        let l = pushed r p (nodes_left w.lists.grew 1 1 (omega arith) (subst (λ k. Takes next k (room a.nodes)) call_nodes h.for_nodes)) in
        built x whole (grows_twice w.lists.grew l.1) (l.0 ∙ ap Ok same_count)
        (denotes_at Own.call children_trees l.1 same_count (and_from (within (held b.entries) list.start list.len) true lies refl) refl
        (ap₂ (λ m ms. m ∷ ms) (sym stands.numbered) (reads ∙ list_denoted.0)) all_denoted)
        (sym call_nodes)
        (ap length (append-nil w.lists.numbers) ∙ how_many_stand (held_of b) w.lists.numbers (argument_parts xs) w.lists.stand ∙ sym call_entries) (sym call_bytes)

-- ---- the plan

-- The calls that were collected are those of the plan.
same_string : {f g : Expression} {u v : Units} {xss yss : List Arguments} → Chain.of_string f u xss ≡ Chain.of_string g v yss → xss ≡ yss
same_string e = cc

same_array : {f g : Expression} {xss yss : List Arguments} → Chain.of_array f xss ≡ Chain.of_array g yss → xss ≡ yss
same_array e = cc

abbrev ChainIs : Expression → Expression → List Arguments → Type 0
ChainIs x g xss = ((u : Units) × (chain_of x ≡ Chain.of_string g u xss)) ⊎ (chain_of x ≡ Chain.of_array g xss)

same_calls : (root : Root) (x f g : Expression) (xss yss : List Arguments) → Rooted root f xss (chain_of x) → ChainIs x g yss → xss ≡ yss
same_calls String x f g xss yss r (inl c) = same_string (sym r.1 ∙ c.1)
same_calls String x f g xss yss r (inr c) = absurd (cc (r.1, c))
same_calls Array x f g xss yss r (inl c) = absurd (cc (r, c.1))
same_calls Array x f g xss yss r (inr c) = same_array (sym r ∙ c)

module _ (a : Stores) (callee chain : ℕ) (k : ConcatChain) (calls : List (Run ℕ)) (found : Collects (held_of a) chain (Some k)) (same : calls ≡ calls_of k) where
  calls_stand : WithinLimits (held_of a) → (x g : Expression) (xss : List Arguments) → Stands (held_of a) chain (Part.expression x) → ChainIs x g xss → CallsStand (held_of a) calls xss
  calls_stand limits x g xss s c =
      let w = found limits.0 x s in
      subst (λ yss. CallsStand (held_of a) calls yss) (same_calls k.root x w.callee g w.calls xss w.rooted c) (subst (λ rs. CallsStand (held_of a) rs w.calls) (sym same) w.calls_stand)

  pub one_call_refused : (c : Stores) (r : Result ℕ Fault) → ((xss : List Arguments) → CallsStand (held_of a) calls xss → NoRoom a (argument_parts (flat xss))) → Builds a (OneCall callee chain) c r
  one_call_refused c r f limits x y plan writes has =
      of_form x plan.3
      (λ h. absurd (f plan.2 (calls_stand limits plan.1 plan.0 plan.2 plan.5 plan.6) (arguments_room a x plan.0 (flat plan.2) callee plan.4 h))) has

  pub one_call_built : (b c : Stores) (list : Run ℕ) (r : Result ℕ Fault) → ((xss : List Arguments) → CallsStand (held_of a) calls xss → ListedAt a (argument_parts (flat xss)) b list)
      → Pushes b (Call callee list) c r → Builds a (OneCall callee chain) c r
  one_call_built b c list r f p limits x y plan writes has =
      of_form x plan.3 (call_built a x plan.0 (flat plan.2) callee plan.4 b c list r (f plan.2 (calls_stand limits plan.1 plan.0 plan.2 plan.5 plan.6)) p) has
