-- The walks over a chain's calls and their arguments ask what the rules' programs ask.
use Rattle.std.proofs.Common.{◌≡◌, ℕ, zero, suc, ◌+◌, ◌-◌, ◌<◌, ◌≤◌, Bool, true, false, cond, not, List, [], ◌∷◌, length, take, drop, get_or, Some, None, Option, nat_lt, refl, sym, subst, ap, ◌∙◌, inl, inr, arith}
use Rattle.std.proofs.lemmas.Bool.{cases_lt}
use Rattle.std.proofs.lemmas.Bool.Decides.{nat_tests}
use Rattle.std.proofs.lemmas.List.{length-drop}
use Rattle.std.proofs.Math.Seq.{take-length}
use Rattle.tree.specs.declared.run.Run.{Run}
use Rattle.tree.specs.declared.node.Node.{Node}
use Rattle.tree.specs.declared.node.Node.TheVariants.{String, Number, Boolean, Null, Name, Hole, Spread, Array, StaticMember, ComputedMember, Call, Template, Quasi, Unary, Binary, Opaque}
use Rattle.tree.specs.Heap.{Held, entries_at, within}
use Rattle.meaning.specs.Expression.{Expression, Arguments}
use Rattle.meaning.specs.Parts.{Part}
use Rattle.host.specs.declared.value_type.ValueType.{ValueType}
use Rattle.host.specs.Answers.{Answers}
use Rattle.host.specs.Host.{Says}
use Rattle.rules.specs.Deciding.{Deciding, decided, unless_effects}
use Rattle.rules.specs.Interleaves.{settled}
use Rattle.rules.specs.Building.{append_arguments, flat}
use Rattle.rules.specs.Interleaving.{no_spread, none_left, interleaving, all_quiet}
use Rattle.rules.specs.Chain.{each_interleaving, is_array, all_read, all_still, calls_apart}
use Rattle.deciding.specs.Standing.{Stands, AllStand, argument_parts}
use Rattle.deciding.specs.Meant.{Meant}
use Rattle.deciding.specs.Arguments.{stored_at, any_spread, going, went, GoesOn, InterleavesOf}
use Rattle.deciding.specs.ConcatCalls.{CallsStand}
use Rattle.deciding.specs.ChainArguments.{is_array_record, LastArgumentOf, EachInterleavesOf, AllInterleaveOf, EffectsOf, StillOf, ReadLaterOf, ApartOf}
use Rattle.deciding.proofs.Picked.{same_expression, not_hole, not_a_spread, not_quasi}
use Rattle.deciding.proofs.Records.{recorded}
use Rattle.deciding.proofs.Counts.{at_record, spread_among}
use Rattle.deciding.proofs.Interleaves.{said}
use Rattle.deciding.proofs.Walks.{arguments_from, AtHead, at_head, at_end}
use Rattle.deciding.proofs.ChainWalks.{CallAt, call_at, behind_it, calls_end, calls_behind, flat_front, flat_none, spread_here}

false_true : {A : Type 0} → false ≡ true → A
false_true e = absurd (cc)

-- ---- each call by itself

each_front : (xs : Arguments) (xss : List Arguments) (d : Deciding) → each_interleaving (xs ∷ xss) d ≡ interleaving xs (each_interleaving xss d) Deciding.keep
unfolding each_interleaving
each_front xs xss d = refl

each_end : (d : Deciding) → each_interleaving [] d ≡ d
unfolding each_interleaving
each_end d = refl

-- What is left to ask is asked of the calls behind the first k.
pub record EachSoFar (a : Answers) (h : Held) (runs : List (Run ℕ)) (k : ℕ) : Type 0 where
  pub left : (xss : List Arguments) → CallsStand h runs xss → no_spread (flat xss) ≡ true → (d : Deciding) → decided a (each_interleaving xss d) ≡ decided a (each_interleaving (drop k xss) d)

pub each_begun : (a : Answers) (h : Held) (runs : List (Run ℕ)) → EachSoFar a h runs 0
each_begun a h runs = record { left = λ xss s t d. refl }

pub each_done : (a : Answers) (h : Held) (runs : List (Run ℕ)) (k : ℕ) → EachSoFar a h runs k → length runs ≤ k → EachInterleavesOf a h runs true
each_done a h runs k w le xss s t d = w.left xss s t d ∙ ap (λ z. decided a (each_interleaving z d)) (calls_end h runs k xss s le) ∙ ap (decided a) (each_end d)

module _ (a : Answers) (h : Held) (runs : List (Run ℕ)) (k : ℕ) (r : Run ℕ) (lt : k < length runs) where
  no_piece : {A : Type 0} (xss : List Arguments) → CallsStand h runs xss → within h.entries (get_or runs k r).start (get_or runs k r).len ≡ false → A
  no_piece xss s e = let c = call_at h runs k r xss s lt in false_true (sym e ∙ c.stand.0)

  pub each_unread : within h.entries (get_or runs k r).start (get_or runs k r).len ≡ false → EachInterleavesOf a h runs false
  each_unread e xss s t d = no_piece xss s e

  pub all_unread : within h.entries (get_or runs k r).start (get_or runs k r).len ≡ false → AllInterleaveOf a h runs false
  all_unread e xss s t d f = no_piece xss s e

  pub still_unread : within h.entries (get_or runs k r).start (get_or runs k r).len ≡ false → StillOf a h runs false
  still_unread e xss s d = no_piece xss s e

  pub apart_unread : within h.entries (get_or runs k r).start (get_or runs k r).len ≡ false → ApartOf a h runs false
  apart_unread e xss s d = no_piece xss s e

module _ (a : Answers) (h : Held) (runs : List (Run ℕ)) (k : ℕ) (r : Run ℕ) (ns : List ℕ) (is : ns ≡ entries_at h.entries (get_or runs k r)) (lt : k < length runs) where
  standing : (xss : List Arguments) (c : CallAt h runs k r xss) → AllStand h ns (argument_parts c.arguments)
  standing xss c = subst (λ z. AllStand h z (argument_parts c.arguments)) (sym is) c.stand.1

  each_here : (b : Bool) → EachSoFar a h runs k → InterleavesOf a h ns b → (xss : List Arguments) (s : CallsStand h runs xss) → no_spread (flat xss) ≡ true → (d : Deciding) (c : CallAt h runs k r xss)
      → decided a (each_interleaving xss d) ≡ decided a (cond b (each_interleaving c.rest d) Deciding.keep)
  each_here b w i xss s t d c =
      w.left xss s t d ∙ ap (λ z. decided a (each_interleaving z d)) c.here ∙ ap (decided a) (each_front c.arguments c.rest d)
      ∙ i c.arguments (standing xss c) (spread_here h runs k r xss c t) (each_interleaving c.rest d) Deciding.keep

  pub each_step : (b : Bool) → EachSoFar a h runs k → InterleavesOf a h ns b → b ≡ true → EachSoFar a h runs (k + 1)
  each_step b w i e = record {
    left = λ xss s t d.
        let c = call_at h runs k r xss s lt in
        each_here b w i xss s t d c ∙ ap (λ z. decided a (cond z (each_interleaving c.rest d) Deciding.keep)) e ∙ ap (λ z. decided a (each_interleaving z d)) (sym (behind_it h runs k r xss c));
  }

  pub each_refused : (b : Bool) → EachSoFar a h runs k → InterleavesOf a h ns b → b ≡ false → EachInterleavesOf a h runs false
  each_refused b w i e xss s t d =
      let c = call_at h runs k r xss s lt in each_here b w i xss s t d c ∙ ap (λ z. decided a (cond z (each_interleaving c.rest d) Deciding.keep)) e

-- ---- all together

pub record AllSoFar (a : Answers) (h : Held) (runs : List (Run ℕ)) (k : ℕ) (may : Bool) : Type 0 where
  pub left : (xss : List Arguments) → CallsStand h runs xss → no_spread (flat xss) ≡ true → (d e : Deciding) → decided a (interleaving (flat xss) d e) ≡ decided a (going may (flat (drop k xss)) d e)

pub all_begun : (a : Answers) (h : Held) (runs : List (Run ℕ)) → AllSoFar a h runs 0 false
all_begun a h runs = record { left = λ xss s t d e. refl }

nothing_asked : (a : Answers) (may : Bool) (d e : Deciding) → decided a (going may Arguments.no_arguments d e) ≡ decided a d
unfolding all_quiet interleaving
nothing_asked a true d e = refl
nothing_asked a false d e = refl

pub all_done : (a : Answers) (h : Held) (runs : List (Run ℕ)) (k : ℕ) (may : Bool) → AllSoFar a h runs k may → length runs ≤ k → AllInterleaveOf a h runs true
all_done a h runs k may w le xss s t d e =
    w.left xss s t d e ∙ ap (λ z. decided a (going may (flat z) d e)) (calls_end h runs k xss s le) ∙ ap (λ z. decided a (going may z d e)) flat_none ∙ nothing_asked a may d e

module _ (a : Answers) (h : Held) (runs : List (Run ℕ)) (k : ℕ) (r : Run ℕ) (ns : List ℕ) (is : ns ≡ entries_at h.entries (get_or runs k r)) (lt : k < length runs) (may followed : Bool) (w : AllSoFar a h runs k may)
    (count : ℕ) (last : LastArgumentOf runs count) (is_followed : followed ≡ nat_lt (k + 1) count) (found : Option Bool) (goes : GoesOn a h ns may followed found) where
  all_here : (xss : List Arguments) (s : CallsStand h runs xss) → no_spread (flat xss) ≡ true → (d e : Deciding) (c : CallAt h runs k r xss) → decided a (interleaving (flat xss) d e) ≡ went a (flat c.rest) d e found
  all_here xss s t d e c =
      w.left xss s t d e ∙ ap (λ z. decided a (going may (flat z) d e)) c.here ∙ ap (λ z. decided a (going may z d e)) (flat_front c.arguments c.rest)
      ∙ goes c.arguments (flat c.rest) (subst (λ z. AllStand h z (argument_parts c.arguments)) (sym is) c.stand.1) (spread_here h runs k r xss c t)
      (ap (λ z. none_left (flat z)) (sym (behind_it h runs k r xss c)) ∙ last h xss s (k + 1) ∙ ap not (sym is_followed)) d e

  pub all_step : (after : Bool) → found ≡ Some after → AllSoFar a h runs (k + 1) after
  all_step after e = record {
    left = λ xss s t d f.
        let c = call_at h runs k r xss s lt in
        all_here xss s t d f c ∙ ap (λ z. went a (flat c.rest) d f z) e ∙ ap (λ z. decided a (going after (flat z) d f)) (sym (behind_it h runs k r xss c));
  }

  pub all_refused : found ≡ None → AllInterleaveOf a h runs false
  all_refused e xss s t d f = let c = call_at h runs k r xss s lt in all_here xss s t d f c ∙ ap (λ z. went a (flat c.rest) d f z) e

-- ---- effects of the arguments of a call, as parts

abbrev parts_still : List Part → Deciding → Deciding
parts_still [] d = d
parts_still (p ∷ ps) d = Deciding.ask_effects p (λ b. unless_effects b (parts_still ps d) Deciding.keep)

unless_same : (a : Answers) (b : Bool) (d e : Deciding) → decided a d ≡ decided a e → decided a (unless_effects b d Deciding.keep) ≡ decided a (unless_effects b e Deciding.keep)
unfolding unless_effects
unless_same a true d e i = refl
unless_same a false d e i = i

ask_same : (a : Answers) (p : Part) (d e : Deciding) → decided a d ≡ decided a e
    → decided a (Deciding.ask_effects p (λ b. unless_effects b d Deciding.keep)) ≡ decided a (Deciding.ask_effects p (λ b. unless_effects b e Deciding.keep))
unfolding decided
ask_same a p d e i = unless_same a (a.effects p) d e i

as_parts : (a : Answers) (xs : Arguments) (d : Deciding) → decided a (all_still xs d) ≡ decided a (parts_still (argument_parts xs) d)
unfolding all_still argument_parts
as_parts a Arguments.no_arguments d = refl
as_parts a (Arguments.argument x xs) d = ask_same a (Part.expression x) (all_still xs d) (parts_still (argument_parts xs) d) (as_parts a xs d)
as_parts a (Arguments.spread_argument l x xs) d = ask_same a (Part.spread l x) (all_still xs d) (parts_still (argument_parts xs) d) (as_parts a xs d)

record PartAt (h : Held) (ns : List ℕ) (k : ℕ) (ps : List Part) : Type 0 where
  part : Part
  rest : List Part
  here : drop k ps ≡ part ∷ rest
  next : drop (suc k) ps ≡ rest
  stands : Stands h (get_or ns k 0) part

part_at : (h : Held) (ns : List ℕ) (k : ℕ) (ps : List Part) → AllStand h ns ps → k < length ns → PartAt h ns k ps
part_at h [] k ps s lt = absurd (omega arith)
part_at h (n ∷ ns) k [] s lt = absurd s
part_at h (n ∷ ns) zero (p ∷ ps) s lt = record { part = p; rest = ps; here = refl; next = refl; stands = s.0 }
part_at h (n ∷ ns) (suc k) (p ∷ ps) s lt =
    let w = part_at h ns k ps s.1 (omega arith) in record { part = w.part; rest = w.rest; here = w.here; next = w.next; stands = w.stands }

parts_end : (h : Held) (ns : List ℕ) (k : ℕ) (ps : List Part) → AllStand h ns ps → length ns ≤ k → drop k ps ≡ []
parts_end h [] zero [] s le = refl
parts_end h [] (suc k) [] s le = refl
parts_end h [] k (p ∷ ps) s le = absurd s
parts_end h (n ∷ ns) k [] s le = absurd s
parts_end h (n ∷ ns) zero (p ∷ ps) s le = absurd (omega arith)
parts_end h (n ∷ ns) (suc k) (p ∷ ps) s le = parts_end h ns k ps s.1 (omega arith)

pub record PartsSoFar (a : Answers) (h : Held) (ns : List ℕ) (k : ℕ) : Type 0 where
  left : (ps : List Part) → AllStand h ns ps → (d : Deciding) → decided a (parts_still ps d) ≡ decided a (parts_still (drop k ps) d)

pub parts_begun : (a : Answers) (h : Held) (ns : List ℕ) → PartsSoFar a h ns 0
parts_begun a h ns = record { left = λ ps s d. refl }

pub parts_done : (a : Answers) (h : Held) (ns : List ℕ) (k : ℕ) → PartsSoFar a h ns k → length ns ≤ k → EffectsOf a h ns false
parts_done a h ns k w le xs s d =
    as_parts a xs d ∙ w.left (argument_parts xs) s d ∙ ap (λ z. decided a (parts_still z d)) (parts_end h ns k (argument_parts xs) s le)

still_head : (a : Answers) (p : Part) (ps : List Part) (d : Deciding) (b : Bool) → b ≡ a.effects p → decided a (parts_still (p ∷ ps) d) ≡ decided a (unless_effects b (parts_still ps d) Deciding.keep)
unfolding decided
still_head a p ps d b i = ap (λ z. decided a (unless_effects z (parts_still ps d) Deciding.keep)) (sym i)

module _ (a : Answers) (h : Held) (ns : List ℕ) (k : ℕ) (w : PartsSoFar a h ns k) (lt : k < length ns) (b : Bool) (said_so : Says a.effects h (get_or ns k 0) b) where
  parts_here : (ps : List Part) (s : AllStand h ns ps) (d : Deciding) (c : PartAt h ns k ps) → decided a (parts_still ps d) ≡ decided a (unless_effects b (parts_still c.rest d) Deciding.keep)
  parts_here ps s d c = w.left ps s d ∙ ap (λ z. decided a (parts_still z d)) c.here ∙ still_head a c.part c.rest d b (said said_so c.stands)

  pub parts_step : b ≡ false → PartsSoFar a h ns (k + 1)
  unfolding unless_effects
  parts_step e = record {
    left = λ ps s d.
        let c = part_at h ns k ps s lt in
        let f : k + 1 ≡ suc k = omega arith in
        parts_here ps s d c ∙ ap (λ z. decided a (unless_effects z (parts_still c.rest d) Deciding.keep)) e ∙ ap (λ z. decided a (parts_still z d)) (sym (ap (λ m. drop m ps) f ∙ c.next));
  }

  pub parts_refused : b ≡ true → EffectsOf a h ns true
  unfolding unless_effects
  parts_refused e xs s d =
      let c = part_at h ns k (argument_parts xs) s lt in
      as_parts a xs d ∙ parts_here (argument_parts xs) s d c ∙ ap (λ z. decided a (unless_effects z (parts_still c.rest d) Deciding.keep)) e

-- ---- effects of the arguments of all calls

still_append : (a : Answers) (xs ys : Arguments) (d : Deciding) → decided a (all_still (append_arguments xs ys) d) ≡ decided a (all_still xs (all_still ys d))
unfolding all_still append_arguments
still_append a Arguments.no_arguments ys d = refl
still_append a (Arguments.argument x xs) ys d = ask_same a (Part.expression x) (all_still (append_arguments xs ys) d) (all_still xs (all_still ys d)) (still_append a xs ys d)
still_append a (Arguments.spread_argument l x xs) ys d = ask_same a (Part.spread l x) (all_still (append_arguments xs ys) d) (all_still xs (all_still ys d)) (still_append a xs ys d)

still_none : (d : Deciding) → all_still (flat []) d ≡ d
unfolding all_still flat
still_none d = refl

pub record StillSoFar (a : Answers) (h : Held) (runs : List (Run ℕ)) (k : ℕ) : Type 0 where
  pub left : (xss : List Arguments) → CallsStand h runs xss → (d : Deciding) → decided a (all_still (flat xss) d) ≡ decided a (all_still (flat (drop k xss)) d)

pub still_begun : (a : Answers) (h : Held) (runs : List (Run ℕ)) → StillSoFar a h runs 0
still_begun a h runs = record { left = λ xss s d. refl }

pub still_done : (a : Answers) (h : Held) (runs : List (Run ℕ)) (k : ℕ) → StillSoFar a h runs k → length runs ≤ k → StillOf a h runs true
still_done a h runs k w le xss s d = w.left xss s d ∙ ap (λ z. decided a (all_still (flat z) d)) (calls_end h runs k xss s le) ∙ ap (decided a) (still_none d)

module _ (a : Answers) (h : Held) (runs : List (Run ℕ)) (k : ℕ) (r : Run ℕ) (ns : List ℕ) (is : ns ≡ entries_at h.entries (get_or runs k r)) (lt : k < length runs) (w : StillSoFar a h runs k) (b : Bool) (effects : EffectsOf a h ns b) where
  still_here : (xss : List Arguments) (s : CallsStand h runs xss) (d : Deciding) (c : CallAt h runs k r xss) → decided a (all_still (flat xss) d) ≡ decided a (cond b Deciding.keep (all_still (flat c.rest) d))
  still_here xss s d c =
      w.left xss s d ∙ ap (λ z. decided a (all_still (flat z) d)) c.here ∙ ap (λ z. decided a (all_still z d)) (flat_front c.arguments c.rest) ∙ still_append a c.arguments (flat c.rest) d
      ∙ effects c.arguments (subst (λ z. AllStand h z (argument_parts c.arguments)) (sym is) c.stand.1) (all_still (flat c.rest) d)

  pub still_step : b ≡ false → StillSoFar a h runs (k + 1)
  still_step e = record {
    left = λ xss s d.
        let c = call_at h runs k r xss s lt in
        still_here xss s d c ∙ ap (λ z. decided a (cond z Deciding.keep (all_still (flat c.rest) d))) e ∙ ap (λ z. decided a (all_still (flat z) d)) (sym (behind_it h runs k r xss c));
  }

  pub still_refused : b ≡ true → StillOf a h runs false
  still_refused e xss s d = let c = call_at h runs k r xss s lt in still_here xss s d c ∙ ap (λ z. decided a (cond z Deciding.keep (all_still (flat c.rest) d))) e

-- ---- arguments that may be read later

array_by : {b : Bool} {x y : Expression} → y ≡ x → b ≡ is_array y → b ≡ is_array x
array_by e f = f ∙ ap is_array e

array_record : (h : Held) (r : Node) (x : Expression) → Meant h r (Part.expression x) → is_array_record r ≡ is_array x
unfolding is_array
array_record h (String t) x m = array_by (same_expression m.2) refl
array_record h (Number i) x m = array_by (same_expression m.1) refl
array_record h (Boolean i) x m = array_by (same_expression m.1) refl
array_record h Null x m = array_by (same_expression m.1) refl
array_record h (Name t) x m = array_by (same_expression m.2) refl
array_record h Hole x m = not_hole m.1
array_record h (Spread i) x m = not_a_spread m.2
array_record h (Array es) x m = array_by (same_expression m.2) refl
array_record h (StaticMember o t) x m = array_by (same_expression m.3) refl
array_record h (ComputedMember o i) x m = array_by (same_expression m.3) refl
array_record h (Call f es) x m = array_by (same_expression m.3) refl
array_record h (Template es) x m = array_by (same_expression m.2) refl
array_record h (Quasi i j) x m = not_quasi m.1
array_record h (Unary o i) x m = array_by (same_expression m.2) refl
array_record h (Binary o i j) x m = array_by (same_expression m.3) refl
array_record h (Opaque es i f) x m = array_by (same_expression m.2) refl

array_at : (h : Held) (n : ℕ) (x : Expression) → Stands h n (Part.expression x) → stored_at is_array_record h n ≡ is_array x
array_at h n x s =
    let r = recorded h n (Part.expression x) s in at_record is_array_record h n (Part.expression x) r ∙ array_record h r.node x r.says

array_head : (a : Answers) (x : Expression) (xs : Arguments) (d e : Deciding) → is_array x ≡ true → decided a (all_read (Arguments.argument x xs) d e) ≡ decided a (all_read xs d e)
unfolding all_read
array_head a x xs d e i = rw i refl

type_head : (a : Answers) (x : Expression) (xs : Arguments) (d e : Deciding) (t : ValueType) → is_array x ≡ false → t ≡ a.value_type (Part.expression x)
    → decided a (all_read (Arguments.argument x xs) d e) ≡ decided a (cond (settled t) (all_read xs d e) e)
unfolding all_read decided
type_head a x xs d e t i f = rw (i, f) refl

read_none : (d e : Deciding) → all_read Arguments.no_arguments d e ≡ d
unfolding all_read
read_none d e = refl

pub record ReadSoFar (a : Answers) (h : Held) (ns : List ℕ) (k : ℕ) : Type 0 where
  pub left : (xs : Arguments) → AllStand h ns (argument_parts xs) → no_spread xs ≡ true → (d e : Deciding) → decided a (all_read xs d e) ≡ decided a (all_read (arguments_from k xs) d e)

pub read_begun : (a : Answers) (h : Held) (ns : List ℕ) → ReadSoFar a h ns 0
unfolding arguments_from
read_begun a h ns = record { left = λ xs s t d e. refl }

module _ (a : Answers) (h : Held) (ns : List ℕ) (b : Bool) (spread : b ≡ any_spread h ns) where
  pub read_spread : b ≡ true → ReadLaterOf a h ns false
  read_spread i xs s d e = ap (λ z. decided a (cond z (all_read xs d e) e)) (spread_among h ns xs s ∙ ap not (sym spread ∙ i))

  unspread : b ≡ false → (xs : Arguments) → AllStand h ns (argument_parts xs) → no_spread xs ≡ true
  unspread i xs s = spread_among h ns xs s ∙ ap not (sym spread ∙ i)

  pub read_done : (k : ℕ) → b ≡ false → ReadSoFar a h ns k → length ns ≤ k → ReadLaterOf a h ns true
  read_done k i w le xs s d e =
      ap (λ z. decided a (cond z (all_read xs d e) e)) (unspread i xs s) ∙ w.left xs s (unspread i xs s) d e ∙ ap (λ z. decided a (all_read z d e)) (at_end h ns k xs s le) ∙ ap (decided a) (read_none d e)

  module _ (k : ℕ) (w : ReadSoFar a h ns k) (lt : k < length ns) where
    read_here : (xs : Arguments) (s : AllStand h ns (argument_parts xs)) (t : no_spread xs ≡ true) (d e : Deciding) (c : AtHead h ns k xs) → decided a (all_read xs d e) ≡ decided a (all_read (Arguments.argument c.head c.rest) d e)
    read_here xs s t d e c = w.left xs s t d e ∙ ap (λ z. decided a (all_read z d e)) c.here

    after_it : (xs : Arguments) (c : AtHead h ns k xs) → arguments_from (k + 1) xs ≡ c.rest
    after_it xs c = let f : k + 1 ≡ suc k = omega arith in ap (λ m. arguments_from m xs) f ∙ c.next

    pub array_step : (array : Bool) → array ≡ stored_at is_array_record h (get_or ns k 0) → array ≡ true → ReadSoFar a h ns (k + 1)
    array_step array f i = record {
      left = λ xs s t d e.
          let c = at_head h ns k xs s t lt in
          read_here xs s t d e c ∙ array_head a c.head c.rest d e (sym (array_at h (get_or ns k 0) c.head c.stands) ∙ sym f ∙ i) ∙ ap (λ z. decided a (all_read z d e)) (sym (after_it xs c));
    }

    module _ (array : Bool) (is : array ≡ stored_at is_array_record h (get_or ns k 0)) (not_array : array ≡ false) (t : ValueType) (said_so : Says a.value_type h (get_or ns k 0) t) (is_settled : Bool) (by_type : is_settled ≡ settled t) where
      type_here : (xs : Arguments) (s : AllStand h ns (argument_parts xs)) (n : no_spread xs ≡ true) (d e : Deciding) (c : AtHead h ns k xs) → decided a (all_read xs d e) ≡ decided a (cond is_settled (all_read c.rest d e) e)
      type_here xs s n d e c =
          read_here xs s n d e c ∙ type_head a c.head c.rest d e t (sym (array_at h (get_or ns k 0) c.head c.stands) ∙ sym is ∙ not_array) (said said_so c.stands)
          ∙ ap (λ z. decided a (cond z (all_read c.rest d e) e)) (sym by_type)

      pub type_step : is_settled ≡ true → ReadSoFar a h ns (k + 1)
      type_step i = record {
        left = λ xs s n d e.
            let c = at_head h ns k xs s n lt in
            type_here xs s n d e c ∙ ap (λ z. decided a (cond z (all_read c.rest d e) e)) i ∙ ap (λ z. decided a (all_read z d e)) (sym (after_it xs c));
      }

      pub type_refused : b ≡ false → is_settled ≡ false → ReadLaterOf a h ns false
      type_refused f i xs s d e =
          let n = unspread f xs s in
          let c = at_head h ns k xs s n lt in
          ap (λ z. decided a (cond z (all_read xs d e) e)) n ∙ type_here xs s n d e c ∙ ap (λ z. decided a (cond z (all_read c.rest d e) e)) i

-- ---- calls of an array

take_rest : (k : ℕ) (runs : List (Run ℕ)) → take (length runs - k) (drop k runs) ≡ drop k runs
take_rest k runs = ap (λ m. take m (drop k runs)) (sym (length-drop k runs)) ∙ take-length (drop k runs)

apart_front : (xs : Arguments) (xss : List Arguments) (d : Deciding)
    → calls_apart (xs ∷ xss) d ≡ cond (none_left (flat xss)) d (cond (no_spread xs) (all_read xs (calls_apart xss d) (all_still (flat xss) d)) (all_still (flat xss) d))
unfolding calls_apart
apart_front xs xss d = refl

apart_end : (d : Deciding) → calls_apart [] d ≡ d
unfolding calls_apart
apart_end d = refl

-- The calls before the one that is before `later` are done with.
pub record ApartSoFar (a : Answers) (h : Held) (runs : List (Run ℕ)) (later : ℕ) : Type 0 where
  pub positive : 1 ≤ later
  pub left : (xss : List Arguments) → CallsStand h runs xss → (d : Deciding) → decided a (calls_apart xss d) ≡ decided a (calls_apart (drop (later - 1) xss) d)

pub apart_begun : (a : Answers) (h : Held) (runs : List (Run ℕ)) → ApartSoFar a h runs 1
apart_begun a h runs = record { positive = omega arith; left = λ xss s d. refl }

module _ (a : Answers) (h : Held) (runs : List (Run ℕ)) (later count : ℕ) (last : LastArgumentOf runs count) (w : ApartSoFar a h runs later) where
  is_behind : suc (later - 1) ≡ later
  is_behind = let p = w.positive in omega (arith, p)

  rest_is : (r : Run ℕ) (xss : List Arguments) (c : CallAt h runs (later - 1) r xss) → drop later xss ≡ c.rest
  rest_is r xss c = ap (λ m. drop m xss) (sym is_behind) ∙ c.next

  pub apart_done : count ≤ later → ApartOf a h runs true
  apart_done le xss s d =
      elim (cases_lt (later - 1) (length runs)) [
        | inl lt ↦
            let c = call_at h runs (later - 1) (record { start = 0; len = 0; of = record {} }) xss s lt in
            w.left xss s d ∙ ap (λ z. decided a (calls_apart z d)) c.here ∙ ap (decided a) (apart_front c.arguments c.rest d)
            ∙ ap (λ z. decided a (cond z d (cond (no_spread c.arguments) (all_read c.arguments (calls_apart c.rest d) (all_still (flat c.rest) d)) (all_still (flat c.rest) d))))
            (ap (λ z. none_left (flat z)) (sym (rest_is (record { start = 0; len = 0; of = record {} }) xss c)) ∙ last h xss s later ∙ ap not (is_not_less later count le))
        | inr ge ↦ w.left xss s d ∙ ap (λ z. decided a (calls_apart z d)) (calls_end h runs (later - 1) xss s ge) ∙ ap (decided a) (apart_end d)
      ]
    where
      is_not_less : (k m : ℕ) → m ≤ k → nat_lt k m ≡ false
      is_not_less k m e = grind (arith, nat_tests)

  module _ (lt : later < count) (r : Run ℕ) (ns : List ℕ) (is : ns ≡ entries_at h.entries (get_or runs (later - 1) r)) (within_runs : count ≤ length runs) (b : Bool) (reads : ReadLaterOf a h ns b) where
    at_it : (xss : List Arguments) → CallsStand h runs xss → CallAt h runs (later - 1) r xss
    at_it xss s = let p = w.positive in call_at h runs (later - 1) r xss s (omega (arith, lt, within_runs, p))

    apart_here : (xss : List Arguments) (s : CallsStand h runs xss) (d : Deciding) (c : CallAt h runs (later - 1) r xss) → decided a (calls_apart xss d) ≡ decided a (cond b (calls_apart c.rest d) (all_still (flat c.rest) d))
    apart_here xss s d c =
        w.left xss s d ∙ ap (λ z. decided a (calls_apart z d)) c.here ∙ ap (decided a) (apart_front c.arguments c.rest d)
        ∙ ap (λ z. decided a (cond z d (cond (no_spread c.arguments) (all_read c.arguments (calls_apart c.rest d) (all_still (flat c.rest) d)) (all_still (flat c.rest) d))))
        (ap (λ z. none_left (flat z)) (sym (rest_is r xss c)) ∙ last h xss s later ∙ ap not (is_less later count lt))
        ∙ reads c.arguments (subst (λ z. AllStand h z (argument_parts c.arguments)) (sym is) c.stand.1) (calls_apart c.rest d) (all_still (flat c.rest) d)
      where
        is_less : (k m : ℕ) → k < m → nat_lt k m ≡ true
        is_less k m e = grind (arith, nat_tests)

    pub apart_step : b ≡ true → ApartSoFar a h runs (later + 1)
    apart_step e = record {
      positive = omega arith;
      left = λ xss s d.
          let c = at_it xss s in
          let f : later + 1 - 1 ≡ later = omega arith in
          apart_here xss s d c ∙ ap (λ z. decided a (cond z (calls_apart c.rest d) (all_still (flat c.rest) d))) e
          ∙ ap (λ z. decided a (calls_apart z d)) (sym (ap (λ m. drop m xss) f ∙ rest_is r xss c));
    }

    pub apart_refused : b ≡ false → (still : Bool) → StillOf a h (take (length runs - later) (drop later runs)) still → ApartOf a h runs still
    apart_refused e still f xss s d =
        let c = at_it xss s in
        apart_here xss s d c ∙ ap (λ z. decided a (cond z (calls_apart c.rest d) (all_still (flat c.rest) d))) e
        ∙ ap (λ z. decided a (all_still (flat z) d)) (sym (rest_is r xss c)) ∙ f (drop later xss) (subst (λ z. CallsStand h z (drop later xss)) (sym (take_rest later runs)) (calls_behind h runs later xss s)) d
