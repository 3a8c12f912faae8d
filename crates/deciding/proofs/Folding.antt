-- What the rule `method` decides of each known method.
use Rattle.std.proofs.Common.{◌≡◌, ℕ, zero, suc, ◌+◌, ◌-◌, ◌*◌, ◌<◌, ◌≢◌, Bool, true, false, cond, not, ◌&&◌, nat_le, List, length, Some, None, Option, refl, sym, subst, ap, ◌∙◌, arith}
use Rattle.std.proofs.lemmas.Bool.Decides.{nat_tests}
use Rattle.tree.specs.declared.run.Run.{Run}
use Rattle.tree.specs.Heap.{Held, entries_at}
use Rattle.host.specs.Answers.{Answers}
use Rattle.meaning.specs.Expression.{Expression, Elements, Arguments, Units}
use Rattle.meaning.specs.Parts.{Part}
use Rattle.rules.specs.Deciding.{Deciding, decided, when}
use Rattle.rules.specs.Places.{Settings}
use Rattle.rules.specs.Building.{append_elements, joined, with_object}
use Rattle.rules.specs.Interleaves.{argument_count, string_count, expression_count}
use Rattle.rules.specs.Interleaving.{no_spread, none_left, interleaving, short}
use Rattle.rules.specs.Taking.{Leading, leading, taken, left, left_with, taken_count, taken_count_with}
use Rattle.rules.specs.Method.{array_left, array_concat, string_concat}
use Rattle.host.proofs.Knowing.{false_true}
use Rattle.deciding.specs.Standing.{Stands, AllStand, argument_parts, ListsArguments, ListsElements, Spells}
use Rattle.deciding.specs.Plans.{DecisionOf, NamesMethod}
use Rattle.deciding.specs.declared.plan.Decision.{Decision}
use Rattle.deciding.specs.declared.plan.Decision.TheVariants.{Kept, Rewritten}
use Rattle.deciding.specs.declared.plan.Plan.TheVariants.{Existing, Merged, ConcatLeft, Joined}
use Rattle.deciding.specs.declared.plan.Calls.TheVariants.{One}
use Rattle.deciding.specs.Arguments.{expressions_among, leading_taken, any_spread, InterleavesOf}
use Rattle.deciding.proofs.Walks.{none_behind, more_behind}
use Rattle.deciding.proofs.Counts.{how_many, spread_among, expressions, strings, leading_ones}

-- A decision of no expression, and of one.
pub kept : (h : Held) {o : Option Expression} → o ≡ None → DecisionOf h o Kept
kept h {o} e = subst (λ p. DecisionOf h p Kept) (sym e) tt

pub becomes : (h : Held) (d : Decision) {o : Option Expression} {y : Expression} → o ≡ Some y → DecisionOf h (Some y) d → DecisionOf h o d
becomes h d {o} {y} e p = subst (λ q. DecisionOf h q d) (sym e) p

-- ---- of an array

left_or_taken : (x : Expression) (t : Leading) (xs ys : Arguments) (k : ℕ) → argument_count ys + k ≡ argument_count xs → argument_count (left_with x t xs ys) + taken_count_with t k ≡ suc (argument_count xs)
unfolding argument_count left_with taken_count_with
left_or_taken x Leading.literal xs ys k e = omega (arith, e)
left_or_taken x (Leading.gives fs) xs ys k e = omega (arith, e)
left_or_taken x Leading.other xs ys k e = omega arith

-- What is not taken in is left.
all_or_some : (xs : Arguments) → argument_count (left xs) + taken_count xs ≡ argument_count xs
unfolding argument_count left taken_count
all_or_some Arguments.no_arguments = refl
all_or_some (Arguments.argument x xs) = left_or_taken x (leading x) xs (left xs) (taken_count xs) (all_or_some xs)
all_or_some (Arguments.spread_argument l x xs) = omega arith

none_of_count : (xs : Arguments) → argument_count xs ≡ 0 → xs ≡ Arguments.no_arguments
unfolding argument_count
none_of_count Arguments.no_arguments e = refl
none_of_count (Arguments.argument x xs) e = absurd (omega arith)
none_of_count (Arguments.spread_argument l x xs) e = absurd (omega arith)

more_of_count : (xs : Arguments) → 0 < argument_count xs → none_left xs ≡ false
unfolding argument_count none_left
more_of_count Arguments.no_arguments e = absurd (omega arith)
more_of_count (Arguments.argument x xs) e = refl
more_of_count (Arguments.spread_argument l x xs) e = refl

module _ (a : Answers) (next j : ℕ) (f : Expression) (es : Elements) where
  itself : decided a (array_concat next f j es Arguments.no_arguments (taken_count Arguments.no_arguments)) ≡ Some (Expression.array j es)
  unfolding array_concat taken_count decided when none_left
  itself = refl

  none_taken : (xs : Arguments) (k : ℕ) → k ≡ 0 → none_left xs ≡ false → decided a (array_concat next f j es xs k) ≡ None
  unfolding array_concat decided when
  none_taken xs zero e n = rw n refl
  none_taken xs (suc k) e n = absurd (omega arith)

  all_taken : (xs : Arguments) (k : ℕ) → 0 < k → left xs ≡ Arguments.no_arguments → decided a (array_concat next f j es xs k) ≡ Some (Expression.array next (append_elements es (taken xs)))
  unfolding array_concat array_left decided
  all_taken xs zero e n = absurd (omega arith)
  all_taken xs (suc k) e n = rw n refl

  some_left : (xs ys : Arguments) (k : ℕ) → 0 < k → none_left ys ≡ false → left xs ≡ ys
      → decided a (array_concat next f j es xs k) ≡ Some (Expression.call (next + 2) (with_object (next + 1) f (Expression.array next (append_elements es (taken xs)))) ys)
  unfolding array_concat array_left decided none_left
  some_left xs ys zero e n l = absurd (omega arith)
  some_left xs Arguments.no_arguments (suc k) e n l = false_true (sym n)
  some_left xs (Arguments.argument y ys) (suc k) e n l = rw l refl
  some_left xs (Arguments.spread_argument m y ys) (suc k) e n l = rw l refl

module _ (h : Held) (a : Answers) (f : Expression) (j : ℕ) (es : Elements) (xs : Arguments) (arguments : Run ℕ) (ns : List ℕ) (listed : ns ≡ entries_at h.entries arguments) (lists : ListsArguments h arguments xs) where
  all_stand : AllStand h ns (argument_parts xs)
  all_stand = subst (λ ms. AllStand h ms (argument_parts xs)) (sym listed) lists.1

  -- The array itself; or it is kept; or one array, of all arguments; or a call with those that are left.
  pub fold_itself : (object : ℕ) → Stands h object (Part.expression (Expression.array j es)) → length ns ≡ 0 → DecisionOf h (decided a (array_concat (length h.nodes) f j es xs (taken_count xs))) (Rewritten (Existing object))
  fold_itself object o e =
      let none = none_behind h ns xs all_stand (omega arith) in
      becomes h (Rewritten (Existing object)) (ap (λ ys. decided a (array_concat (length h.nodes) f j es ys (taken_count ys))) none ∙ itself a (length h.nodes) j f es) o

  pub fold_none : (count : ℕ) → 0 < length ns → count ≡ leading_taken h ns → count ≡ 0 → DecisionOf h (decided a (array_concat (length h.nodes) f j es xs (taken_count xs))) Kept
  fold_none count e t z = kept h (none_taken a (length h.nodes) j f es xs (taken_count xs) (sym (leading_ones h ns xs all_stand) ∙ sym t ∙ z) (more_behind h ns xs all_stand e))

  pub fold_all : (count : ℕ) (elements : Run ℕ) → ListsElements h elements es → count ≡ leading_taken h ns → count ≢ 0 → count ≡ length ns
      → DecisionOf h (decided a (array_concat (length h.nodes) f j es xs (taken_count xs))) (Rewritten (Merged elements arguments))
  fold_all count elements se t z e =
      let k = leading_ones h ns xs all_stand in
      let n = how_many h ns xs all_stand in
      let c = all_or_some xs in
      becomes h (Rewritten (Merged elements arguments)) (all_taken a (length h.nodes) j f es xs (taken_count xs) (omega (arith, k, t, z)) (none_of_count (left xs) (omega (arith, k, n, c, t, e)))) (es, xs, refl, se, lists)

  pub fold_some : (count callee : ℕ) (elements : Run ℕ) → NamesMethod h callee f → ListsElements h elements es → count ≡ leading_taken h ns → count ≢ 0 → count ≢ length ns
      → DecisionOf h (decided a (array_concat (length h.nodes) f j es xs (taken_count xs))) (Rewritten (ConcatLeft callee elements arguments count))
  fold_some count callee elements sf se t z e =
      let k = leading_ones h ns xs all_stand in
      let n = how_many h ns xs all_stand in
      let c = all_or_some xs in
      becomes h (Rewritten (ConcatLeft callee elements arguments count)) (some_left a (length h.nodes) j f es xs (left xs) (taken_count xs) (omega (arith, k, t, z)) (more_of_count (left xs) (omega (arith, k, n, c, t, e))) refl)
      (f, es, xs, refl, t ∙ k, sf, se, lists)

-- ---- of a string

-- As the code counts, and as the rules do.
is_short : (xs : Arguments) (n e : ℕ) → n ≡ argument_count xs → e ≡ expression_count xs → nat_le (3 * e) (9 + n + 2 * (n - e)) ≡ short 1 xs
unfolding short
is_short xs n e i k =
    let c = strings xs in
    let m : n - e ≡ string_count xs = omega (arith, c, i, k) in
    rw (m, i, k) refl

at_least_one : (n : ℕ) → 0 < n → nat_le 1 n ≡ true
at_least_one n e = grind (arith, nat_tests)

pub and-false : (b : Bool) → (b && false) ≡ false
and-false true = refl
and-false false = refl

module _ (a : Answers) (s : Settings) (next : ℕ) (u : Units) (xs : Arguments) where
  string_kept : s.templates && (nat_le 1 (argument_count xs) && (no_spread xs && short 1 xs)) ≡ false → decided a (string_concat s next u xs) ≡ None
  unfolding string_concat when decided
  string_kept e = rw e refl

  string_asked : s.templates && (nat_le 1 (argument_count xs) && (no_spread xs && short 1 xs)) ≡ true
      → decided a (string_concat s next u xs) ≡ decided a (interleaving xs (Deciding.becomes (joined next u xs)) Deciding.keep)
  unfolding string_concat when
  string_asked e = rw e refl

module _ (h : Held) (a : Answers) (s : Settings) (u : Units) (xs : Arguments) (arguments : Run ℕ) (ns : List ℕ) (listed : ns ≡ entries_at h.entries arguments) (lists : ListsArguments h arguments xs) where
  stand : AllStand h ns (argument_parts xs)
  stand = subst (λ ms. AllStand h ms (argument_parts xs)) (sym listed) lists.1

  -- It is kept for each test that fails, in the code's order; and else joined.
  pub empty_kept : length ns ≡ 0 → DecisionOf h (decided a (string_concat s (length h.nodes) u xs)) Kept
  empty_kept e =
      let none : nat_le 1 (argument_count xs) ≡ false = ap (λ n. nat_le 1 n) (sym (how_many h ns xs stand) ∙ e) in
      kept h (string_kept a s (length h.nodes) u xs (rw none (and-false s.templates)))

  pub spread_kept : any_spread h ns ≡ true → DecisionOf h (decided a (string_concat s (length h.nodes) u xs)) Kept
  spread_kept e =
      let none : no_spread xs ≡ false = spread_among h ns xs stand ∙ ap not e in
      kept h (string_kept a s (length h.nodes) u xs (rw (none, and-false (nat_le 1 (argument_count xs)), and-false s.templates) refl))

  shortness : (e : ℕ) → e ≡ expressions_among h ns → nat_le (3 * e) (9 + length ns + 2 * (length ns - e)) ≡ short 1 xs
  shortness e t = is_short xs (length ns) e (how_many h ns xs stand) (t ∙ expressions h ns xs stand)

  pub long_kept : (e : ℕ) → e ≡ expressions_among h ns → nat_le (3 * e) (9 + length ns + 2 * (length ns - e)) ≡ false → DecisionOf h (decided a (string_concat s (length h.nodes) u xs)) Kept
  long_kept e t f =
      let long = sym (shortness e t) ∙ f in
      kept h (string_kept a s (length h.nodes) u xs (rw (long, and-false (no_spread xs), and-false (nat_le 1 (argument_count xs)), and-false s.templates) refl))

  unspread : any_spread h ns ≡ false → no_spread xs ≡ true
  unspread e = spread_among h ns xs stand ∙ ap not e

  asked_or_kept : (b : Bool) → s.templates && (nat_le 1 (argument_count xs) && (no_spread xs && short 1 xs)) ≡ b → decided a (interleaving xs (Deciding.becomes (joined (length h.nodes) u xs)) Deciding.keep) ≡ None
      → decided a (string_concat s (length h.nodes) u xs) ≡ None
  asked_or_kept true e k = string_asked a s (length h.nodes) u xs e ∙ k
  asked_or_kept false e k = string_kept a s (length h.nodes) u xs e

  pub apart_kept : (b : Bool) → any_spread h ns ≡ false → InterleavesOf a h ns b → b ≡ false → DecisionOf h (decided a (string_concat s (length h.nodes) u xs)) Kept
  unfolding decided
  apart_kept b e i f = kept h (asked_or_kept _ refl (i xs stand (unspread e) (Deciding.becomes (joined (length h.nodes) u xs)) Deciding.keep ∙ ap (λ c. decided a (cond c (Deciding.becomes (joined (length h.nodes) u xs)) Deciding.keep)) f))

  pub fold_joined : (b : Bool) (e : ℕ) (base : Run ℕ) → s.templates ≡ true → Spells h base u → 0 < length ns → any_spread h ns ≡ false → e ≡ expressions_among h ns
      → nat_le (3 * e) (9 + length ns + 2 * (length ns - e)) ≡ true → InterleavesOf a h ns b → b ≡ true → DecisionOf h (decided a (string_concat s (length h.nodes) u xs)) (Rewritten (Joined (One base arguments)))
  unfolding decided
  fold_joined b e base templates text more spread t short_enough i f =
      let some : nat_le 1 (argument_count xs) ≡ true = ap (λ n. nat_le 1 n) (sym (how_many h ns xs stand)) ∙ at_least_one (length ns) more in
      let is_so : s.templates && (nat_le 1 (argument_count xs) && (no_spread xs && short 1 xs)) ≡ true = rw (templates, some, unspread spread, sym (shortness e t) ∙ short_enough) refl in
      becomes h (Rewritten (Joined (One base arguments)))
      (string_asked a s (length h.nodes) u xs is_so ∙ i xs stand (unspread spread) (Deciding.becomes (joined (length h.nodes) u xs)) Deciding.keep
      ∙ ap (λ c. decided a (cond c (Deciding.becomes (joined (length h.nodes) u xs)) Deciding.keep)) f)
      (u, xs, refl, text, lists)
