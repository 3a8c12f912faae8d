-- What a plan needs is the space that the rules count.
use Rattle.std.proofs.Common.{◌≡◌, ℕ, ◌+◌, ◌≤◌, true, false, cond, ◌⊎◌, inl, inr, List, [], ◌∷◌, length, nat_le, refl, sym, subst, ap, ◌∙◌, arith}
use Rattle.std.proofs.lemmas.Bool.Decides.{nat_tests}
use Rattle.text.specs.Stored.{stored}
use Rattle.store.specs.declared.stores.Counts.{Counts}
use Rattle.tree.specs.declared.node.UnaryOperator.TheVariants.{Plus, Void}
use Rattle.tree.specs.declared.node.BinaryOperator.TheVariants.{Exponentiation}
use Rattle.tree.specs.declared.run.Run.{Run}
use Rattle.tree.specs.Tree.{Own, tree, none, more, Denotes, DenoteAll}
use Rattle.tree.specs.Heap.{Held, look}
use Rattle.meaning.specs.Expression.{Expression, Elements, Arguments, Units}
use Rattle.meaning.specs.Trees.{tree_of, element_trees, argument_trees}
use Rattle.rules.specs.Building.{elements_of, append_elements, append_arguments, flat, joined, with_object, void_zero}
use Rattle.rules.specs.Chain.{Chain, chain_of}
use Rattle.rules.specs.Interleaves.{argument_count}
use Rattle.rules.specs.Method.{Callee, callee_of}
use Rattle.rules.specs.Space.{bytes_of, element_count, elements_from, elements_or_arguments, entries_of_call, new_entries, space}
use Rattle.rules.specs.Taking.{taken, left}
use Rattle.deciding.specs.declared.plan.Plan.{Plan}
use Rattle.deciding.specs.declared.plan.Plan.TheVariants.{Existing, Unit as UnitPlan, VoidZero, Power, ArrayOf, Merged, ConcatLeft, OneCall, Joined}
use Rattle.deciding.specs.declared.plan.Exponent.TheVariants.{Number, Coerced}
use Rattle.deciding.specs.declared.plan.Calls.TheVariants.{One, Chain as ChainOf}
use Rattle.deciding.specs.Needs.{PutsIn, StoresUnit, MergesTo, CountsChain, JoinsTo, JoinsChain, NeedOf, calls_in}
use Rattle.deciding.proofs.Spaces.{Takes, takes_nothing, takes_both, takes_new, space_is, held_number, entries_held, denoted, all_denoted, elements_held, arguments_held, append_held, as_elements_held, taken_held, left_held, chain_arguments_held, joined_space}

-- ---- entries

at_new : (next l n : ℕ) → next ≤ l → n ≡ cond (nat_le next l) n 0
at_new next l n le = let e : nat_le next l ≡ true = grind (arith, nat_tests) in rw e refl

array_entries : (next : ℕ) (x : Expression) (es : Elements) → elements_from x es ≡ new_entries next x (Expression.array next es)
unfolding new_entries
array_entries next x es = at_new next next (elements_from x es) (omega arith)

call_entries : (next l : ℕ) (x f : Expression) (xs : Arguments) → next ≤ l → entries_of_call next f xs ≡ new_entries next x (Expression.call l f xs)
unfolding new_entries
call_entries next l x f xs le = at_new next l (entries_of_call next f xs) le

-- All arguments, where the callee's object is no new array.
or_arguments : (h : Held) (o : Expression) (xs : Arguments) → Denotes (look h) (tree_of o) → argument_count xs ≡ elements_or_arguments (length h.nodes) o xs
unfolding elements_or_arguments
or_arguments h (Expression.array j es) xs d =
    let old = held_number h j _ d.0 in
    let e : nat_le (length h.nodes) j ≡ false = grind (arith, nat_tests) in
    rw e refl
or_arguments h o xs d = refl

one_call_entries : (h : Held) (g : Expression) (xs : Arguments) → Denotes (look h) (tree_of g) → argument_count xs ≡ entries_of_call (length h.nodes) g xs
unfolding entries_of_call
one_call_entries h (Expression.static_member m o k) xs d = or_arguments h o xs d.1.0
one_call_entries h (Expression.computed_member m o k) xs d = or_arguments h o xs d.1.0
one_call_entries h g xs d = refl

calls_are : (c : Chain) (g : Expression) (xss : List Arguments) → ((u : Units) × (c ≡ Chain.of_string g u xss)) ⊎ (c ≡ Chain.of_array g xss) → calls_in c ≡ xss
unfolding calls_in
calls_are c g xss (inl e) = ap calls_in e.1
calls_are c g xss (inr e) = ap calls_in e

-- ---- a new member of a new array

record WithArray (next : ℕ) (g : Expression) (es : Elements) : Type 0 where
  takes : Takes next (tree_of (with_object (next + 1) g (Expression.array next es))) 2 0
  entries : (xs : Arguments) → element_count es ≡ entries_of_call next (with_object (next + 1) g (Expression.array next es)) xs

array_takes : (h : Held) (es : Elements) → DenoteAll (look h) (element_trees es) → Takes (length h.nodes) (tree_of (Expression.array (length h.nodes) es)) 1 0
unfolding bytes_of
array_takes h es d = takes_new (length h.nodes) (length h.nodes) Own.array (element_trees es) 0 0 (omega arith) (all_denoted h (element_trees es) d)

at_array : (next : ℕ) (es : Elements) (xs : Arguments) → element_count es ≡ elements_or_arguments next (Expression.array next es) xs
unfolding elements_or_arguments
at_array next es xs = let e : nat_le next next ≡ true = grind (arith, nat_tests) in rw e refl

with_array : (h : Held) (g o : Expression) (k : Units) (es : Elements) → callee_of g ≡ Callee.method o k → Denotes (look h) (tree_of g) → DenoteAll (look h) (element_trees es) → WithArray (length h.nodes) g es
unfolding callee_of with_object entries_of_call elements_or_arguments bytes_of
with_array h (Expression.static_member m o p) q k es e d held =
    let next = length h.nodes in
    let a = array_takes h es held in
    let t = takes_new next (next + 1) (Own.static_member (stored p)) (more (tree_of (Expression.array next es)) none) _ _ (omega arith) (takes_both next (tree_of (Expression.array next es)) none 1 0 0 0 a (takes_nothing next)) in
    record { takes = t; entries = λ xs. at_array next es xs }
with_array h (Expression.computed_member m o y) q k es e d held =
    let next = length h.nodes in
    let a = array_takes h es held in
    let t = takes_new next (next + 1) Own.computed_member (more (tree_of (Expression.array next es)) (more (tree_of y) none)) _ _ (omega arith)
    (takes_both next (tree_of (Expression.array next es)) (more (tree_of y) none) 1 0 0 0 a (takes_both next (tree_of y) none 0 0 0 0 (denoted h (tree_of y) d.1.1.0) (takes_nothing next))) in
    record { takes = t; entries = λ xs. at_array next es xs }
with_array h g q k es e d held = absurd (cc)

-- ---- each plan

module _ (h : Held) where
  abbrev next : ℕ
  next = length h.nodes

  pub by_plan : {plan known : Plan} (need : Counts) → plan ≡ known → NeedOf h known need → NeedOf h plan need
  by_plan need e f = subst (λ p. NeedOf h p need) (sym e) f

  counted : (x y z : Expression) (nodes entries n b : ℕ) (need : Counts) → PutsIn nodes entries need → y ≡ z → Takes next (tree_of z) n b → nodes ≡ n → entries ≡ new_entries next x z → 0 ≡ b → need ≡ space next x y
  counted x y z nodes entries n b need puts e t i j k = puts ∙ space_is next x z n b nodes entries 0 t i j k ∙ ap (space next x) (sym e)

  pub existing_need : (n : ℕ) (need : Counts) → PutsIn 0 0 need → NeedOf h (Existing n) need
  existing_need n need puts limits x y p w = counted x y y 0 0 0 0 need puts refl (denoted h (tree_of y) p.denoted) refl (entries_held h x y p.denoted) refl

  pub unit_need : (unit len : ℕ) → StoresUnit unit len → NeedOf h (UnitPlan unit) (record { nodes = 1; entries = 0; text = len })
  unfolding bytes_of new_entries
  unit_need unit len stores limits x y p w =
      let t = takes_new next next (Own.string (stored (unit ∷ []))) none 0 0 (omega arith) (takes_nothing next) in
      space_is next x (Expression.string next (unit ∷ [])) _ _ 1 0 len t refl refl (omega (arith, stores)) ∙ ap (space next x) (sym p)

  pub void_need : (need : Counts) → PutsIn 2 0 need → NeedOf h VoidZero need
  unfolding bytes_of new_entries
  void_need need puts limits x y p w =
      let zero = takes_new next next (Own.number 0) none 0 0 (omega arith) (takes_nothing next) in
      let t = takes_new next (next + 1) (Own.unary Void) (more (tree next (Own.number 0) none) none) _ _ (omega arith) (takes_both next (tree next (Own.number 0) none) none _ _ 0 0 zero (takes_nothing next)) in
      counted x y (void_zero next) 2 0 _ _ need puts p t refl refl refl

  pub power_need : (a b : ℕ) (need : Counts) → PutsIn 1 0 need → NeedOf h (Power a (Number b)) need
  unfolding bytes_of new_entries
  power_need a b need puts limits x y p w =
      let operands = takes_both next (tree_of p.0) (more (tree_of p.1) none) 0 0 _ _ (denoted h (tree_of p.0) p.3.denoted)
      (takes_both next (tree_of p.1) none 0 0 0 0 (denoted h (tree_of p.1) p.4.denoted) (takes_nothing next)) in
      let t = takes_new next next (Own.binary Exponentiation) (more (tree_of p.0) (more (tree_of p.1) none)) _ _ (omega arith) operands in
      counted x y (Expression.binary next Exponentiation p.0 p.1) 1 0 _ _ need puts p.2 t refl refl refl

  pub coerced_need : (a b : ℕ) (need : Counts) → PutsIn 2 0 need → NeedOf h (Power a (Coerced b)) need
  unfolding bytes_of new_entries
  coerced_need a b need puts limits x y p w =
      let exponent = tree next (Own.unary Plus) (more (tree_of p.1) none) in
      let coerced = takes_new next next (Own.unary Plus) (more (tree_of p.1) none) _ _ (omega arith) (takes_both next (tree_of p.1) none 0 0 0 0 (denoted h (tree_of p.1) p.4.denoted) (takes_nothing next)) in
      let operands = takes_both next (tree_of p.0) (more exponent none) 0 0 _ _ (denoted h (tree_of p.0) p.3.denoted) (takes_both next exponent none _ _ 0 0 coerced (takes_nothing next)) in
      let t = takes_new next (next + 1) (Own.binary Exponentiation) (more (tree_of p.0) (more exponent none)) _ _ (omega arith) operands in
      counted x y (Expression.binary (next + 1) Exponentiation p.0 (Expression.unary next Plus p.1)) 2 0 _ _ need puts p.2 t refl refl refl

  pub array_need : (arguments : Run ℕ) (need : Counts) → PutsIn 1 0 need → NeedOf h (ArrayOf arguments) need
  array_need arguments need puts limits x y p w =
      let es = elements_of p.0 in
      let held = as_elements_held h p.0 (arguments_held h _ p.0 p.2.1) in
      counted x y (Expression.array next es) 1 0 1 0 need puts p.1 (array_takes h es held) refl (sym (w es) ∙ array_entries next x es) refl

  pub merged_need : (elements leading : Run ℕ) (len : ℕ) (need : Counts) → PutsIn 1 len need → MergesTo h elements leading len → NeedOf h (Merged elements leading) need
  merged_need elements leading len need puts merges limits x y p w =
      let es = append_elements p.0 (taken p.1) in
      let held = append_held h p.0 (taken p.1) (elements_held h _ p.0 p.3.1) (taken_held h p.1 (arguments_held h _ p.1 p.4.1)) in
      counted x y (Expression.array next es) 1 len 1 0 need puts p.2 (array_takes h es held) refl (merges p.0 p.1 p.3 p.4 ∙ sym (w es) ∙ array_entries next x es) refl

  pub left_need : (callee : ℕ) (elements arguments : Run ℕ) (count len : ℕ) (need : Counts) → PutsIn 3 len need → MergesTo h elements arguments len → NeedOf h (ConcatLeft callee elements arguments count) need
  unfolding bytes_of
  left_need callee elements arguments count len need puts merges limits x y p w =
      let g = p.0 in
      let es = append_elements p.1 (taken p.2) in
      let given = arguments_held h _ p.2 p.7.1 in
      let held = append_held h p.1 (taken p.2) (elements_held h _ p.1 p.6.1) (taken_held h p.2 given) in
      let f = with_object (next + 1) g (Expression.array next es) in
      let a = with_array h g p.5.1.0 p.5.1.1 es p.5.1.2 p.5.0.denoted held in
      let t = takes_new next (next + 2) Own.call (more (tree_of f) (argument_trees (left p.2))) _ _ (omega arith)
      (takes_both next (tree_of f) (argument_trees (left p.2)) 2 0 0 0 a.takes (all_denoted h (argument_trees (left p.2)) (left_held h p.2 given))) in
      counted x y (Expression.call (next + 2) f (left p.2)) 3 len _ _ need puts p.3 t refl (merges p.1 p.2 p.6 p.7 ∙ a.entries (left p.2) ∙ call_entries next (next + 2) x f (left p.2) (omega arith)) refl

  pub one_call_need : (callee chain len : ℕ) (need : Counts) → PutsIn 1 len need → CountsChain h chain len → NeedOf h (OneCall callee chain) need
  unfolding bytes_of
  one_call_need callee chain len need puts counts limits x y p w =
      let g = p.0 in
      let xs = flat p.2 in
      let held = chain_arguments_held h p.1 g p.2 p.5.denoted p.6 in
      let t = takes_new next next Own.call (more (tree_of g) (argument_trees xs)) _ _ (omega arith) (takes_both next (tree_of g) (argument_trees xs) 0 0 0 0 (denoted h (tree_of g) p.4.denoted) (all_denoted h (argument_trees xs) held)) in
      counted x y (Expression.call next g xs) 1 len _ _ need puts p.3 t refl (counts limits p.1 p.5 ∙ ap (λ z. argument_count (flat z)) (calls_are (chain_of p.1) g p.2 p.6) ∙ one_call_entries h g xs p.4.denoted ∙ call_entries next next x g xs (omega arith)) refl

  flat_one : (xs : Arguments) → flat (xs ∷ []) ≡ xs
  unfolding flat append_arguments
  flat_one xs = alone xs
    where
      alone : (ys : Arguments) → append_arguments ys Arguments.no_arguments ≡ ys
      alone Arguments.no_arguments = refl
      alone (Arguments.argument y ys) = ap (Arguments.argument y) (alone ys)
      alone (Arguments.spread_argument l y ys) = ap (Arguments.spread_argument l y) (alone ys)

  pub joined_need : (base arguments : Run ℕ) (need : Counts) → JoinsTo h base (arguments ∷ []) need → NeedOf h (Joined (One base arguments)) need
  joined_need base arguments need joins limits x y p w =
      let a = joins limits p.0 (p.1 ∷ []) p.3 (p.4, tt) in
      let xs = flat (p.1 ∷ []) in
      let held = subst (λ z. DenoteAll (look h) (argument_trees z)) (sym (flat_one p.1)) (arguments_held h _ p.1 p.4.1) in
      a ∙ joined_space h x p.0 xs held ∙ ap (λ z. space next x (joined next p.0 z)) (flat_one p.1) ∙ ap (space next x) (sym p.2)

  pub joined_chain_need : (call : ℕ) (need : Counts) → JoinsChain h call need → NeedOf h (Joined (ChainOf call)) need
  joined_chain_need call need joins limits x y p w =
      joins limits p.0 p.1 p.2 p.3 p.5 p.6 ∙ joined_space h x p.2 (flat p.3) (chain_arguments_held h p.0 p.1 p.3 p.5.denoted (inl (p.2, p.6))) ∙ ap (space next x) (sym p.4)
