-- What the rules make has new numbers in turn.
use Rattle.std.proofs.Common.{◌≡◌, ℕ, ◌+◌, ◌≤◌, List, arith}
use Rattle.tree.specs.Tree.{same, uses, uses_all}
use Rattle.meaning.specs.Expression.{Expression, Arguments, Units}
use Rattle.meaning.specs.Methods.{concat_name}
use Rattle.meaning.specs.Trees.{tree_of, element_trees, argument_trees}
use Rattle.rules.specs.Places.{Role, Settings, TakesValue}
use Rattle.rules.specs.Facts.{Facts, said}
use Rattle.rules.specs.Building.{append_elements, flat}
use Rattle.rules.specs.Indexed.{PropertyBecomes}
use Rattle.rules.specs.Property.{property_rule}
use Rattle.rules.specs.MethodBecomes.{MethodBecomes}
use Rattle.rules.specs.Method.{method_rule}
use Rattle.rules.specs.ChainBecomes.{Calls}
use Rattle.rules.specs.Chain.{chain_rule}
use Rattle.rules.specs.Numbering.{NumberedFrom, NewNodesAreNumberedInTurn}
use Rattle.rules.proofs.Leading.{said_to}
use Rattle.rules.proofs.Indexing.{property_leads}
use Rattle.rules.proofs.Calling.{method_leads}
use Rattle.rules.proofs.Walking.{StringLed}
use Rattle.rules.proofs.Chaining.{ChainLed, chain_leads}
use Rattle.rules.proofs.Numbers.{Made, among_none, among_one, among_behind, joined_count, joined_made, elements_uses, append_elements_uses, takes_uses, callee_uses, calls_uses, unit_count, unit_made, element_count, element_made}

-- so many new ones, at each number
abbrev AllMade : ℕ → Expression → Expression → Type 0
AllMade next x y = (k : ℕ) × ((n : ℕ) → Made n next k (uses n (tree_of y)) (uses n (tree_of x)))

numbered : (next : ℕ) (x y : Expression) → ((n : ℕ) → next ≤ n → uses n (tree_of x) ≡ 0) → AllMade next x y → NumberedFrom next x y
numbered next x y h m = (
  m.0,
  λ n.
      let d = m.1 n in
      let c = d.0 in
      let o = d.1 in
      (λ l. let i = d.4.0 l in omega (arith, d.2, d.3), λ l j. let i = d.4.1 l j in let z = h n l in omega (arith, d.2, d.3), λ l. let i = d.4.2 l in let z = h n (omega arith) in omega (arith, d.2, d.3)),
)

module _ (f : Facts) (s : Settings) (next : ℕ) (r : Role) where
  property_made : {x y : Expression} → PropertyBecomes f next x y → AllMade next x y
  property_made (PropertyBecomes.of_string h e l q) = (unit_count q, λ n. unit_made n next _ q)
  property_made (PropertyBecomes.of_array h e l q) = (element_count q, λ n. let i = element_made n next q in (i.0, i.1, i.2, omega (arith, i.3), i.4))

  method_made : {x y : Expression} → MethodBecomes f s next r x y → AllMade next x y
  method_made (MethodBecomes.of_string {u = u} {xs = xs} m o a b c i) = (joined_count next u xs, λ n. let i = joined_made n next u xs in (i.0, i.1, i.2, omega (arith, i.3), i.4))
  method_made (MethodBecomes.of_array {j = j} {es = es} m o) =
      (0, λ n. let i = callee_uses n m in (0, uses n (tree_of (Expression.array j es)), omega arith, omega (arith, i.2), among_none n next))
  method_made (MethodBecomes.of_array_taking_all {es = es} {ts = ts} m o t) = (
    1,
    λ n.
        let i = callee_uses n m in
        let j = takes_uses n t in
        let k = append_elements_uses n es ts in
        (same n next + 0, uses_all n (element_trees (append_elements es ts)), omega arith, omega (arith, i.2), among_one n next),
  )
  method_made (MethodBecomes.of_array_taking_some {g = g} {es = es} {ts = ts} {ys = ys} m o t e) = (
    3,
    λ n.
        let i = callee_uses n m in
        let j = takes_uses n t in
        let k = append_elements_uses n es ts in
        let v = i.3 (next + 1) (Expression.array next (append_elements es ts)) in (
          same n next + 0 + same n (next + 1) + same n (next + 2),
          uses_all n (element_trees (append_elements es ts)) + i.1 + uses_all n (argument_trees ys),
          omega arith,
          omega (arith, i.2),
          among_behind n next 2 _ (among_behind n next 1 _ (among_one n next)),
        ),
  )
  method_made (MethodBecomes.of_pow_with_number {a = a} {b = b} m o h t) = (1, λ n. (same n next + 0, uses n (tree_of a) + uses n (tree_of b), omega arith, omega arith, among_one n next))
  method_made (MethodBecomes.of_pow {a = a} {b = b} m o h t e) =
      (2, λ n. (same n next + 0 + same n (next + 1), uses n (tree_of a) + uses n (tree_of b), omega arith, omega arith, among_behind n next 1 _ (among_one n next)))
  method_made (MethodBecomes.of_array_of {xs = xs} m h) =
      (1, λ n. let i = elements_uses n xs in (same n next + 0, uses_all n (argument_trees xs), omega arith, omega arith, among_one n next))

  call_made : (m : ℕ) (b x : Expression) (xss : List Arguments) → Calls b m x xss → AllMade next x (Expression.call next (Expression.static_member m b concat_name) (flat xss))
  call_made m b x xss d =
      (1, λ n. let i = calls_uses n d in (same n next + 0, same n m + uses n (tree_of b) + uses_all n (argument_trees (flat xss)), omega arith, omega arith, among_one n next))

  string_made : (m j : ℕ) (u : Units) (x : Expression) (xss : List Arguments) {y : Expression} → Calls (Expression.string j u) m x xss
      → StringLed f s next (Expression.static_member m (Expression.string j u) concat_name) u xss y → AllMade next x y
  string_made m j u x xss d (StringLed.template a b c) =
      (joined_count next u (flat xss), λ n. let i = calls_uses n d in let k = joined_made n next u (flat xss) in (k.0, k.1, k.2, omega (arith, k.3), k.4))
  string_made m j u x xss d (StringLed.call a b) = call_made m (Expression.string j u) x xss d

  chain_made : {x y : Expression} → ChainLed f s next r x y → AllMade next x y
  chain_made {x} (ChainLed.of_string {m = m} {j = j} {u = u} {xss = xss} d t o h) = string_made m j u x xss d h
  chain_made {x} (ChainLed.of_array {m = m} {j = j} {es = es} {xss = xss} d t o i) = call_made m (Expression.array j es) x xss d

pub numbered_in_turn : NewNodesAreNumberedInTurn
numbered_in_turn a s next r x y h = (
  λ e. numbered next x y h (chain_made (said a) s next r (said_to (ChainLed (said a) s next r x) a (chain_rule s next r x) (chain_leads (said a) s next r x) y e)),
  λ e. numbered next x y h (method_made (said a) s next r (said_to (MethodBecomes (said a) s next r x) a (method_rule s next r x) (method_leads (said a) s next r x) y e)),
  λ e. numbered next x y h (property_made (said a) s next r (said_to (λ y. TakesValue r × PropertyBecomes (said a) next x y) a (property_rule next r x) (property_leads (said a) next r x) y e).1),
)
