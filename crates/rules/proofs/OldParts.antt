-- The parts of what an expression becomes are parts of the expression, or new.
use Rattle.std.proofs.Common.{◌≡◌, ℕ, suc, ◌+◌, ◌≤◌, List, [], ◌∷◌, ◌++◌, Some, None, Option, arith}
use Rattle.tree.specs.Tree.{label}
use Rattle.meaning.specs.Expression.{Expression, Elements, Arguments, Quasi, Pieces, Units}
use Rattle.meaning.specs.Methods.{concat_name}
use Rattle.meaning.specs.Parts.{Part, part_tree}
use Rattle.host.specs.Answers.{Answers}
use Rattle.rules.specs.Places.{Role, Settings, TakesValue}
use Rattle.rules.specs.Facts.{Facts, said}
use Rattle.rules.specs.Deciding.{decided}
use Rattle.rules.specs.Building.{elements_of, append_elements, append_arguments, flat, text_of, new_quasi, add_piece, pieces_of, template_of, joined, with_object}
use Rattle.rules.specs.Takes.{Takes}
use Rattle.rules.specs.Indexed.{UnitAt, ElementAt, PropertyBecomes}
use Rattle.rules.specs.MethodBecomes.{Method, MethodBecomes}
use Rattle.rules.specs.ChainBecomes.{Calls}
use Rattle.rules.specs.Property.{property_rule}
use Rattle.rules.specs.Method.{method_rule}
use Rattle.rules.specs.Chain.{chain_rule}
use Rattle.rules.proofs.Leading.{said_to}
use Rattle.rules.proofs.Indexing.{property_leads}
use Rattle.rules.proofs.Calling.{method_leads}
use Rattle.rules.proofs.Walking.{StringLed}
use Rattle.rules.proofs.Chaining.{ChainLed, chain_leads}
use Rattle.rules.proofs.Parts.{EachPart, EachElement, EachArgument, EachPiece}

module _ (P : Part → Type 0) (next : ℕ) (new : (p : Part) → next ≤ label (part_tree p) → P p) where
  -- ---- templates

  quasi_made : (n : ℕ) (u : Units) → next ≤ n → P (Part.quasi (new_quasi n u))
  unfolding new_quasi
  quasi_made n u le = new _ le

  pieces_made : (n : ℕ) (u : Units) (xs : Arguments) → next ≤ n → EachArgument P xs → EachPiece P (pieces_of n u xs)
  unfolding pieces_of
  pieces_made n u Arguments.no_arguments le h = quasi_made n u le
  pieces_made n u (Arguments.spread_argument l x xs) le h = pieces_made n u xs le h.2
  pieces_made n u (Arguments.argument x xs) le h = by (text_of x) (λ k v i. pieces_made k v xs i h.1)
    where
      by : (o : Option Units) → ((k : ℕ) (v : Units) → next ≤ k → EachPiece P (pieces_of k v xs)) → EachPiece P (add_piece n u x (λ k v. pieces_of k v xs) o)
      by (Some v) k = unfold add_piece in k n (u ++ v) le
      by None k = unfold add_piece in (quasi_made n u le, h.0, k (suc n) [] (omega arith))

  template_made : (n : ℕ) (ps : Pieces) → next ≤ n → EachPiece P ps → EachPart P (template_of n ps)
  unfolding template_of
  template_made n (Pieces.last (Quasi.quasi l raw u)) le h = new _ le
  template_made n (Pieces.piece q x ps) le h = (new _ (omega arith), h)

  joined_made : (u : Units) (xs : Arguments) → EachArgument P xs → EachPart P (joined next u xs)
  joined_made u xs h = template_made next (pieces_of next u xs) (omega arith) (pieces_made next u xs (omega arith) h)

  -- ---- arrays and calls

  elements_made : (xs : Arguments) → EachArgument P xs → EachElement P (elements_of xs)
  unfolding elements_of
  elements_made Arguments.no_arguments h = tt
  elements_made (Arguments.argument x xs) h = (h.0, elements_made xs h.1)
  elements_made (Arguments.spread_argument l x xs) h = (h.0, h.1, elements_made xs h.2)

  elements_behind : (xs ys : Elements) → EachElement P xs → EachElement P ys → EachElement P (append_elements xs ys)
  unfolding append_elements
  elements_behind Elements.no_elements ys h k = k
  elements_behind (Elements.item x xs) ys h k = (h.0, elements_behind xs ys h.1 k)
  elements_behind (Elements.hole l xs) ys h k = (h.0, elements_behind xs ys h.1 k)
  elements_behind (Elements.spread l x xs) ys h k = (h.0, h.1, elements_behind xs ys h.2 k)

  arguments_behind : (xs ys : Arguments) → EachArgument P xs → EachArgument P ys → EachArgument P (append_arguments xs ys)
  unfolding append_arguments
  arguments_behind Arguments.no_arguments ys h k = k
  arguments_behind (Arguments.argument x xs) ys h k = (h.0, arguments_behind xs ys h.1 k)
  arguments_behind (Arguments.spread_argument l x xs) ys h k = (h.0, h.1, arguments_behind xs ys h.2 k)

  arguments_both : (xs ys : Arguments) → EachArgument P (append_arguments xs ys) → EachArgument P xs × EachArgument P ys
  unfolding append_arguments
  arguments_both Arguments.no_arguments ys h = (tt, h)
  arguments_both (Arguments.argument x xs) ys h = let k = arguments_both xs ys h.1 in ((h.0, k.0), k.1)
  arguments_both (Arguments.spread_argument l x xs) ys h = let k = arguments_both xs ys h.2 in ((h.0, h.1, k.0), k.1)

  takes_made : {n : ℕ} {xs ys : Arguments} {es : Elements} → Takes n xs es ys → EachArgument P xs → EachElement P es × EachArgument P ys
  takes_made (Takes.literal i t) h = let k = takes_made t h.1 in ((h.0, k.0), k.1)
  takes_made (Takes.array {fs = fs} {es = es} t) h = let k = takes_made t h.1 in (elements_behind fs es h.0.1 k.0, k.1)
  takes_made (Takes.at_other i) h = (tt, h)
  takes_made Takes.at_spread h = (tt, h)
  takes_made Takes.at_end h = (tt, tt)

  object_part : {g o : Expression} {k : Units} → Method g o k → EachPart P g → EachPart P o
  object_part Method.static h = h.1
  object_part Method.keyed h = h.1

  with_object_made : (l : ℕ) {g o : Expression} {k : Units} → Method g o k → next ≤ l → EachPart P g → (y : Expression) → EachPart P y → EachPart P (with_object l g y)
  unfolding with_object
  with_object_made l Method.static le h y i = (new _ le, i)
  with_object_made l Method.keyed le h y i = (new _ le, i, h.2)

  -- every call's arguments, and the innermost callee
  flat_longer_made : (xss : List Arguments) (xs : Arguments) → EachArgument P (flat xss) → EachArgument P xs → EachArgument P (flat (xss ++ (xs ∷ [])))
  unfolding flat
  flat_longer_made [] xs h k = arguments_behind xs Arguments.no_arguments k tt
  flat_longer_made (ys ∷ yss) xs h k = let i = arguments_both ys (flat yss) h in arguments_behind ys (flat (yss ++ (xs ∷ []))) i.0 (flat_longer_made yss xs i.1 k)

  calls_made : {b : Expression} {m : ℕ} {x : Expression} {xss : List Arguments} → Calls b m x xss → EachPart P x → EachPart P (Expression.static_member m b concat_name) × EachArgument P (flat xss)
  unfolding flat
  calls_made (Calls.innermost {xs = xs}) h = (h.1, arguments_behind xs Arguments.no_arguments h.2 tt)
  calls_made (Calls.outer {xs = xs} {xss = xss} d) h = let k = calls_made d h.1.1 in (k.0, flat_longer_made xss xs k.1 h.2)

  -- ---- elements

  unit_made : {k : ℕ} {u : Units} {y : Expression} → UnitAt next u k y → EachPart P y
  unit_made (UnitAt.unit e) = new _ (omega arith)
  unit_made (UnitAt.past_end e) = (new _ (omega arith), new _ (omega arith))

  element_made : {k : ℕ} {xs : Elements} {y : Expression} → ElementAt next xs k y → EachElement P xs → EachPart P y
  element_made ElementAt.item_here h = h.0
  element_made ElementAt.hole_here h = (new _ (omega arith), new _ (omega arith))
  element_made (ElementAt.past_item d) h = element_made d h.1
  element_made (ElementAt.past_hole d) h = element_made d h.1

  -- ---- the rules

  module _ (f : Facts) (s : Settings) (r : Role) where
    property_made : {x y : Expression} → PropertyBecomes f next x y → EachPart P x → EachPart P y
    property_made (PropertyBecomes.of_string e i l q) h = unit_made q
    property_made (PropertyBecomes.of_array e i l q) h = element_made q h.1.1

    method_made : {x y : Expression} → MethodBecomes f s next r x y → EachPart P x → EachPart P y
    method_made (MethodBecomes.of_string {u = u} {xs = xs} m o a b c i) h = joined_made u xs h.2
    method_made (MethodBecomes.of_array m o) h = object_part m h.1
    method_made (MethodBecomes.of_array_taking_all {es = es} {ts = ts} m o t) h = (new _ (omega arith), elements_behind es ts (object_part m h.1).1 (takes_made t h.2).0)
    method_made (MethodBecomes.of_array_taking_some {es = es} {ts = ts} m o t e) h =
        let k = takes_made t h.2 in (
          new _ (omega arith),
          with_object_made (next + 1) m (omega arith) h.1 (Expression.array next (append_elements es ts)) (new _ (omega arith), elements_behind es ts (object_part m h.1).1 k.0),
          k.1,
        )
    method_made (MethodBecomes.of_pow_with_number m o g t) h = (new _ (omega arith), h.2.0, h.2.1.0)
    method_made (MethodBecomes.of_pow m o g t e) h = (new _ (omega arith), h.2.0, (new _ (omega arith), h.2.1.0))
    method_made (MethodBecomes.of_array_of {xs = xs} m g) h = (new _ (omega arith), elements_made xs h.2)

    string_made : (m j : ℕ) (u : Units) (x : Expression) (xss : List Arguments) {y : Expression} → Calls (Expression.string j u) m x xss
        → StringLed f s next (Expression.static_member m (Expression.string j u) concat_name) u xss y → EachPart P x → EachPart P y
    string_made m j u x xss d (StringLed.template a b c) h = joined_made u (flat xss) (calls_made d h).1
    string_made m j u x xss d (StringLed.call a b) h = let k = calls_made d h in (new _ (omega arith), k.0, k.1)

    chain_made : {x y : Expression} → ChainLed f s next r x y → EachPart P x → EachPart P y
    chain_made {x} (ChainLed.of_string {m = m} {j = j} {u = u} {xss = xss} d t o i) h = string_made m j u x xss d i h
    chain_made (ChainLed.of_array d t o i) h = let k = calls_made d h in (new _ (omega arith), k.0, k.1)

  -- Where something holds of each part of an expression, and of all that is new, it holds of each part of what the
  -- expression becomes.
  pub parts_made : (a : Answers) (s : Settings) (r : Role) (x y : Expression) → EachPart P x
      → (decided a (chain_rule s next r x) ≡ Some y → EachPart P y)
      × (decided a (method_rule s next r x) ≡ Some y → EachPart P y)
      × (decided a (property_rule next r x) ≡ Some y → EachPart P y)
  parts_made a s r x y h = (
    λ e. chain_made (said a) s r (said_to (ChainLed (said a) s next r x) a (chain_rule s next r x) (chain_leads (said a) s next r x) y e) h,
    λ e. method_made (said a) s r (said_to (MethodBecomes (said a) s next r x) a (method_rule s next r x) (method_leads (said a) s next r x) y e) h,
    λ e. property_made (said a) s r (said_to (λ z. TakesValue r × PropertyBecomes (said a) next x z) a (property_rule next r x) (property_leads (said a) next r x) y e).1 h,
  )
