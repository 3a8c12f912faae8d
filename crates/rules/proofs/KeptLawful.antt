-- What a lawful expression becomes is lawful.
use Rattle.std.proofs.Common.{◌≡◌, ℕ, zero, suc, ◌+◌, ◌<◌, List, [], ◌∷◌, ◌++◌, Some, None, Option, slice_get, refl, subst, arith}
use Rattle.text.specs.Utf16.{Text}
use Rattle.text.proofs.Pairing.{text_append}
use Rattle.template.proofs.Back.{escaped_cooks}
use Rattle.tree.specs.Lawful.{Finite}
use Rattle.meaning.specs.Expression.{Expression, Elements, Arguments, Quasi, Pieces, Units}
use Rattle.meaning.specs.Methods.{concat_name}
use Rattle.rules.specs.Places.{Role, Settings, TakesValue}
use Rattle.rules.specs.Facts.{Facts, said}
use Rattle.rules.specs.Building.{elements_of, append_elements, append_arguments, flat, text_of, new_quasi, add_piece, pieces_of, template_of, joined, with_object}
use Rattle.rules.specs.Takes.{Takes}
use Rattle.rules.specs.Indexed.{UnitAt, ElementAt, PropertyBecomes}
use Rattle.rules.specs.MethodBecomes.{Method, MethodBecomes}
use Rattle.rules.specs.ChainBecomes.{Calls}
use Rattle.rules.specs.Property.{property_rule}
use Rattle.rules.specs.Method.{method_rule}
use Rattle.rules.specs.Chain.{chain_rule}
use Rattle.rules.specs.Lawful.{LawfulQuasi, LawfulExpression, LawfulElements, LawfulArguments, LawfulPieces, ARewriteKeepsItLawful}
use Rattle.rules.proofs.Absurd.{none_some}
use Rattle.rules.proofs.Leading.{said_to}
use Rattle.rules.proofs.Indexing.{property_leads}
use Rattle.rules.proofs.Calling.{method_leads}
use Rattle.rules.proofs.Walking.{StringLed}
use Rattle.rules.proofs.Chaining.{ChainLed, chain_leads}

-- ---- templates

string_text : (x : Expression) (u : Units) → text_of x ≡ Some u → LawfulExpression x → Text u
unfolding text_of
string_text (Expression.string l v) u e h = let i : v ≡ u = cc in subst Text i h
string_text x u e h = none_some e

quasi_made : (l : ℕ) (u : Units) → Text u → LawfulQuasi (new_quasi l u)
unfolding new_quasi
quasi_made l u h = (escaped_cooks u h, h)

pieces_kept : (n : ℕ) (u : Units) (xs : Arguments) → Text u → LawfulArguments xs → LawfulPieces (pieces_of n u xs)
unfolding pieces_of
pieces_kept n u Arguments.no_arguments t h = quasi_made n u t
pieces_kept n u (Arguments.spread_argument l x xs) t h = pieces_kept n u xs t h.1
pieces_kept n u (Arguments.argument x xs) t h = by (text_of x) refl (λ k v i. pieces_kept k v xs i h.1)
  where
    by : (o : Option Units) → text_of x ≡ o → ((k : ℕ) (v : Units) → Text v → LawfulPieces (pieces_of k v xs)) → LawfulPieces (add_piece n u x (λ k v. pieces_of k v xs) o)
    by (Some v) e k = unfold add_piece in k n (u ++ v) (text_append u v t (string_text x v e h.0))
    by None e k = unfold add_piece in (quasi_made n u t, h.0, k (suc n) [] tt)

template_kept : (n : ℕ) (ps : Pieces) → LawfulPieces ps → LawfulExpression (template_of n ps)
unfolding template_of
template_kept n (Pieces.last (Quasi.quasi l raw u)) h = h.1
template_kept n (Pieces.piece q x ps) h = h

joined_kept : (n : ℕ) (u : Units) (xs : Arguments) → Text u → LawfulArguments xs → LawfulExpression (joined n u xs)
joined_kept n u xs t h = template_kept n (pieces_of n u xs) (pieces_kept n u xs t h)

-- ---- arrays and calls

elements_kept : (xs : Arguments) → LawfulArguments xs → LawfulElements (elements_of xs)
unfolding elements_of
elements_kept Arguments.no_arguments h = tt
elements_kept (Arguments.argument x xs) h = (h.0, elements_kept xs h.1)
elements_kept (Arguments.spread_argument l x xs) h = (h.0, elements_kept xs h.1)

append_elements_kept : (xs ys : Elements) → LawfulElements xs → LawfulElements ys → LawfulElements (append_elements xs ys)
unfolding append_elements
append_elements_kept Elements.no_elements ys h k = k
append_elements_kept (Elements.item x xs) ys h k = (h.0, append_elements_kept xs ys h.1 k)
append_elements_kept (Elements.hole l xs) ys h k = append_elements_kept xs ys h k
append_elements_kept (Elements.spread l x xs) ys h k = (h.0, append_elements_kept xs ys h.1 k)

append_arguments_kept : (xs ys : Arguments) → LawfulArguments xs → LawfulArguments ys → LawfulArguments (append_arguments xs ys)
unfolding append_arguments
append_arguments_kept Arguments.no_arguments ys h k = k
append_arguments_kept (Arguments.argument x xs) ys h k = (h.0, append_arguments_kept xs ys h.1 k)
append_arguments_kept (Arguments.spread_argument l x xs) ys h k = (h.0, append_arguments_kept xs ys h.1 k)

arguments_both : (xs ys : Arguments) → LawfulArguments (append_arguments xs ys) → LawfulArguments xs × LawfulArguments ys
unfolding append_arguments
arguments_both Arguments.no_arguments ys h = (tt, h)
arguments_both (Arguments.argument x xs) ys h = let k = arguments_both xs ys h.1 in ((h.0, k.0), k.1)
arguments_both (Arguments.spread_argument l x xs) ys h = let k = arguments_both xs ys h.1 in ((h.0, k.0), k.1)

takes_kept : {n : ℕ} {xs ys : Arguments} {es : Elements} → Takes n xs es ys → LawfulArguments xs → LawfulElements es × LawfulArguments ys
takes_kept (Takes.literal i t) h = let k = takes_kept t h.1 in ((h.0, k.0), k.1)
takes_kept (Takes.array {fs = fs} {es = es} t) h = let k = takes_kept t h.1 in (append_elements_kept fs es h.0 k.0, k.1)
takes_kept (Takes.at_other i) h = (tt, h)
takes_kept Takes.at_spread h = (tt, h)
takes_kept Takes.at_end h = (tt, tt)

object_kept : {g o : Expression} {k : Units} → Method g o k → LawfulExpression g → LawfulExpression o
object_kept Method.static h = h.0
object_kept Method.keyed h = h.0

with_object_kept : (l : ℕ) {g o : Expression} {k : Units} → Method g o k → LawfulExpression g → (y : Expression) → LawfulExpression y → LawfulExpression (with_object l g y)
unfolding with_object
with_object_kept l Method.static h y i = (i, h.1)
with_object_kept l Method.keyed h y i = (i, h.1)

-- every call's arguments, and the innermost callee
flat_longer_kept : (xss : List Arguments) (xs : Arguments) → LawfulArguments (flat xss) → LawfulArguments xs → LawfulArguments (flat (xss ++ (xs ∷ [])))
unfolding flat
flat_longer_kept [] xs h k = append_arguments_kept xs Arguments.no_arguments k tt
flat_longer_kept (ys ∷ yss) xs h k = let i = arguments_both ys (flat yss) h in append_arguments_kept ys (flat (yss ++ (xs ∷ []))) i.0 (flat_longer_kept yss xs i.1 k)

calls_kept : {b : Expression} {m : ℕ} {x : Expression} {xss : List Arguments} → Calls b m x xss → LawfulExpression x → LawfulExpression (Expression.static_member m b concat_name) × LawfulArguments (flat xss)
unfolding flat
calls_kept (Calls.innermost {xs = xs}) h = (h.0, append_arguments_kept xs Arguments.no_arguments h.1 tt)
calls_kept (Calls.outer {xs = xs} {xss = xss} d) h = let k = calls_kept d h.0.0 in (k.0, flat_longer_kept xss xs k.1 h.1)

-- ---- elements

zero_finite : Finite 0
zero_finite = (omega arith, λ e. omega arith)

unit_below : (u : Units) (k v : ℕ) → slice_get u k ≡ Some v → Text u → v < 0x10000
unit_below [] k v e h = none_some e
unit_below (x ∷ u) zero v e h = let i : x ≡ v = cc in subst (λ z. z < 0x10000) i h.0
unit_below (x ∷ u) (suc k) v e h = unit_below u k v e h.1

unit_kept : {n k : ℕ} {u : Units} {y : Expression} → UnitAt n u k y → Text u → LawfulExpression y
unit_kept {k = k} {u = u} (UnitAt.unit {v = v} e) h = (unit_below u k v e h, tt)
unit_kept (UnitAt.past_end e) h = zero_finite

element_kept : {n k : ℕ} {xs : Elements} {y : Expression} → ElementAt n xs k y → LawfulElements xs → LawfulExpression y
element_kept ElementAt.item_here h = h.0
element_kept ElementAt.hole_here h = zero_finite
element_kept (ElementAt.past_item d) h = element_kept d h.1
element_kept (ElementAt.past_hole d) h = element_kept d h

-- ---- the rules

module _ (f : Facts) (s : Settings) (next : ℕ) (r : Role) where
  property_kept : {x y : Expression} → PropertyBecomes f next x y → LawfulExpression x → LawfulExpression y
  property_kept (PropertyBecomes.of_string e i l q) h = unit_kept q h.0
  property_kept (PropertyBecomes.of_array e i l q) h = element_kept q h.0

  method_kept : {x y : Expression} → MethodBecomes f s next r x y → LawfulExpression x → LawfulExpression y
  method_kept (MethodBecomes.of_string {u = u} {xs = xs} m o a b c i) h = joined_kept next u xs (object_kept m h.0) h.1
  method_kept (MethodBecomes.of_array m o) h = object_kept m h.0
  method_kept (MethodBecomes.of_array_taking_all {es = es} {ts = ts} m o t) h = append_elements_kept es ts (object_kept m h.0) (takes_kept t h.1).0
  method_kept (MethodBecomes.of_array_taking_some {es = es} {ts = ts} m o t e) h =
      let k = takes_kept t h.1 in
      (with_object_kept (next + 1) m h.0 (Expression.array next (append_elements es ts)) (append_elements_kept es ts (object_kept m h.0) k.0), k.1)
  method_kept (MethodBecomes.of_pow_with_number m o g t) h = (h.1.0, h.1.1.0)
  method_kept (MethodBecomes.of_pow m o g t e) h = (h.1.0, h.1.1.0)
  method_kept (MethodBecomes.of_array_of {xs = xs} m g) h = elements_kept xs h.1

  string_kept : (m j : ℕ) (u : Units) (x : Expression) (xss : List Arguments) {y : Expression} → Calls (Expression.string j u) m x xss
      → StringLed f s next (Expression.static_member m (Expression.string j u) concat_name) u xss y → LawfulExpression x → LawfulExpression y
  string_kept m j u x xss d (StringLed.template a b c) h = let k = calls_kept d h in joined_kept next u (flat xss) k.0.0 k.1
  string_kept m j u x xss d (StringLed.call a b) h = calls_kept d h

  chain_kept : {x y : Expression} → ChainLed f s next r x y → LawfulExpression x → LawfulExpression y
  chain_kept {x} (ChainLed.of_string {m = m} {j = j} {u = u} {xss = xss} d t o i) h = string_kept m j u x xss d i h
  chain_kept (ChainLed.of_array d t o i) h = calls_kept d h

pub kept_lawful : ARewriteKeepsItLawful
kept_lawful a s next r x y h = (
  λ e. chain_kept (said a) s next r (said_to (ChainLed (said a) s next r x) a (chain_rule s next r x) (chain_leads (said a) s next r x) y e) h,
  λ e. method_kept (said a) s next r (said_to (MethodBecomes (said a) s next r x) a (method_rule s next r x) (method_leads (said a) s next r x) y e) h,
  λ e. property_kept (said a) s next r (said_to (λ y. TakesValue r × PropertyBecomes (said a) next x y) a (property_rule next r x) (property_leads (said a) next r x) y e).1 h,
)
