-- What a rule makes is lawful and smaller, fits its place, has its new numbers in turn, and a number of its own that is
-- another.
use Rattle.std.proofs.Common.{◌≡◌, ◌⊎◌, ℕ, ◌<◌, ◌≤◌, List, Some, inl, inr, arith}
use Rattle.tree.specs.Tree.{Tree, tree, label, below, uses, uses_all}
use Rattle.tree.proofs.Counting.{same_self}
use Rattle.meaning.specs.Expression.{Expression, Elements, Arguments, Quasi, Pieces, Units, NoMember}
use Rattle.meaning.specs.Trees.{tree_of, element_trees}
use Rattle.meaning.specs.World.{World}
use Rattle.meaning.specs.Premises.{Premises}
use Rattle.meaning.specs.Replacing.{Keeps}
use Rattle.host.specs.Answers.{Answers}
use Rattle.rules.specs.Places.{Role, Settings, TakesValue}
use Rattle.rules.specs.Facts.{Facts, said}
use Rattle.rules.specs.Building.{pieces_of, template_of, flat}
use Rattle.rules.specs.Indexed.{UnitAt, ElementAt, PropertyBecomes}
use Rattle.rules.specs.MethodBecomes.{MethodBecomes}
use Rattle.rules.specs.Deciding.{decided, asked}
use Rattle.rules.specs.Property.{property_rule}
use Rattle.rules.specs.Method.{method_rule}
use Rattle.rules.specs.Chain.{chain_rule}
use Rattle.rules.specs.Size.{size}
use Rattle.rules.specs.Lawful.{LawfulExpression}
use Rattle.rules.specs.Numbering.{NumberedFrom}
use Rattle.rules.specs.Laws.{AllTrue, Fits}
use Rattle.rules.proofs.Leading.{said_to}
use Rattle.rules.proofs.Indexing.{property_leads}
use Rattle.rules.proofs.Calling.{method_leads}
use Rattle.rules.proofs.Walking.{StringLed}
use Rattle.rules.proofs.Chaining.{ChainLed, chain_leads}
use Rattle.rules.proofs.Numbers.{callee_uses}
use Rattle.rules.proofs.Numbered.{numbered_in_turn}
use Rattle.rules.proofs.Shrinking.{rewrite_smaller}
use Rattle.rules.proofs.KeptLawful.{kept_lawful}
use Rattle.rules.proofs.MethodKeeps.{template_no_member, fits_anywhere, method_keeps}
use Rattle.rules.proofs.ChainKeeps.{led_no_member, chain_keeps}
use Rattle.rules.proofs.Reading.{fits_value, property_keeps}
use Rattle.model.specs.Tries.{Rule, deciding}

-- ---- its own number is new, or that of a node below the old one

abbrev NewOrBelow : ℕ → Expression → Expression → Type 0
NewOrBelow next x y = (next ≤ label (tree_of y)) ⊎ (1 ≤ uses_all (label (tree_of y)) (below (tree_of x)))

pub top_used : (t : Tree) → 1 ≤ uses (label t) t
top_used (tree l o ts) = omega (arith, same_self l)

template_number : (n : ℕ) (ps : Pieces) → n ≤ label (tree_of (template_of n ps))
unfolding template_of
template_number n (Pieces.last (Quasi.quasi l raw u)) = omega arith
template_number n (Pieces.piece q x ps) = omega arith

unit_number : {n k : ℕ} {u : Units} {y : Expression} → UnitAt n u k y → n ≤ label (tree_of y)
unit_number (UnitAt.unit e) = omega arith
unit_number (UnitAt.past_end e) = omega arith

element_number : {n k : ℕ} {xs : Elements} {y : Expression} → ElementAt n xs k y → (n ≤ label (tree_of y)) ⊎ (1 ≤ uses_all (label (tree_of y)) (element_trees xs))
element_number (ElementAt.item_here {x = x}) = inr (omega (arith, top_used (tree_of x)))
element_number ElementAt.hole_here = inl (omega arith)
element_number (ElementAt.past_item d) = elim (element_number d) [ inl h ↦ inl h | inr h ↦ inr (omega arith) ]
element_number (ElementAt.past_hole d) = elim (element_number d) [ inl h ↦ inl h | inr h ↦ inr (omega arith) ]

module _ (f : Facts) (s : Settings) (next : ℕ) (r : Role) where
  property_number : {x y : Expression} → PropertyBecomes f next x y → NewOrBelow next x y
  property_number (PropertyBecomes.of_string h e l q) = inl (unit_number q)
  property_number (PropertyBecomes.of_array h e l q) = elim (element_number q) [ inl i ↦ inl i | inr i ↦ inr (omega arith) ]

  method_number : {x y : Expression} → MethodBecomes f s next r x y → NewOrBelow next x y
  method_number (MethodBecomes.of_string {u = u} {xs = xs} m o a b c i) = inl (template_number next (pieces_of next u xs))
  method_number (MethodBecomes.of_array {j = j} {es = es} m o) = let i = callee_uses j m in inr (omega (arith, i.2, same_self j))
  method_number (MethodBecomes.of_array_taking_all m o t) = inl (omega arith)
  method_number (MethodBecomes.of_array_taking_some m o t e) = inl (omega arith)
  method_number (MethodBecomes.of_pow_with_number m o h t) = inl (omega arith)
  method_number (MethodBecomes.of_pow m o h t e) = inl (omega arith)
  method_number (MethodBecomes.of_array_of m h) = inl (omega arith)

  string_number : {g : Expression} {u : Units} {xss : List Arguments} (x : Expression) {y : Expression} → StringLed f s next g u xss y → NewOrBelow next x y
  string_number {u = u} {xss = xss} x (StringLed.template a b c) = inl (template_number next (pieces_of next u (flat xss)))
  string_number x (StringLed.call a b) = inl (omega arith)

  chain_number : {x y : Expression} → ChainLed f s next r x y → NewOrBelow next x y
  chain_number {x} (ChainLed.of_string d t o h) = string_number x h
  chain_number (ChainLed.of_array d t o i) = inl (omega arith)

  -- ---- it fits

  method_no_member : {x y : Expression} → MethodBecomes f s next r x y → NoMember x × NoMember y
  method_no_member (MethodBecomes.of_string {u = u} {xs = xs} m o a b c i) = (tt, template_no_member next (pieces_of next u xs))
  method_no_member (MethodBecomes.of_array m o) = (tt, tt)
  method_no_member (MethodBecomes.of_array_taking_all m o t) = (tt, tt)
  method_no_member (MethodBecomes.of_array_taking_some m o t e) = (tt, tt)
  method_no_member (MethodBecomes.of_pow_with_number m o h t) = (tt, tt)
  method_no_member (MethodBecomes.of_pow m o h t e) = (tt, tt)
  method_no_member (MethodBecomes.of_array_of m h) = (tt, tt)

-- ---- each rule

module _ (a : Answers) (s : Settings) (next : ℕ) (r : Role) (x y : Expression) where
  by_chain : decided a (chain_rule s next r x) ≡ Some y → ChainLed (said a) s next r x y
  by_chain = said_to (ChainLed (said a) s next r x) a (chain_rule s next r x) (chain_leads (said a) s next r x) y

  by_method : decided a (method_rule s next r x) ≡ Some y → MethodBecomes (said a) s next r x y
  by_method = said_to (MethodBecomes (said a) s next r x) a (method_rule s next r x) (method_leads (said a) s next r x) y

  by_property : decided a (property_rule next r x) ≡ Some y → TakesValue r × PropertyBecomes (said a) next x y
  by_property = said_to (λ z. TakesValue r × PropertyBecomes (said a) next x z) a (property_rule next r x) (property_leads (said a) next r x) y

  pub makes_lawful : (k : Rule) → decided a (deciding k s next r x) ≡ Some y → LawfulExpression x → LawfulExpression y
  makes_lawful Rule.chain e h = (kept_lawful a s next r x y h).0 e
  makes_lawful Rule.method e h = (kept_lawful a s next r x y h).1 e
  makes_lawful Rule.property e h = (kept_lawful a s next r x y h).2 e

  pub makes_smaller : (k : Rule) → decided a (deciding k s next r x) ≡ Some y → size y < size x
  makes_smaller Rule.chain e = (rewrite_smaller a s next r x y).0 e
  makes_smaller Rule.method e = (rewrite_smaller a s next r x y).1 e
  makes_smaller Rule.property e = (rewrite_smaller a s next r x y).2 e

  pub makes_numbered : (k : Rule) → decided a (deciding k s next r x) ≡ Some y → ((n : ℕ) → next ≤ n → uses n (tree_of x) ≡ 0) → NumberedFrom next x y
  makes_numbered Rule.chain e h = (numbered_in_turn a s next r x y h).0 e
  makes_numbered Rule.method e h = (numbered_in_turn a s next r x y h).1 e
  makes_numbered Rule.property e h = (numbered_in_turn a s next r x y h).2 e

  pub makes_new_or_below : (k : Rule) → decided a (deciding k s next r x) ≡ Some y → NewOrBelow next x y
  makes_new_or_below Rule.chain e = chain_number (said a) s next r (by_chain e)
  makes_new_or_below Rule.method e = method_number (said a) s next r (by_method e)
  makes_new_or_below Rule.property e = property_number (said a) s next r (by_property e).1

  pub makes_fitting : (k : Rule) → decided a (deciding k s next r x) ≡ Some y → Fits r x y
  makes_fitting Rule.chain e = fits_anywhere r x y (led_no_member (said a) s next r (by_chain e))
  makes_fitting Rule.method e = fits_anywhere r x y (method_no_member (said a) s next r (by_method e))
  makes_fitting Rule.property e = fits_value r x y (by_property e).0

  pub makes_alike : (w : World) → Premises w → (k : Rule) → decided a (deciding k s next r x) ≡ Some y → AllTrue w a (asked a (deciding k s next r x)) → Keeps w x y
  makes_alike w p Rule.chain e h = (chain_keeps w s p next r x y a h e).0
  makes_alike w p Rule.method e h = (method_keeps w s p next r x y a h e).0
  makes_alike w p Rule.property e h = (property_keeps w p next r x y a h e).0
