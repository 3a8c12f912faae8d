-- What a call of a known method becomes has the call's runs.
use Rattle.std.proofs.Common.{ℕ, ◌+◌, inl}
use Rattle.meaning.specs.Expression.{Expression, Quasi, Pieces, NoMember}
use Rattle.meaning.specs.World.{World}
use Rattle.meaning.specs.Premises.{Premises}
use Rattle.meaning.specs.Replacing.{Keeps}
use Rattle.rules.specs.Places.{Role, Settings}
use Rattle.rules.specs.Facts.{true_in}
use Rattle.rules.specs.Building.{pieces_of, template_of}
use Rattle.rules.specs.MethodBecomes.{MethodBecomes}
use Rattle.rules.specs.Method.{method_rule}
use Rattle.rules.specs.Laws.{Fits, MethodKeepsMeaning}
use Rattle.rules.proofs.Leading.{truly_to}
use Rattle.rules.proofs.Calling.{method_leads}
use Rattle.rules.proofs.Globals.{array_of_keeps, pow_keeps, number_pow_keeps}
use Rattle.rules.proofs.Templates.{string_concat_keeps}
use Rattle.rules.proofs.Merging.{array_keeps, taking_all_keeps, taking_some_keeps}

pub template_no_member : (n : ℕ) (ps : Pieces) → NoMember (template_of n ps)
unfolding template_of
template_no_member n (Pieces.last (Quasi.quasi l raw u)) = tt
template_no_member n (Pieces.piece q x ps) = tt

-- what is no member fits anywhere
pub fits_anywhere : (r : Role) (x y : Expression) → NoMember x × NoMember y → Fits r x y
fits_anywhere Role.ordinary x y h = tt
fits_anywhere Role.concat_object x y h = tt
fits_anywhere Role.referred x y h = inl h

module _ (w : World) (p : Premises w) (s : Settings) (next : ℕ) (r : Role) where
  becomes_keeps : {x y : Expression} → MethodBecomes (true_in w) s next r x y → Keeps w x y
  becomes_keeps (MethodBecomes.of_string {l = l} {j = j} {g = g} {u = u} {xs = xs} m o a b c i) = string_concat_keeps w p l j next u g xs m i
  becomes_keeps (MethodBecomes.of_array {l = l} {j = j} {g = g} {es = es} m o) = array_keeps w p l j g es m
  becomes_keeps (MethodBecomes.of_array_taking_all {l = l} {j = j} {g = g} {es = es} {ts = ts} {xs = xs} m o t) = taking_all_keeps w p l j g es m next _ xs ts t
  becomes_keeps (MethodBecomes.of_array_taking_some {l = l} {j = j} {g = g} {es = es} {ts = ts} {xs = xs} {ys = ys} m o t e) = taking_some_keeps w p l j g es m (next + 2) (next + 1) next _ xs ys ts t
  becomes_keeps (MethodBecomes.of_pow_with_number {l = l} {j = j} {g = g} {a = a} {b = b} m o h t) = number_pow_keeps w p l j next g a b m h t
  becomes_keeps (MethodBecomes.of_pow {l = l} {j = j} {g = g} {a = a} {b = b} m o h t e) = pow_keeps w p l j (next + 1) next g a b m h
  becomes_keeps (MethodBecomes.of_array_of {l = l} {j = j} {g = g} {xs = xs} m h) = array_of_keeps w p l j next g xs m h

  becomes_no_member : {x y : Expression} → MethodBecomes (true_in w) s next r x y → NoMember x × NoMember y
  becomes_no_member (MethodBecomes.of_string {u = u} {xs = xs} m o a b c i) = (tt, template_no_member next (pieces_of next u xs))
  becomes_no_member (MethodBecomes.of_array m o) = (tt, tt)
  becomes_no_member (MethodBecomes.of_array_taking_all m o t) = (tt, tt)
  becomes_no_member (MethodBecomes.of_array_taking_some m o t e) = (tt, tt)
  becomes_no_member (MethodBecomes.of_pow_with_number m o h t) = (tt, tt)
  becomes_no_member (MethodBecomes.of_pow m o h t e) = (tt, tt)
  becomes_no_member (MethodBecomes.of_array_of m h) = (tt, tt)

pub method_keeps : (w : World) → MethodKeepsMeaning w
method_keeps w s p next r x y a h e =
    let d = truly_to (MethodBecomes (true_in w) s next r x) w a (method_rule s next r x) (method_leads (true_in w) s next r x) h y e in
    (becomes_keeps w p s next r d, fits_anywhere r x y (becomes_no_member w p s next r d))
