-- Every rewrite makes it smaller.
use Rattle.std.proofs.Common.{◌≡◌, ℕ, ◌<◌, ◌≤◌, ◌+◌, List, refl, arith}
use Rattle.meaning.specs.Expression.{Expression, Arguments, Units}
use Rattle.rules.specs.Places.{Role, Settings, TakesValue}
use Rattle.rules.specs.Facts.{Facts, said}
use Rattle.rules.specs.Building.{append_elements, flat}
use Rattle.rules.specs.Indexed.{PropertyBecomes}
use Rattle.rules.specs.Property.{property_rule}
use Rattle.rules.specs.MethodBecomes.{MethodBecomes}
use Rattle.rules.specs.Method.{method_rule}
use Rattle.rules.specs.Chain.{chain_rule}
use Rattle.rules.specs.Size.{size, arguments_size}
use Rattle.rules.specs.Laws.{ARewriteMakesItSmaller}
use Rattle.rules.proofs.Leading.{said_to}
use Rattle.rules.proofs.Indexing.{property_leads}
use Rattle.rules.proofs.Calling.{method_leads}
use Rattle.rules.proofs.Walking.{StringLed}
use Rattle.rules.proofs.Chaining.{ChainLed, chain_leads}
use Rattle.rules.proofs.Sizes.{elements_of_size, joined_size, append_elements_size, takes_size, object_size, with_object_size, unit_size, element_size, calls_size}

module _ (f : Facts) (s : Settings) (next : ℕ) (r : Role) where
  property_smaller : {x y : Expression} → PropertyBecomes f next x y → size y < size x
  unfolding size
  property_smaller (PropertyBecomes.of_string h e l q) = let i = unit_size q in omega arith
  property_smaller (PropertyBecomes.of_array h e l q) = let i = element_size q in omega arith

  method_smaller : {x y : Expression} → MethodBecomes f s next r x y → size y < size x
  unfolding size
  method_smaller (MethodBecomes.of_string {u = u} {xs = xs} m o a b c i) = let j = joined_size next u xs in omega arith
  method_smaller (MethodBecomes.of_array m o) = let i = object_size m in omega arith
  method_smaller (MethodBecomes.of_array_taking_all {es = es} {ts = ts} m o t) = let i = object_size m in let j = takes_size t in let k = append_elements_size es ts in omega arith
  method_smaller (MethodBecomes.of_array_taking_some {es = es} {ts = ts} m o t e) =
      let i = with_object_size (next + 1) m (Expression.array next (append_elements es ts)) in
      let j = takes_size t in
      let k = append_elements_size es ts in
      omega arith
  method_smaller (MethodBecomes.of_pow_with_number m o h t) = omega arith
  method_smaller (MethodBecomes.of_pow m o h t e) = omega arith
  method_smaller (MethodBecomes.of_array_of {xs = xs} m h) = let i = elements_of_size xs in omega arith

  led_size : {g : Expression} {u : Units} {xss : List Arguments} {y : Expression} → size g ≡ 1 → StringLed f s next g u xss y → size y ≤ 2 + arguments_size (flat xss)
  unfolding size
  led_size {u = u} {xss = xss} h (StringLed.template a b c) = let j = joined_size next u (flat xss) in omega arith
  led_size h (StringLed.call a b) = omega arith

  chain_smaller : {x y : Expression} → ChainLed f s next r x y → size y < size x
  unfolding size
  chain_smaller (ChainLed.of_string d t o h) = let i = calls_size d in let j = led_size (refl) h in omega arith
  chain_smaller (ChainLed.of_array d t o i) = let j = calls_size d in omega arith

pub rewrite_smaller : ARewriteMakesItSmaller
rewrite_smaller a s next r x y = (
  λ e. chain_smaller (said a) s next r (said_to (ChainLed (said a) s next r x) a (chain_rule s next r x) (chain_leads (said a) s next r x) y e),
  λ e. method_smaller (said a) s next r (said_to (MethodBecomes (said a) s next r x) a (method_rule s next r x) (method_leads (said a) s next r x) y e),
  λ e. property_smaller (said a) s next r (said_to (λ y. TakesValue r × PropertyBecomes (said a) next x y) a (property_rule next r x) (property_leads (said a) next r x) y e).1,
)
