-- What a chain becomes has the chain's runs.
use Rattle.std.proofs.Common.{ℕ, List}
use Rattle.meaning.specs.Expression.{Expression, Arguments, NoMember}
use Rattle.meaning.specs.World.{World}
use Rattle.meaning.specs.Premises.{Premises}
use Rattle.meaning.specs.Replacing.{Keeps}
use Rattle.rules.specs.Places.{Role, Settings}
use Rattle.rules.specs.Facts.{Facts, true_in}
use Rattle.rules.specs.Building.{pieces_of, flat}
use Rattle.rules.specs.ChainBecomes.{Calls}
use Rattle.rules.specs.Chain.{chain_rule}
use Rattle.rules.specs.Laws.{ChainKeepsMeaning}
use Rattle.rules.proofs.Leading.{truly_to}
use Rattle.rules.proofs.Walking.{StringLed}
use Rattle.rules.proofs.Chaining.{ChainLed, chain_leads}
use Rattle.rules.proofs.MethodKeeps.{template_no_member, fits_anywhere}
use Rattle.rules.proofs.StringChains.{string_chain_keeps}
use Rattle.rules.proofs.ArrayChains.{array_chain_keeps}

calls_no_member : {b : Expression} {m : ℕ} {x : Expression} {xss : List Arguments} → Calls b m x xss → NoMember x
calls_no_member Calls.innermost = tt
calls_no_member (Calls.outer d) = tt

module _ (f : Facts) (s : Settings) (next : ℕ) (r : Role) where
  string_no_member : {g : Expression} {u : List ℕ} {xss : List Arguments} {y : Expression} → StringLed f s next g u xss y → NoMember y
  string_no_member {u = u} {xss = xss} (StringLed.template t e h) = template_no_member next (pieces_of next u (flat xss))
  string_no_member (StringLed.call i h) = tt

  pub led_no_member : {x y : Expression} → ChainLed f s next r x y → NoMember x × NoMember y
  led_no_member (ChainLed.of_string d t o h) = (calls_no_member d, string_no_member h)
  led_no_member (ChainLed.of_array d t o i) = (calls_no_member d, tt)

led_keeps : (w : World) → Premises w → (s : Settings) (next : ℕ) (r : Role) {x y : Expression} → ChainLed (true_in w) s next r x y → Keeps w x y
led_keeps w p s next r {x} (ChainLed.of_string {m = m} {j = j} {u = u} {xss = xss} d t o h) = string_chain_keeps w p next m j u x xss d s h
led_keeps w p s next r {x} (ChainLed.of_array {m = m} {j = j} {es = es} {xss = xss} d t o i) = array_chain_keeps w p next m j es x xss d i

pub chain_keeps : (w : World) → ChainKeepsMeaning w
chain_keeps w s p next r x y a h e =
    let d = truly_to (ChainLed (true_in w) s next r x) w a (chain_rule s next r x) (chain_leads (true_in w) s next r x) h y e in
    (led_keeps w p s next r d, fits_anywhere r x y (led_no_member (true_in w) s next r d))
