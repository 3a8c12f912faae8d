use Rattle.std.proofs.Common.{arith, refl}
use Rattle.std.proofs.Math.Logic.{∥∥₁_map}
use Rattle.session.proofs.Cursor.{top}
use Rattle.session.proofs.session.Session.go_to_root.Goals as goal

pub invariant_of-self : goal.invariant_of-self
invariant_of-self c =
    let s = c.args.self.now in
    record { long = s.long; within = omega arith; sound = ∥∥₁_map s.sound (λ p. (_, top _ _ _ _ _ p.0 p.1)) }

pub returns-clause-root : goal.returns-clause-root
returns-clause-root c m is = (_, refl, top _ _ _ _ _ m is)
