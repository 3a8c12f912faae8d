use Rattle.std.proofs.Common.{ap, refl, arith}
use Rattle.std.proofs.Math.Logic.{∥∥₁_map}
use Rattle.store.specs.Stores.{held_of}
use Rattle.session.proofs.Opening.{opened_at}
use Rattle.session.proofs.session.Session.open.Goals as goal

pub invariant_of-result : goal.invariant_of-result
invariant_of-result c =
    let e = c.into_parts-stores.ensures in
    record {
      long = omega arith;
      within = omega arith;
      sound = ∥∥₁_map c.args.loaded.payoff (λ p. let o = opened_at _ _ _ _ (ap held_of e.stores) e.root c.args.loaded.limited p.0 p.1 in (o.0, o.2));
    }

pub returns : goal.returns
returns c =
    let e = c.into_parts-stores.ensures in
    record { holds = e.stores; supports = refl; opened = λ t d. opened_at _ _ _ _ (ap held_of e.stores) e.root c.args.loaded.limited t d }
