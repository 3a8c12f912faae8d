use Rattle.std.proofs.Common.{◌≡◌, length, arith, inl, refl}
use Rattle.std.proofs.Math.Logic.{∥∥₁_map}
use Rattle.base.specs.declared.fault.Fault.TheVariants.{AtRoot}
use Rattle.model.specs.Moves.{Leaves}
use Rattle.session.proofs.Cursor.{up_path, place_is, empty_place, last_step}
use Rattle.session.proofs.session.Session.leave.Goals as goal

pub returns-then-self-eq0-clause-moved : goal.returns-then-self-eq0-clause-moved
returns-then-self-eq0-clause-moved c m is =
    let s = c.args.self.now in
    let none : length m.place ≡ s.depth = place_is _ _ _ s.path s.depth _ m is (omega arith) in
    (m, Leaves.refuses s.here (AtRoot s.here) is.at_cursor (inl (refl, λ below. below (empty_place m.place (omega arith)))), is)

pub invariant_of-self : goal.invariant_of-self
invariant_of-self c =
    let s = c.args.self.now in
    record {
      long = s.long;
      within = omega (arith, s.within);
      sound = ∥∥₁_map s.sound (λ p. (_, up_path _ _ _ s.path s.depth _ p.0 p.1 _ (omega arith) (omega (arith, s.within))));
    }

pub returns-clause-moved : goal.returns-clause-moved
returns-clause-moved c m is =
    let s = c.args.self.now in
    let deep : length m.place ≡ s.depth = place_is _ _ _ s.path s.depth _ m is (omega (arith, s.within)) in
    (_, Leaves.leaves _ _ (last_step m.place s.depth (omega arith) deep), up_path _ _ _ s.path s.depth _ m is _ (omega arith) (omega (arith, s.within)))
