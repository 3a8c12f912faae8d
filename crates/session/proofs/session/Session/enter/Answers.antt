use Rattle.std.proofs.Common.{◌≡◌, true, false, is_some, [], ◌∷◌, ◌++◌, length, Some, None, inl, inr, refl, sym, ap, ◌∙◌, arith}
use Rattle.std.proofs.Math.Logic.{∥∥₁_map}
use Rattle.std.proofs.lemmas.List.{length-set}
use Rattle.std.specs.List.{slice_get}
use Rattle.host.proofs.Knowing.{false_true}
use Rattle.tree.specs.Tree.{children_of, at_place}
use Rattle.tree.specs.Heap.{look}
use Rattle.store.specs.Stores.{held_of}
use Rattle.base.specs.declared.fault.Fault.TheVariants.{NoChild, PathFull}
use Rattle.model.specs.Moves.{Enters}
use Rattle.session.proofs.Cursor.{stored_here, has_child, down_path, place_is}
use Rattle.session.proofs.session.Session.enter.Goals as goal

pub returns-in_default-clause-moved : goal.returns-in_default-clause-moved
returns-in_default-clause-moved c m is =
    let s = c.args.self.now in
    let none : slice_get (children_of (look (held_of s.stores) s.here)) c.args.child ≡ None = sym (c.child.ensures (stored_here _ _ _ _ _ m is)) ∙ c.in_default.is in
    let not : is_some (at_place m.whole (m.place ++ c.args.child ∷ [])) ≡ false = has_child _ _ _ _ _ m is c.args.child ∙ ap is_some none in
    (m, Enters.refuses s.here (NoChild s.here) is.at_cursor (inl (refl, λ e. false_true (sym not ∙ e))), is)

pub returns-then-self-eq-MAX_STEPS-clause-moved : goal.returns-then-self-eq-MAX_STEPS-clause-moved
returns-then-self-eq-MAX_STEPS-clause-moved c m is =
    let s = c.args.self.now in
    let there : slice_get (children_of (look (held_of s.stores) s.here)) c.args.child ≡ Some c.in-Some.node = sym (c.child.ensures (stored_here _ _ _ _ _ m is)) ∙ c.in-Some.is in
    let has : is_some (at_place m.whole (m.place ++ c.args.child ∷ [])) ≡ true = has_child _ _ _ _ _ m is c.args.child ∙ ap is_some there in
    let deep : length m.place ≡ s.depth = place_is _ _ _ s.path s.depth _ m is (omega arith) in
    (m, Enters.refuses s.here (PathFull s.here) is.at_cursor (inr (has, inl (refl, λ lt. omega arith))), is)

pub invariant_of-self-2 : goal.invariant_of-self-2
invariant_of-self-2 c =
    let s = c.args.self.now in
    record {
      long = omega (arith, s.long, length-set s.path s.depth (record { node = s.here; child = c.args.child }));
      within = omega (arith, s.within);
      sound = ∥∥₁_map s.sound (λ p.
          let there : slice_get (children_of (look (held_of s.stores) s.here)) c.args.child ≡ Some c.in-Some.node = sym (c.child.ensures (stored_here _ _ _ _ _ p.0 p.1)) ∙ c.in-Some.is in
          (_, down_path _ _ _ s.path s.depth _ p.0 p.1 c.args.child c.in-Some.node (omega (arith, s.within)) there));
    }

pub returns-clause-moved : goal.returns-clause-moved
returns-clause-moved c m is =
    let s = c.args.self.now in
    let there : slice_get (children_of (look (held_of s.stores) s.here)) c.args.child ≡ Some c.in-Some.node = sym (c.child.ensures (stored_here _ _ _ _ _ m is)) ∙ c.in-Some.is in
    let has : is_some (at_place m.whole (m.place ++ c.args.child ∷ [])) ≡ true = has_child _ _ _ _ _ m is c.args.child ∙ ap is_some there in
    let deep : length m.place ≡ s.depth = place_is _ _ _ s.path s.depth _ m is (omega (arith, s.within)) in
    (_, Enters.enters s.here is.at_cursor (has, (omega (arith, s.within), tt)), down_path _ _ _ s.path s.depth _ m is c.args.child c.in-Some.node (omega (arith, s.within)) there)
