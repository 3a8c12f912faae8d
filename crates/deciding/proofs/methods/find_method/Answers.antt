use Rattle.std.proofs.Common.{◌≡◌, false, Some, rules, subst, sym, ap, ◌∙◌}
use Rattle.tree.specs.Heap.{own}
use Rattle.store.specs.Stores.{held_of}
use Rattle.meaning.specs.Expression.{Expression}
use Rattle.meaning.specs.Parts.{Part}
use Rattle.deciding.specs.Standing.{Stands}
use Rattle.deciding.proofs.Records.{Read, read_there}
use Rattle.deciding.proofs.Callees.{is_member, string_there, not_a_member, not_a_key, Found, static_found, keyed_found, none_found, one_found}
use Rattle.deciding.proofs.methods.find_method.Goals as goal
use Rattle.deciding.proofs.methods.find_method.Goals.{After-text, in-StaticMember, in-ComputedMember+in-Some-String, in_default-node-via-in-Some+in_default, in_default-node-via-in_default}

pub returns-in_default : goal.returns-in_default
returns-in_default c f s =
    let e : is_member (own (held_of c.args.stores.now).text c.in_ok-object.field-0) ≡ false = search rules in
    not_a_member (read_there s c.node.ensures.held c.in_ok-object.was) e

pub returns-in_default-node : goal.returns-in_default-node
returns-in_default-node c f s =
    let e : string_there (held_of c.args.stores.now).text c.node-in-ComputedMember.result ≡ false =
    elim c.in_default-node.branch [ in_default-node-via-in-Some+in_default w ↦ search rules | in_default-node-via-in_default w ↦ search rules ]
    in
    not_a_key (subst (λ r. Read (held_of c.args.stores.now) r (Part.expression f)) c.in-ComputedMember.is (read_there s c.node.ensures.held c.in_ok-object.was)) c.node-in-ComputedMember.ensures.held e

-- The name and the object that were read are those of the method.
found : (c : After-text) (f : Expression) → Stands (held_of c.args.stores.now) c.args.callee (Part.expression f) → Found (held_of c.args.stores.now) f c.match-branch-2.object.0 c.match-branch-2.object.1
found c f s =
    let h = held_of c.args.stores.now in
    let m = read_there s c.node.ensures.held c.in_ok-object.was in
    elim c.match-branch-2.branch [
      | in-StaticMember w ↦ subst (λ t. Found h f t.0 t.1) (sym w.object-is) (static_found (subst (λ r. Read h r (Part.expression f)) w.in-StaticMember.is m))
      | in-ComputedMember+in-Some-String w ↦
          let string_read = w.in-Some-String.is ∙ ap (λ r. Some r) w.in-Some-String.field-0-is in
          subst (λ t. Found h f t.0 t.1) (sym w.object-is) (keyed_found (subst (λ r. Read h r (Part.expression f)) w.in-ComputedMember.is m) w.node-in-ComputedMember.ensures.held string_read)
    ]

pub returns-in_err-text : goal.returns-in_err-text
returns-in_err-text c f s = none_found (found (goal.at.returns-in_err-text c).After-text f s) c.in_err-text.ensures

pub returns : goal.returns
returns c f s = one_found _ (found (goal.at.returns c).After-text f s) c.in_ok-text.ensures
