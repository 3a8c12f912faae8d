-- How the places of a payoff's tree take their nodes.
use Rattle.std.specs.Prelude.{ℕ, zero, suc, cond, List, [], ◌∷◌, bytes_eq}
use Rattle.text.specs.Stored.{stored}
use Rattle.tree.specs.declared.node.FirstChild.TheVariants.{Reference}
use Rattle.tree.specs.Tree.{Own, Tree, Trees, tree, none, more, static_member, call, opaque}
use Rattle.meaning.specs.Methods.{concat_name}
use Rattle.rules.specs.Places.{Role}

-- How a node takes its first child: a static member `concat` as its object, a call as its callee, and some opaque nodes
-- as a reference. ECMA-262, "Property Accessors", "Function Calls", "The delete Operator" and "Tagged Templates".
abbrev pub takes_first : Own → Role
takes_first (static_member p) = cond (bytes_eq p (stored concat_name)) Role.concat_object Role.ordinary
takes_first call = Role.referred
takes_first (opaque m Reference) = Role.referred
takes_first o = Role.ordinary

-- And its child i.
abbrev pub takes : Own → ℕ → Role
takes o zero = takes_first o
takes o (suc i) = Role.ordinary

abbrev mutual
  -- How the node at a place is taken, by what is said of the topmost one.
  pub role_from : Role → Tree → List ℕ → Role
  role_from r (tree l o ts) [] = r
  role_from r (tree l o ts) (i ∷ p) = role_among (takes o i) ts i p

  pub role_among : Role → Trees → ℕ → List ℕ → Role
  role_among r none i p = r
  role_among r (more t ts) zero p = role_from r t p
  role_among r (more t ts) (suc i) p = role_among r ts i p

-- How the node at a place is taken. The topmost one gives the payoff's value.
abbrev pub role_at : Tree → List ℕ → Role
role_at t p = role_from Role.ordinary t p
