-- What is decided of the cursor's number is what is decided of its node.
use Rattle.std.proofs.Common.{◌≡◌, ◌≤◌, length, Some, None, Option, refl, sym, ap, subst, ◌∙◌}
use Rattle.tree.specs.declared.node.Node.{Node}
use Rattle.tree.specs.declared.role.Sort.TheVariants.{IsExpression}
use Rattle.tree.specs.Tree.{Tree, own_of, at_place}
use Rattle.tree.specs.Lawful.{sort_of}
use Rattle.tree.specs.Roles.{sort_of_node}
use Rattle.store.specs.Stores.{held_of, Shows}
use Rattle.host.specs.Answers.{Answers}
use Rattle.meaning.specs.Expression.{Expression}
use Rattle.meaning.specs.Trees.{tree_of}
use Rattle.rules.specs.Deciding.{decided}
use Rattle.rules.specs.Places.{Role}
use Rattle.rules.proofs.Payoffs.{sort_is}
use Rattle.deciding.specs.declared.plan.Decision.{Decision}
use Rattle.deciding.specs.declared.plan.Decision.TheVariants.{Kept}
use Rattle.deciding.specs.Plans.{DecisionOf, DecidesOf, WritesOf}
use Rattle.model.specs.Model.{Model, At}
use Rattle.model.specs.Places.{role_at}
use Rattle.model.specs.Tries.{Rule, deciding}
use Rattle.session.specs.declared.session.Session.{Session}
use Rattle.session.specs.Following.{Is, given_of}
use Rattle.session.specs.Trying.{Decides}
use Rattle.session.proofs.Here.{top_here, same_here, stands_here, sort_read}

module _ (a : Answers) (k : Rule) (s : Session) (r : Option Node) (shown : Shows (held_of s.stores) s.here r) where
  -- There is a record, since the cursor's number denotes a tree.
  pub no_record : (d : Decision) → r ≡ None → Decides a k s d
  no_record d e =
      let never : (m : Model) → Is s m → ⊥ = λ m is.
      let t = top_here _ _ _ _ _ m is in
      subst (λ o. Shows (held_of s.stores) s.here o) e shown t.0 t.2 t.3 in
      record { of_expression = λ m is x at. absurd (never m is); writes = λ m is x at. absurd (never m is); of_other = λ m is t e' n. absurd (never m is) }

  module _ (n : Node) (there : r ≡ Some n) where
    sorted : (m : Model) → Is s m → (t : Tree) → at_place m.whole m.place ≡ Some t → sort_of (own_of t) ≡ sort_of_node n
    sorted m is t e =
        let h = same_here _ _ _ _ _ m is t e in
        let top = subst (λ o. Shows (held_of s.stores) s.here o) there shown t h.0 h.1 in
        sort_read (held_of s.stores).text n t top.0

    -- No expression is kept.
    pub other_kept : (sort_of_node n ≡ IsExpression → ⊥) → Decides a k s Kept
    other_kept other =
        let never : (m : Model) → Is s m → (x : Expression) → At m x → ⊥ = λ m is x at. other (sym (sorted m is (tree_of x) at.1) ∙ sort_is x) in
        record { of_expression = λ m is x at. absurd (never m is x at); writes = λ m is x at. tt; of_other = λ m is t e o. refl }

    -- An expression is decided of in the role that it has.
    pub expression_decided : (role : Role) (d : Decision) → sort_of_node n ≡ IsExpression → ((m : Model) → Is s m → role ≡ role_at m.whole m.place)
        → (length (held_of s.stores).nodes ≤ 4096 → DecidesOf (held_of s.stores) s.here (λ x. decided a (deciding k (given_of s).supported (length (held_of s.stores).nodes) role x)) d)
        → WritesOf (held_of s.stores) s.here d → Decides a k s d
    expression_decided role d sort taken decides writes = record {
      of_expression = λ m is x at.
          subst (λ i. DecisionOf (held_of s.stores) (decided a (deciding k (given_of s).supported i (role_at m.whole m.place) x)) d) (sym (ap (λ c. c.nodes) is.held))
          (subst (λ p. DecisionOf (held_of s.stores) (decided a (deciding k (given_of s).supported (length (held_of s.stores).nodes) p x)) d) (taken m is)
          (decides is.limited.0 x (stands_here _ _ _ _ _ m is x at)));
      writes = λ m is x at. writes x (stands_here _ _ _ _ _ m is x at);
      of_other = λ m is t e o. absurd (o (sorted m is t e ∙ sort));
    }
