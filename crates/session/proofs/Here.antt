-- The cursor's node, and what stands there.
use Rattle.std.proofs.Common.{◌≡◌, ℕ, ◌+◌, ◌<◌, ◌≤◌, arith, List, length, Some, None, Option, refl, sym, ap, subst, ◌∙◌}
use Rattle.tree.specs.declared.node.Node.{Node}
use Rattle.tree.specs.declared.role.Sort.TheVariants.{IsExpression}
use Rattle.tree.specs.Tree.{Tree, tree, label, labels, own_of, below, Denotes, at_place}
use Rattle.tree.specs.Heap.{Held, look, own, links, list_of}
use Rattle.tree.specs.Lawful.{sort_of}
use Rattle.tree.specs.Roles.{sort_of_node}
use Rattle.tree.proofs.Places.{labelled, denotes_place}
use Rattle.meaning.specs.Expression.{Expression}
use Rattle.meaning.specs.Parts.{Part}
use Rattle.meaning.specs.Trees.{tree_of}
use Rattle.meaning.proofs.Reading.{one_expression}
use Rattle.deciding.specs.Standing.{Stands}
use Rattle.deciding.proofs.Picked.{any_text}
use Rattle.model.specs.Model.{Model, At}
use Rattle.model.proofs.Lawful.{lawful_place}
use Rattle.session.specs.declared.step.Step.{Step}
use Rattle.session.specs.Models.{Models}
use Rattle.session.specs.declared.session.Session.{Session}
use Rattle.session.specs.Following.{Is}
use Rattle.store.specs.Stores.{held_of, Shows, ShowsTop}
use Rattle.tree.proofs.Records.{length_children}
use Rattle.std.proofs.lemmas.Bool.{and_parts, leb-true}

-- A record that was read says of which sort its node is.
pub sort_read : (bytes : List ℕ) (n : Node) (t : Tree) → own_of t ≡ own bytes n → sort_of (own_of t) ≡ sort_of_node n
sort_read bytes n t e = ap sort_of e ∙ any_text n bytes

module _ (h : Held) (root here : ℕ) (trail : List Step) (count : ℕ) (m : Model) (is : Models h root here trail count m) where
  pub top_here : (t : Tree) × (at_place m.whole m.place ≡ Some t) × (label t ≡ here) × Denotes (look h) t
  top_here =
      let l = labelled (at_place m.whole m.place) here is.at_cursor in
      (tree here l.0 l.1, l.2, refl, denotes_place (look h) m.whole m.place (tree here l.0 l.1) l.2 is.denoted)

  some_same : (t u : Tree) → ◌≡◌ {A = Option Tree} (Some t) (Some u) → t ≡ u
  some_same t u e = cc

  -- The only tree there.
  pub same_here : (t : Tree) → at_place m.whole m.place ≡ Some t → (label t ≡ here) × Denotes (look h) t
  same_here t e =
      let f : top_here.0 ≡ t = some_same top_here.0 t (sym top_here.1 ∙ e) in
      (ap label (sym f) ∙ top_here.2, subst (Denotes (look h)) f top_here.3)

  pub stands_here : (x : Expression) → At m x → Stands h here (Part.expression x)
  stands_here x at =
      let s = same_here (tree_of x) at.1 in
      record { numbered = s.0; denoted = s.1; lawful = lawful_place m.whole m.place (tree_of x) at.1 is.sound.payoff.0; spelled = at.0 }

  -- A node that is an expression's is stored as one.
  pub expression_here : (t : Tree) → at_place m.whole m.place ≡ Some t → sort_of (own_of t) ≡ IsExpression → (x : Expression) × At m x
  expression_here t e sort =
      let r = one_expression t (lawful_place m.whole m.place t e is.sound.payoff.0, sort) in
      (r.0, (r.1.0, e ∙ ap (λ u. Some u) (sym r.1.1)))

-- ---- how many children it has

few_links : (n : Node) → length (links n) ≤ 2
few_links (Node.String t) = omega arith
few_links (Node.Number n) = omega arith
few_links (Node.Boolean b) = omega arith
few_links Node.Null = omega arith
few_links (Node.Name t) = omega arith
few_links Node.Hole = omega arith
few_links (Node.Spread x) = omega arith
few_links (Node.Array es) = omega arith
few_links (Node.StaticMember x p) = omega arith
few_links (Node.ComputedMember x k) = omega arith
few_links (Node.Call f es) = omega arith
few_links (Node.Template es) = omega arith
few_links (Node.Quasi r c) = omega arith
few_links (Node.Unary op x) = omega arith
few_links (Node.Binary op x y) = omega arith
few_links (Node.Opaque es m f) = omega arith

module _ (s : Session) (m : Model) (is : Is s m) (r : Option Node) (shown : Shows (held_of s.stores) s.here r) where
  pub some_record : r ≡ None → ⊥
  some_record e = let t = top_here _ _ _ _ _ m is in subst (λ o. Shows (held_of s.stores) s.here o) e shown t.0 t.2 t.3

  module _ (n : Node) (there : r ≡ Some n) (t : Tree) (at : at_place m.whole m.place ≡ Some t) where
    shows : ShowsTop (held_of s.stores) (Some n) t
    shows = let h = same_here _ _ _ _ _ m is t at in subst (λ o. Shows (held_of s.stores) s.here o) there shown t h.0 h.1

    pub children_counted : length (links n) + (list_of n).len ≡ length (labels (below t))
    children_counted = omega (arith, ap length shows.1, length_children (held_of s.stores).entries (held_of s.stores).text n shows.2)

    pub few_children : length (links n) + (list_of n).len < 0x100000000
    few_children = omega (
      arith,
      few_links n,
      leb-true ((list_of n).start + (list_of n).len) (length (held_of s.stores).entries) (and_parts _ _ shows.2).0,
      is.limited.1,
    )
