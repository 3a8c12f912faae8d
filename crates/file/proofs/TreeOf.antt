-- The root of lawful nodes denotes one payoff.
use Rattle.std.proofs.Common.{◌≡◌, ℕ, suc, ◌+◌, ◌<◌, ◌≤◌, true, cond, List, [], ◌∷◌, length, is_some, Some, None, Option, sym, refl, ap, ◌∙◌, subst, inl, inr, arith}
use Rattle.std.specs.List.{slice_get}
use Rattle.std.proofs.lemmas.Bool.{cases_eq, cases_lt, ne_eqb}
use Rattle.tree.specs.declared.role.Sort.TheVariants.{IsExpression}
use Rattle.tree.specs.Tree.{Own, Tree, tree, label, own_of, uses, Look, children_of, Denotes}
use Rattle.tree.specs.declared.node.Node.{Node}
use Rattle.tree.specs.Heap.{Held, read, look}
use Rattle.tree.specs.Lawful.{sort_of, role, AdmitsRow, AdmitsAll, OwnRow, ChildrenRow}
use Rattle.tree.specs.Laws.{count, parents, LinkedOnce}
use Rattle.tree.proofs.Counting.{same_other}
use Rattle.tree.proofs.Gathering.{one_tree_of_all}
use Rattle.tree.proofs.Judging.{lawful_tree}
use Rattle.tree.proofs.Records.{read_inside}
use Rattle.file.specs.Payoff.{DenotesPayoff}
use Rattle.file.specs.Lawful.{LawfulNode, LinksRow, ExpressionRow, LawfulHeld}
use Rattle.file.proofs.Following.{nth_none}

-- What stands in a list has a place there.
pub counted_there : (ks : List ℕ) (c : ℕ) → 1 ≤ count c ks → (k : ℕ) × (slice_get ks k ≡ Some c)
counted_there [] c one = absurd (omega arith)
counted_there (x ∷ ks) c one =
    elim (cases_eq c x) [
      | inl e ↦ (0, ap (λ y. Some y) (sym e))
      | inr ne ↦ let rest = counted_there ks c (omega (arith, same_other c x ne)) in (suc rest.0, rest.1)
    ]

-- The rows that are stored, and their links.
lower_row : (h : Look) (x c : ℕ) (r : Option (Own × List ℕ)) → LinksRow h x r → 1 ≤ count c (children_of r) → c < x
lower_row h x c None links one = absurd links
lower_row h x c (Some p) links one = let k = counted_there p.1 c one in (links k.0 c k.1).0

admits_from : (h : Look) (o : Own) (j : ℕ) (ks : List ℕ) → ((k c : ℕ) → slice_get ks k ≡ Some c → AdmitsRow (role o (j + k)) (h c)) → AdmitsAll h o j ks
admits_from h o j [] each = tt
admits_from h o j (c ∷ ks) each =
    let here : j + 0 ≡ j = omega arith in (
      subst (λ i. AdmitsRow (role o i) (h c)) here (each 0 c refl),
      admits_from h o (suc j) ks (λ k d e. let next : j + suc k ≡ suc j + k = omega arith in subst (λ i. AdmitsRow (role o i) (h d)) next (each (suc k) d e)),
    )

children_row : (h : Look) (x : ℕ) (r : Option (Own × List ℕ)) → LinksRow h x r → ChildrenRow h r
children_row h x None links = links
children_row h x (Some p) links =
    admits_from h p.0 0 p.1 (λ k c e. let here : k ≡ 0 + k = omega arith in subst (λ i. AdmitsRow (role p.0 i) (h c)) here (links k c e).1)

own_row : (h : Held) (x : ℕ) → x < length h.nodes → ((n : Node) → slice_get h.nodes x ≡ Some n → LawfulNode h.entries h.text n) → OwnRow (look h x)
own_row h x lt all = go (slice_get h.nodes x) refl
  where
    go : (o : Option Node) → slice_get h.nodes x ≡ o → OwnRow (read h.entries h.text o)
    go None e = omega (arith, nth_none h.nodes x e)
    go (Some n) e = let ok = all n e in subst OwnRow (sym (read_inside h.entries h.text n ok.0)) ok.1

own_there : (r : Option (Own × List ℕ)) → OwnRow r → is_some r ≡ true
own_there None o = absurd o
own_there (Some p) o = refl

top_sort : (h : Look) (t : Tree) → Denotes h t → ExpressionRow (h (label t)) → sort_of (own_of t) ≡ IsExpression
top_sort h (tree l o ts) d e = subst ExpressionRow d.0 e

module _ (h : Held) (top : ℕ) (f : LawfulHeld h top) where
  stored : (x : ℕ) → x < length h.nodes → OwnRow (look h x)
  stored x lt = own_row h x lt (f.nodes_lawful x)

  linked_once : LinkedOnce (look h) top
  linked_once =
      let last : suc top ≡ length h.nodes = f.root_lawful.0 in
      record {
        there = λ x le. own_there (look h x) (stored x (omega arith));
        lower = λ x k le one. lower_row (look h) x k (look h x) (f.links_lawful x (omega arith)).0 one;
        once = λ k lt.
            ap (λ n. parents (look h) n k) last
            ∙ (f.links_lawful k (omega arith)).1
            ∙ ap (λ b. cond b 0 1) (ne_eqb (suc k) (length h.nodes) (λ e. omega arith));
      }

  pub payoff_of : (t : Tree) × DenotesPayoff h top t
  payoff_of =
      let last : suc top ≡ length h.nodes = f.root_lawful.0 in
      let g = one_tree_of_all (look h) top linked_once in
      let t = g.0 in
      let low : (x : ℕ) → 1 ≤ uses x t → x < length h.nodes = λ x u. elim (cases_lt x (length h.nodes)) [ inl a ↦ a | inr b ↦ absurd (omega (arith, g.4 x (omega arith))) ] in (
        t,
        record {
          rooted = g.1;
          denoted = g.2;
          lawful = (
            lawful_tree (look h) t g.2 (λ x u. (stored x (low x u), children_row (look h) x (look h x) (f.links_lawful x (low x u)).0)),
            top_sort (look h) t g.2 (subst (λ x. ExpressionRow (look h x)) (sym g.1) f.root_lawful.1),
          );
          once = λ x lt. g.3 x (omega arith);
          no_other = λ x le. g.4 x (omega arith);
        },
      )
