-- A tree is lawful where each of its numbers is stored lawfully.
use Rattle.std.proofs.Common.{◌≡◌, ℕ, suc, ◌≤◌, true, subst, arith}
use Rattle.tree.specs.Tree.{Own, Tree, Trees, tree, none, more, label, labels, own_of, uses_all, Look, Denotes, DenoteAll}
use Rattle.tree.specs.declared.role.Role.{Role}
use Rattle.tree.specs.Lawful.{role, sort_of, admits, LawfulBelow, AdmitsRow, AdmitsAll, OwnRow, ChildrenRow}
use Rattle.tree.specs.Laws.{LawfulNumbersMakeALawfulTree}
use Rattle.tree.proofs.Counting.{same_self}

admitted : (h : Look) (r : Role) (t : Tree) → Denotes h t → AdmitsRow r (h (label t)) → admits r (sort_of (own_of t)) ≡ true
admitted h r (tree l o ts) d a = subst (AdmitsRow r) d.0 a

mutual
  pub lawful_tree : LawfulNumbersMakeALawfulTree
  lawful_tree h (tree l o ts) d each =
      let here = each l (omega (arith, same_self l)) in
      (subst OwnRow d.0 here.0, lawful_below h o 0 ts d.1 (subst (ChildrenRow h) d.0 here.1) (λ x u. each x (omega arith)))

  lawful_below : (h : Look) (o : Own) (k : ℕ) (ts : Trees) → DenoteAll h ts → AdmitsAll h o k (labels ts) → ((x : ℕ) → 1 ≤ uses_all x ts → OwnRow (h x) × ChildrenRow h (h x)) → LawfulBelow o k ts
  lawful_below h o k none d a each = tt
  lawful_below h o k (more t ts) d a each = (
    admitted h (role o k) t d.0 a.0,
    lawful_tree h t d.0 (λ x u. each x (omega arith)),
    lawful_below h o (suc k) ts d.1 a.1 (λ x u. each x (omega arith)),
  )
