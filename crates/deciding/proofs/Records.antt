-- The record at a number that stands for a part.
use Rattle.std.proofs.Common.{◌≡◌, ℕ, Bool, true, false, cond, List, Some, None, Option, refl, sym, ap, subst, ◌∙◌}
use Rattle.std.specs.List.{slice_get}
use Rattle.tree.specs.declared.node.Node.{Node}
use Rattle.tree.specs.Tree.{Own, Look, Tree, tree, label, labels, own_of, below, Denotes}
use Rattle.tree.specs.Heap.{Held, look, read, own, children, inside}
use Rattle.meaning.specs.Expression.{Expression}
use Rattle.meaning.specs.Parts.{Part, part_tree}
use Rattle.deciding.specs.Standing.{Stands}
use Rattle.deciding.specs.Meant.{Meant}
use Rattle.deciding.proofs.Meaning.{meant}

-- By the expression that a part is, no other is equal to it.
pub same_expression : {x y : Expression} → Part.expression x ≡ Part.expression y → y ≡ x
same_expression e = cc

-- It is there, its pieces lie within the stores, and it says what the number stands for.
pub record Recorded (h : Held) (n : ℕ) (p : Part) : Type 0 where
  pub node : Node
  pub there : slice_get h.nodes n ≡ Some node
  pub within : inside h.entries h.text node ≡ true
  pub owned : own_of (part_tree p) ≡ own h.text node
  pub says : Meant h node p

top : (h : Look) (t : Tree) → Denotes h t → h (label t) ≡ Some (own_of t, labels (below t))
top h (tree l o ts) d = d.0

record Opened (es bytes : List ℕ) (o : Option Node) (w : Own) (cs : List ℕ) : Type 0 where
  node : Node
  there : o ≡ Some node
  within : inside es bytes node ≡ true
  owned : w ≡ own bytes node
  linked : cs ≡ children es node

some_same : {A : Type 0} {x y : A} → Some x ≡ Some y → x ≡ y
some_same e = cc

opened_if : (es bytes : List ℕ) (r : Node) (w : Own) (cs : List ℕ) (b : Bool) → inside es bytes r ≡ b → cond {A = Option (Own × List ℕ)} b (Some (own bytes r, children es r)) None ≡ Some (w, cs) → Opened es bytes (Some r) w cs
opened_if es bytes r w cs true i e =
    let same = some_same e in
    record { node = r; there = refl; within = i; owned = sym (ap (λ z. z.0) same); linked = sym (ap (λ z. z.1) same) }
opened_if es bytes r w cs false i e = absurd (cc)

opened : (es bytes : List ℕ) (o : Option Node) (w : Own) (cs : List ℕ) → read es bytes o ≡ Some (w, cs) → Opened es bytes o w cs
opened es bytes None w cs e = absurd (cc)
opened es bytes (Some r) w cs e = opened_if es bytes r w cs (inside es bytes r) refl e

pub recorded : (h : Held) (n : ℕ) (p : Part) → Stands h n p → Recorded h n p
recorded h n p s =
    let o = opened h.entries h.text (slice_get h.nodes n) (own_of (part_tree p)) (labels (below (part_tree p))) (ap (look h) (sym s.numbered) ∙ top (look h) (part_tree p) s.denoted) in
    record { node = o.node; there = o.there; within = o.within; owned = o.owned; says = meant h n o.node p s o.owned o.linked }

-- What was read there says so.
pub record Read (h : Held) (r : Node) (p : Part) : Type 0 where
  pub within : inside h.entries h.text r ≡ true
  pub owned : own_of (part_tree p) ≡ own h.text r
  pub says : Meant h r p

pub read_there : {h : Held} {n : ℕ} {p : Part} {o : Option Node} {r : Node} → Stands h n p → o ≡ slice_get h.nodes n → o ≡ Some r → Read h r p
read_there {h} {n} {p} {o} {r} s e f =
    let t = recorded h n p s in
    let same : t.node ≡ r = some_same (sym t.there ∙ sym e ∙ f) in
    subst (λ q. Read h q p) same (record { within = t.within; owned = t.owned; says = t.says })

pub not_missing : {A : Type 0} {h : Held} {n : ℕ} {p : Part} {o : Option Node} → Stands h n p → o ≡ slice_get h.nodes n → o ≡ None → A
not_missing {h = h} {n = n} {p = p} s e f = let t = recorded h n p s in absurd (cc (t.there, e, f))
