-- What is stored at a number, and that larger stores store the same.
use Rattle.std.proofs.Common.{◌≡◌, ℕ, true, List, ◌++◌, is_some, Some, None, Option, sym, refl, ap, ◌∙◌, arith}
use Rattle.std.specs.List.{slice_get}
use Rattle.tree.specs.declared.node.Node.{Node}
use Rattle.tree.specs.Tree.{Own, Tree, Denotes}
use Rattle.tree.specs.Heap.{Held, own, children, inside, read, look, grown}
use Rattle.tree.proofs.Cuts.{nth_append_left}
use Rattle.tree.proofs.Denoting.{filled, frame, used}
use Rattle.tree.proofs.Records.{reads, read_more}

-- The record behind what is stored.
pub stored : (h : Held) (x : ℕ) (o : Own) (ks : List ℕ) → look h x ≡ Some (o, ks)
    → (n : Node) × (slice_get h.nodes x ≡ Some n) × (inside h.entries h.text n ≡ true) × (own h.text n ≡ o) × (children h.entries n ≡ ks)
stored h x o ks e = go (slice_get h.nodes x) refl e
  where
    go : (r : Option Node) → slice_get h.nodes x ≡ r → read h.entries h.text r ≡ Some (o, ks)
        → (n : Node) × (slice_get h.nodes x ≡ Some n) × (inside h.entries h.text n ≡ true) × (own h.text n ≡ o) × (children h.entries n ≡ ks)
    go None f e' = absurd (let z : ◌≡◌ {A = ℕ} 0 1 = cc in omega arith)
    go (Some n) f e' = let r = reads h.entries h.text n o ks e' in (n, f, r.0, r.1, r.2)

pub look_more : (h extra : Held) (x : ℕ) → is_some (look h x) ≡ true → look (grown h extra) x ≡ look h x
look_more h extra x s =
    let f = filled (look h) x s in
    let r = stored h x f.0 f.1 f.2 in
    ap (read (h.entries ++ extra.entries) (h.text ++ extra.text)) (nth_append_left h.nodes extra.nodes x r.0 r.1)
    ∙ read_more h.entries h.text r.0 extra.entries extra.text r.2
    ∙ ap (read h.entries h.text) (sym r.1)

-- A tree that is denoted is denoted in larger stores.
pub grows : (h extra : Held) (t : Tree) → Denotes (look h) t → Denotes (look (grown h extra)) t
grows h extra t d = frame (look h) (look (grown h extra)) t d (λ x u. look_more h extra x (used (look h) x t d u))
