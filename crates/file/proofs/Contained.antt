-- What a file holds, given that each of its records is lawful.
use Rattle.std.proofs.Common.{◌≡◌, ℕ, zero, suc, ◌+◌, ◌<◌, ◌≤◌, true, List, [], ◌∷◌, map, length, Some, None, Option, sym, refl, ap, ◌∙◌, arith}
use Rattle.std.specs.List.{slice_get}
use Rattle.std.proofs.lemmas.List.{length-map}
use Rattle.std.proofs.lemmas.Option.{slice_get-map}
use Rattle.std.specs.Option.{option_map}
use Rattle.tree.specs.declared.node.Node.{Node}
use Rattle.tree.specs.Heap.{Held, look, read, own, children, inside}
use Rattle.tree.proofs.Records.{read_inside}
use Rattle.file.specs.declared.record.Record.{Record}
use Rattle.file.specs.Format.{record_at, records, record_of}
use Rattle.file.specs.Layout.{Layout}
use Rattle.file.specs.Lawful.{Contents, LawfulRecord}
use Rattle.file.specs.Found.{AllRecords}
use Rattle.file.proofs.OneNode.{one_node}

pub nth_records : (rows : List ℕ) (x n k : ℕ) → k < n → slice_get (records rows x n) k ≡ Some (record_at rows (x + k))
nth_records rows x zero k lt = absurd (omega arith)
nth_records rows x (suc n) zero lt = let e : x ≡ x + 0 = omega arith in ap (λ i. Some (record_at rows i)) e
nth_records rows x (suc n) (suc k) lt = let e : suc x + k ≡ x + suc k = omega arith in nth_records rows (suc x) n k (omega arith) ∙ ap (λ i. Some (record_at rows i)) e

pub length_records : (rows : List ℕ) (x n : ℕ) → length (records rows x n) ≡ n
length_records rows x zero = refl
length_records rows x (suc n) = ap suc (length_records rows (suc x) n)

-- The nodes of the records from x on.
nodes_from : (l : Layout) (x n : ℕ) → ((y : ℕ) → x ≤ y → y < x + n → LawfulRecord l y) → (ns : List Node) × (map record_of ns ≡ records l.rows x n)
nodes_from l x zero all = ([], refl)
nodes_from l x (suc n) all =
    let r = all x (omega arith) (omega arith) in
    let rest = nodes_from l (suc x) n (λ y le lt. all y (omega arith) (omega arith)) in
    (r.0 ∷ rest.0, ap (λ a. a ∷ map record_of rest.0) r.1 ∙ ap (λ rs. record_at l.rows x ∷ rs) rest.1)

pub holding : (l : Layout) → AllRecords l → (h : Held) × Contents l h
holding l all =
    let ns = nodes_from l 0 l.count (λ y le lt. all y (omega arith)) in
    (record { nodes = ns.0; entries = l.entries; text = l.text }, record { recorded = ns.1; listed = refl; texted = refl })

pub how_many : (l : Layout) (h : Held) → Contents l h → length h.nodes ≡ l.count
how_many l h c = sym (length-map h.nodes record_of) ∙ ap length c.recorded ∙ length_records l.rows 0 l.count

-- The node of record x is the one that is held at x.
pub held_there : (l : Layout) (h : Held) (x : ℕ) (n : Node) → Contents l h → x < l.count → record_of n ≡ record_at l.rows x → slice_get h.nodes x ≡ Some n
held_there l h x n c lt e = go (slice_get h.nodes x) refl
  where
    there : option_map record_of (slice_get h.nodes x) ≡ Some (record_at l.rows x)
    there = sym (slice_get-map record_of h.nodes x) ∙ ap (λ rs. slice_get rs x) c.recorded ∙ nth_records l.rows 0 l.count x lt ∙ ap (λ i. Some (record_at l.rows i)) (omega arith)

    go : (o : Option Node) → slice_get h.nodes x ≡ o → slice_get h.nodes x ≡ Some n
    go None f = absurd (let g : ◌≡◌ {A = Option Record} None (Some (record_at l.rows x)) = ap (option_map record_of) (sym f) ∙ there in let z : ◌≡◌ {A = ℕ} 0 1 = cc in omega arith)
    go (Some m) f =
        let g : ◌≡◌ {A = Option Record} (Some (record_of m)) (Some (record_at l.rows x)) = ap (option_map record_of) (sym f) ∙ there in
        let k : record_of m ≡ record_at l.rows x = cc in
        f ∙ ap (λ a. Some a) (one_node m n (k ∙ sym e))

-- What is stored at x.
pub row_there : (l : Layout) (h : Held) (x : ℕ) (n : Node) → Contents l h → x < l.count → record_of n ≡ record_at l.rows x → inside l.entries l.text n ≡ true
    → look h x ≡ Some (own l.text n, children l.entries n)
row_there l h x n c lt e ok =
    ap (read h.entries h.text) (held_there l h x n c lt e)
    ∙ ap (λ es. read es h.text (Some n)) c.listed
    ∙ ap (λ bs. read l.entries bs (Some n)) c.texted
    ∙ read_inside l.entries l.text n ok

-- The record of the node that is held at x is record x.
pub recorded_there : (l : Layout) (h : Held) (x : ℕ) (n : Node) → Contents l h → x < l.count → slice_get h.nodes x ≡ Some n → record_of n ≡ record_at l.rows x
recorded_there l h x n c lt e =
    let f : ◌≡◌ {A = Option Record} (Some (record_of n)) (Some (record_at l.rows (0 + x))) =
    ap (option_map record_of) (sym e) ∙ sym (slice_get-map record_of h.nodes x) ∙ ap (λ rs. slice_get rs x) c.recorded ∙ nth_records l.rows 0 l.count x lt in
    let g : record_of n ≡ record_at l.rows (0 + x) = cc in
    g ∙ ap (record_at l.rows) (omega arith)

-- A file holds one thing.
one_list : (ns ms : List Node) → map record_of ns ≡ map record_of ms → ns ≡ ms
one_list [] [] e = refl
one_list [] (m ∷ ms) e = absurd (let z : ◌≡◌ {A = ℕ} 0 1 = cc in omega arith)
one_list (n ∷ ns) [] e = absurd (let z : ◌≡◌ {A = ℕ} 0 1 = cc in omega arith)
one_list (n ∷ ns) (m ∷ ms) e =
    let f : record_of n ≡ record_of m = cc in
    let g : map record_of ns ≡ map record_of ms = cc in
    let p = one_node n m f in
    let q = one_list ns ms g in
    cc

pub held_once : (l : Layout) (h k : Held) → Contents l h → Contents l k → h ≡ k
held_once l h k c d =
    let ns : h.nodes ≡ k.nodes = one_list h.nodes k.nodes (c.recorded ∙ sym d.recorded) in
    let es : h.entries ≡ k.entries = c.listed ∙ sym d.listed in
    let ts : h.text ≡ k.text = c.texted ∙ sym d.texted in
    ap (λ a. record { nodes = a; entries = h.entries; text = h.text }) ns
    ∙ ap (λ a. record { nodes = k.nodes; entries = a; text = h.text }) es
    ∙ ap (λ a. record { nodes = k.nodes; entries = k.entries; text = a }) ts
