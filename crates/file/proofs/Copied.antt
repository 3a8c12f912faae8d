-- A store that is filled item by item.
use Rattle.std.proofs.Common.{◌≡◌, ℕ, ◌+◌, ◌<◌, ◌≤◌, List, [], ◌∷◌, ◌++◌, map, length, take, drop, Some, Ok, Err, Result, IsOk, refl, sym, ap, ◌∙◌, subst, inl, inr, arith, length-append, length-drop}
use Rattle.std.specs.List.{slice_get}
use Rattle.std.proofs.lemmas.List.{map-append, length-map, length-take-le, take_more}
use Rattle.std.proofs.lemmas.Option.{slice_get_within, get_or_from_slice_get}
use Rattle.base.specs.declared.fault.Fault.{Fault}
use Rattle.base.proofs.Fronts.{drop_front}
use Rattle.store.specs.declared.store.Store.{Store}
use Rattle.store.specs.Held.{lent, held, room, Refilled, AppendsTo}
use Rattle.tree.specs.declared.node.Node.{Node}
use Rattle.file.specs.declared.record.Record.{Record}
use Rattle.file.specs.Format.{record_of}

-- Appending to a store that is refilled so far, where it has room.
refilled_fits : {T : Type 0} (old mid new : Store T) (xs more : List T) (r : Result (Unit {0}) Fault) → Refilled old xs mid → length xs + length more ≤ room old → AppendsTo mid more new r → IsOk r
refilled_fits old mid new xs more (Ok u) f le a = refl
refilled_fits old mid new xs more (Err e) f le a =
    let fits : length (held mid) + length more ≤ room mid =
    omega (arith, ap length f.0, ap length f.1, length-append xs (drop (length xs) (lent old)), length-drop (length xs) (lent old)) in
    absurd (elim a.2 [ inl short ↦ short.1 fits | inr b ↦ b.1 ])

refilled_more : {T : Type 0} (old mid new : Store T) (xs more : List T) (u : Unit {0}) → Refilled old xs mid → AppendsTo mid more new (Ok u) → Refilled old (xs ++ more) new
refilled_more old mid new xs more u f a =
    let n = length (xs ++ more) in
    let low : length xs ≤ n = omega (arith, length-append xs more) in (
      a.0.0 ∙ ap (λ ys. ys ++ more) f.0,
      a.0.1
          ∙ ap (λ ys. (ys ++ more) ++ drop (length (ys ++ more)) (lent mid)) f.0
          ∙ ap (λ m. (xs ++ more) ++ drop n m) f.1
          ∙ ap (λ zs. (xs ++ more) ++ zs) (drop_front (lent old) xs n low),
    )

-- The first i items are in the store, and the next one is appended.
pub next_item : {T : Type 0} (xs : List T) (i : ℕ) (x : T) (old mid new : Store T) (u : Unit {0}) → Refilled old (take i xs) mid → slice_get xs i ≡ Some x → AppendsTo mid (x ∷ []) new (Ok u)
    → Refilled old (take (i + 1) xs) new
next_item xs i x old mid new u f e a =
    let lt = slice_get_within xs i x e in
    let more : take (i + 1) xs ≡ take i xs ++ x ∷ [] = take_more xs i x lt ∙ ap (λ y. take i xs ++ y ∷ []) (get_or_from_slice_get xs i x x e) in
    subst (λ ys. Refilled old ys new) (sym more) (refilled_more old mid new (take i xs) (x ∷ []) u f a)

-- A store is refilled with the nodes of the first x records.
abbrev pub NodesUpTo : List Record → ℕ → Store Node → Store Node → Type 0
NodesUpTo records x old new = (ns : List Node) × Refilled old ns new × (map record_of ns ≡ take x records)

pub next_node : (records : List Record) (x : ℕ) (n : Node) (old mid new : Store Node) (u : Unit {0}) → NodesUpTo records x old mid → slice_get records x ≡ Some (record_of n) → AppendsTo mid (n ∷ []) new (Ok u) → NodesUpTo records (x + 1) old new
next_node records x n old mid new u f e a =
    let ns = f.0 in
    let lt = slice_get_within records x (record_of n) e in (
      ns ++ n ∷ [],
      refilled_more old mid new ns (n ∷ []) u f.1 a,
      map-append record_of ns (n ∷ [])
          ∙ ap (λ rs. rs ++ record_of n ∷ []) f.2
          ∙ ap (λ r'. take x records ++ r' ∷ []) (sym (get_or_from_slice_get records x (record_of n) (record_of n) e))
          ∙ sym (take_more records x (record_of n) lt),
    )

-- There is room for it.
pub node_fits : (records : List Record) (x : ℕ) (n : Node) (old mid new : Store Node) (r : Result (Unit {0}) Fault) → NodesUpTo records x old mid → x < length records → length records ≤ room old → AppendsTo mid (n ∷ []) new r → IsOk r
node_fits records x n old mid new r f lt le a =
    let many : length f.0 ≡ x = sym (length-map f.0 record_of) ∙ ap length f.2 ∙ length-take-le x records (omega arith) in
    refilled_fits old mid new f.0 (n ∷ []) r f.1 (omega arith) a
