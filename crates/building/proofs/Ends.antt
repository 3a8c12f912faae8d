-- What stands at the end of a store that has grown.
use Rattle.std.proofs.Common.{◌≡◌, ℕ, ◌+◌, ◌-◌, true, List, [], ◌∷◌, ◌++◌, length, take, ap, ap₂, ◌∙◌, inl, inr, arith, length-append}
use Rattle.std.proofs.Math.Seq.{take-length, drop-append_seam}
use Rattle.std.proofs.lemmas.Bool.{le-leb}
use Rattle.base.specs.declared.fault.Fault.{Fault}
use Rattle.base.specs.Questions.{Refuses}
use Rattle.store.specs.declared.store.Store.{Store}
use Rattle.store.specs.declared.stores.Stores.{Stores}
use Rattle.store.specs.Held.{held, Refilled}
use Rattle.tree.specs.Heap.{within, cut}
use Rattle.building.specs.Growing.{GrowsBy, some_bytes, some_entries}
use Rattle.building.proofs.Grown.{grows_none}

-- A piece that reaches from the former end to the end is what was appended.
module _ {X : Type 0} (xs ys : List X) (start len : ℕ) (e : start ≡ length xs) (f : len ≡ length (xs ++ ys) - length xs) where
  as_long : len ≡ length ys
  as_long = omega (arith, f, length-append xs ys)

  pub ends_within : within (xs ++ ys) start len ≡ true
  ends_within = le-leb (start + len) (length (xs ++ ys)) (omega (arith, e, as_long, length-append xs ys))

  pub ends_with : cut (xs ++ ys) start len ≡ ys
  ends_with = ap₂ (λ i j. cut (xs ++ ys) i j) e as_long ∙ ap (take (length ys)) (drop-append_seam xs ys) ∙ take-length ys

-- Where there is room, nothing is refused for want of it.
pub refused_less : {P : Type 0} (e : Fault) → P → Refuses (((13, 0), P) ∷ []) e → ⊥
refused_less e p (inl r) = r.1 p
refused_less e p (inr r) = r.1

-- Stores of which one grew.
pub text_grown : (a : Stores) (t : Store ℕ) (bytes : List ℕ) → Refilled a.text (held a.text ++ bytes) t → GrowsBy a (some_bytes bytes) (record { nodes = a.nodes; entries = a.entries; text = t })
text_grown a t bytes g = let s = grows_none a in record { nodes_grow = s.nodes_grow; entries_grow = s.entries_grow; text_grows = g }

pub entries_grown : (a : Stores) (t : Store ℕ) (es : List ℕ) → Refilled a.entries (held a.entries ++ es) t → GrowsBy a (some_entries es) (record { nodes = a.nodes; entries = t; text = a.text })
entries_grown a t es g = let s = grows_none a in record { nodes_grow = s.nodes_grow; entries_grow = g; text_grows = s.text_grows }
