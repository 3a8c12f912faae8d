-- The texts of a quasi.
use Rattle.std.specs.Prelude.{◌≡◌, ℕ, true, cond, List, [], ◌++◌, length, bytes_eq, Ok, Err, Result}
use Rattle.base.specs.declared.fault.Fault.{Fault}
use Rattle.text.specs.Stored.{stored}
use Rattle.template.specs.Escaped.{raw_of}
use Rattle.tree.specs.declared.node.Node.{Node}
use Rattle.tree.specs.declared.node.Node.TheVariants.{Quasi}
use Rattle.tree.specs.declared.run.Run.{Run}
use Rattle.tree.specs.Heap.{within, text_at}
use Rattle.store.specs.declared.store.Store.{Store}
use Rattle.store.specs.Held.{held, room, Refilled}
use Rattle.building.specs.Growing.{Takes}
use Rattle.building.specs.Texts.{EndsWithText}

-- The raw text of a quasi is written only where it is another than the text.
abbrev pub raw_written : List ℕ → List ℕ
raw_written u = cond (bytes_eq (raw_of u) (stored u)) [] (raw_of u)

-- The record is that of a quasi of this text, whose two texts stand among the bytes.
pub record IsQuasi (bytes : List ℕ) (n : Node) (u : List ℕ) : Type 0 where
  pub raw : Run ℕ
  pub cooked : Run ℕ
  pub is : n ≡ Quasi raw cooked
  pub raw_inside : within bytes raw.start raw.len ≡ true
  pub raw_text : text_at bytes raw ≡ raw_of u
  pub cooked_inside : within bytes cooked.start cooked.len ≡ true
  pub cooked_text : text_at bytes cooked ≡ stored u

abbrev pub QuasiOr : (old : Store ℕ) (u : List ℕ) (new : Store ℕ) → Result Node Fault → Type 0
QuasiOr old u new (Ok n) = Refilled old (held old ++ raw_written u) new × IsQuasi (held new) n u
QuasiOr old u new (Err e) = Takes (length (held old)) (length (raw_written u)) (room old) → ⊥

-- The quasi of the text that is held from `start` on.
abbrev pub WritesQuasi : (old : Store ℕ) (start : ℕ) (new : Store ℕ) → Result Node Fault → Type 0
WritesQuasi old start new r = (front u : List ℕ) → EndsWithText (held old) start front u → QuasiOr old u new r
