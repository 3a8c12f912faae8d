-- Asking one question of each node.
use Rattle.std.proofs.Common.{Bool, true, false, MatchBool, ◌≡◌, ℕ, ◌<◌, Ok, Err, Result, IsOk, Some, None, Option, sym, refl, ◌∙◌, subst, arith}
use Rattle.std.specs.Option.{ok_or}
use Rattle.std.proofs.lemmas.Grind.{not_there}
use Rattle.base.specs.declared.fault.Fault.{Fault}
use Rattle.base.specs.declared.fault.Fault.TheVariants.{BadRecord}
use Rattle.base.specs.Questions.{Refuses}
use Rattle.base.proofs.Asking.{refuses_each}
use Rattle.tree.specs.declared.node.Node.{Node}
use Rattle.std.specs.Result.{result_ok}
use Rattle.file.specs.declared.record.Record.{Record}
use Rattle.file.specs.declared.record.UnknownRecord.{UnknownRecord}
use Rattle.file.specs.Decoding.{Decodes}
use Rattle.std.specs.Bool.{then_some}
use Rattle.file.proofs.OneNode.{one_node}
use Rattle.file.specs.Format.{record_at, record_of}
use Rattle.file.specs.Layout.{Layout}
use Rattle.file.specs.Lawful.{LawfulNode, LawfulRecord, record_questions}
use Rattle.file.specs.Found.{RecordsTo, AllRecords}
use Rattle.file.specs.Steps.{NodeAt, NodeChecked}

pub record_refused : (l : Layout) (x : ℕ) → x < l.count → RecordsTo l x → (LawfulRecord l x → ⊥) → Refuses (record_questions l) (BadRecord x)
record_refused l x lt low not = refuses_each 4 (LawfulRecord l) (BadRecord x) 0 l.count x refl (omega arith) (omega arith) (λ y a b. low y b) not

-- What is read of record x is its node.
pub node_at : (l : Layout) (x : ℕ) (r : Record) (found : Result Node UnknownRecord) → x < l.count → r ≡ record_at l.rows x → Decodes r found → NodeAt l x (result_ok found)
node_at l x r (Ok n) lt e w = (lt, w ∙ e)
node_at l x r (Err u) lt e w = λ _ n f. w n (f ∙ sym e)

-- A record has a node, where all are lawful.
pub decoded : (l : Layout) (x : ℕ) (r : Record) (found : Result Node UnknownRecord) → ∥ AllRecords l ∥₁ → x < l.count → r ≡ record_at l.rows x → Decodes r found → IsOk found
decoded l x r (Ok n) all lt e w = refl
decoded l x r (Err u) all lt e w = absurd (not_there all (λ a. let q = a x lt in w q.0 (q.1 ∙ sym e)))

-- It is kept where it is lawful.
pub kept_checked : (l : Layout) (x : ℕ) (n : Node) (b : Bool) → NodeAt l x (Some n) → MatchBool b (LawfulNode l.entries l.text n) (LawfulNode l.entries l.text n → ⊥) → NodeChecked l x (then_some b n)
kept_checked l x n true at ok = (at.1, ok)
kept_checked l x n false at not = λ lt r. not (subst (LawfulNode l.entries l.text) (one_node r.0 n (r.1 ∙ sym at.1)) r.2)

-- A question of a node that is answered by it, or by a fault.
pub node_found : (l : Layout) (x : ℕ) (o : Option Node) (n : Node) → NodeChecked l x o → o ≡ Some n → (record_of n ≡ record_at l.rows x) × LawfulNode l.entries l.text n
node_found l x o n w is = subst (NodeChecked l x) is w

pub node_refused : (l : Layout) (x : ℕ) (o : Option Node) (e : Fault) → x < l.count → RecordsTo l x → NodeChecked l x o → ◌≡◌ {A = Result Node Fault} (Err e) (ok_or o (BadRecord x)) → Refuses (record_questions l) e
node_refused l x None e lt below w is = let f : e ≡ BadRecord x = cc in subst (Refuses (record_questions l)) (sym f) (record_refused l x lt below (w lt))
node_refused l x (Some n) e lt below w is = absurd (let z : ◌≡◌ {A = ℕ} 0 1 = cc in omega arith)
