-- The answers of a host that was true of the opened tree stay true of what they were true of, and of new nodes.
use Rattle.std.proofs.Common.{◌≡◌, ℕ, ◌≤◌, List, take, subst, arith}
use Rattle.tree.specs.Tree.{Tree, label}
use Rattle.meaning.specs.Expression.{Expression}
use Rattle.meaning.specs.Trees.{tree_of}
use Rattle.meaning.specs.Parts.{Part, part_tree}
use Rattle.meaning.specs.World.{World}
use Rattle.meaning.specs.Replacing.{Keeps}
use Rattle.host.specs.declared.row.Row.{Row}
use Rattle.host.specs.Answers.{Answers, Question}
use Rattle.host.specs.Truth.{IsTheLanguagesOwn, TrueOf, Truthful}
use Rattle.host.specs.Structural.{structural_answers}
use Rattle.host.specs.Silent.{silent_answers}
use Rattle.host.specs.Table.{row_at, table_answers}
use Rattle.host.specs.Laws.{TrueRow}
use Rattle.host.proofs.Knowing.{silent_true}
use Rattle.host.proofs.Shaped.{structural_true}
use Rattle.host.proofs.Staying.{stays_true}
use Rattle.host.proofs.Tabled.{table_true}
use Rattle.model.specs.Hosts.{IsPart, TrueFrom}
use Rattle.model.proofs.Kept.{NoName, Lasts}

module _ (w : World) where
  named_only : (x y : Expression) → NoName x → IsTheLanguagesOwn w (Part.expression x) → IsTheLanguagesOwn w (Part.expression y)
  named_only x y n h =
      let e : Part.expression x ≡ Part.expression (Expression.name h.0 h.1) = h.2 in
      let f : x ≡ Expression.name h.0 h.1 = cc in
      absurd (subst NoName f n)

  row_stays : (r : Row) (x y : Expression) → NoName x → Keeps w x y → TrueRow w r (Part.expression x) → TrueRow w r (Part.expression y)
  row_stays r x y n k h =
      let s = stays_true w x y k in
      record { effects = λ e. s.0 (h.effects e); value_type = s.2 r.value_type h.value_type; global = λ e. named_only x y n (h.global e) }

  spread_named : {A : Type 0} (l : ℕ) (x : Expression) → IsTheLanguagesOwn w (Part.spread l x) → A
  spread_named l x h =
      let e : Part.spread l x ≡ Part.expression (Expression.name h.0 h.1) = h.2 in
      let z : ◌≡◌ {A = ℕ} 0 1 = cc in
      absurd (omega arith)

  row_spread_stays : (r : Row) (l : ℕ) (x y : Expression) → Keeps w x y → TrueRow w r (Part.spread l x) → TrueRow w r (Part.spread l y)
  row_spread_stays r l x y k h =
      let s = stays_true w x y k in
      record { effects = λ e. s.1 l (h.effects e); value_type = tt; global = λ e. spread_named l x (h.global e) }

  -- ---- a table

  told : (rows : List ℕ) (p : Part) → TrueRow w (row_at rows (label (part_tree p))) p → TrueOf w (table_answers rows) p
  told rows p h = (h.effects, h.value_type, h.global)

  row_told : (rows : List ℕ) (p : Part) → TrueOf w (table_answers rows) p → TrueRow w (row_at rows (label (part_tree p))) p
  row_told rows p h = record { effects = h.0; value_type = h.1; global = h.2 }

  table_lasts : (rows : List ℕ) → Lasts w (TrueOf w (table_answers rows))
  table_lasts rows = record {
    stays = λ x y e n k h.
        told rows (Part.expression y)
        (subst (λ l. TrueRow w (row_at rows l) (Part.expression y)) e (row_stays (row_at rows (label (tree_of x))) x y n k (row_told rows (Part.expression x) h)));
    spread_stays = λ l x y k h. told rows (Part.spread l y) (row_spread_stays (row_at rows l) l x y k (row_told rows (Part.spread l x) h));
  }

  -- ---- a host that is true of everything

  all_of : (a : Answers) → Truthful w a → (p : Part) → TrueOf w a p
  all_of a h p = (h (Question.effects p), h (Question.value_type p), h (Question.global p))

  always : (a : Answers) → Truthful w a → Lasts w (TrueOf w a)
  always a h = record { stays = λ x y e n k i. all_of a h (Part.expression y); spread_stays = λ l x y k i. all_of a h (Part.spread l y) }

  -- ---- each host

  module _ (t : Tree) (loaded : ℕ) where
    pub answers_last : {a : Answers} → TrueFrom w t loaded a → Lasts w (TrueOf w a)
    answers_last TrueFrom.silent = always silent_answers (silent_true w)
    answers_last (TrueFrom.structural bound c) = always (structural_answers bound) (structural_true w bound c)
    answers_last (TrueFrom.table rows e) = table_lasts (take loaded rows)

    pub true_of_new : {a : Answers} → TrueFrom w t loaded a → (p : Part) → loaded ≤ label (part_tree p) → TrueOf w a p
    true_of_new TrueFrom.silent p le = all_of silent_answers (silent_true w) p
    true_of_new (TrueFrom.structural bound c) p le = all_of (structural_answers bound) (structural_true w bound c) p
    true_of_new (TrueFrom.table rows e) p le = (table_true w rows loaded p).1 le

    pub true_at_first : {a : Answers} → TrueFrom w t loaded a → (p : Part) → IsPart t p → TrueOf w a p
    true_at_first TrueFrom.silent p i = all_of silent_answers (silent_true w) p
    true_at_first (TrueFrom.structural bound c) p i = all_of (structural_answers bound) (structural_true w bound c) p
    true_at_first (TrueFrom.table rows e) p i = (table_true w rows loaded p).0 (e p i)
