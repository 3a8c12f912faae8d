-- A table says what its rows say.
use Rattle.std.proofs.Common.{◌≡◌, ℕ, ◌<◌, ◌≤◌, zero, suc, List, [], ◌∷◌, take, Some, None, Option, refl, sym, arith, inl, inr}
use Rattle.std.specs.Prelude.{option_and_then, unwrap_or}
use Rattle.std.specs.List.{slice_get}
use Rattle.std.proofs.lemmas.Bool.{cases_lt}
use Rattle.tree.specs.Tree.{label}
use Rattle.meaning.specs.World.{World}
use Rattle.meaning.specs.Parts.{Part, part_tree}
use Rattle.host.specs.declared.row.Row.{Row}
use Rattle.host.specs.Row.{row_of, silent_row}
use Rattle.host.specs.Table.{row_at, table_answers}
use Rattle.host.specs.Truth.{TrueOf}
use Rattle.host.specs.Laws.{TrueRow, HasEntry, ATableIsTrueWhereItsEntriesAre}
use Rattle.host.proofs.Knowing.{false_true, any_part}

-- What silence says is true.
silence : (w : World) (p : Part) → TrueRow w silent_row p
silence w p = record { effects = λ e. false_true (sym e); value_type = any_part w p; global = λ e. false_true e }

-- Below the loaded nodes the rows are as they were, and past them there is none.
loaded_row : (rows : List ℕ) (loaded n : ℕ) → n < loaded → slice_get (take loaded rows) n ≡ slice_get rows n
loaded_row rows zero n lt = absurd (omega arith)
loaded_row [] (suc loaded) n lt = refl
loaded_row (r ∷ rows) (suc loaded) zero lt = refl
loaded_row (r ∷ rows) (suc loaded) (suc n) lt = loaded_row rows loaded n (omega arith)

past_row : (rows : List ℕ) (loaded n : ℕ) → loaded ≤ n → slice_get (take loaded rows) n ≡ None
past_row rows zero n le = refl
past_row [] (suc loaded) n le = refl
past_row (r ∷ rows) (suc loaded) zero le = absurd (omega arith)
past_row (r ∷ rows) (suc loaded) (suc n) le = past_row rows loaded n (omega arith)

module _ (w : World) (p : Part) where
  -- The row is true, if it is spelled or not.
  spelled : (r : Option Row) → ((s : Row) → r ≡ Some s → TrueRow w s p) → TrueRow w (unwrap_or r silent_row) p
  spelled None h = silence w p
  spelled (Some r) h = h r refl

  past : (rows : List ℕ) (loaded : ℕ) → loaded ≤ label (part_tree p) → TrueRow w (row_at (take loaded rows) (label (part_tree p))) p
  past rows loaded le = rw (past_row rows loaded (label (part_tree p)) le) (silence w p)

  entered : (rows : List ℕ) (loaded : ℕ) → ((r : Row) → HasEntry rows loaded (label (part_tree p)) r → TrueRow w r p) → TrueRow w (row_at (take loaded rows) (label (part_tree p))) p
  entered rows loaded h =
      elim (cases_lt (label (part_tree p)) loaded) [
        | inl lt ↦ rw (loaded_row rows loaded (label (part_tree p)) lt) (spelled (option_and_then row_of (slice_get rows (label (part_tree p)))) (λ s e. h s (lt, e)))
        | inr le ↦ past rows loaded le
      ]

  answered : (rows : List ℕ) → TrueRow w (row_at rows (label (part_tree p))) p → TrueOf w (table_answers rows) p
  answered rows t = (t.effects, t.value_type, t.global)

pub table_true : (w : World) → ATableIsTrueWhereItsEntriesAre w
table_true w rows loaded p = (λ h. answered w p (take loaded rows) (entered w p rows loaded h), λ le. answered w p (take loaded rows) (past w p rows loaded le))
