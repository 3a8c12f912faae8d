-- A plain run byte by byte, with LF for each line end.
use Rattle.std.proofs.Common.{◌≡◌, ℕ, ◌+◌, ◌<◌, Bool, false, eqb, List, [], ◌∷◌, ◌++◌, length, get_or, drop, Some, None, sym, ap, ◌∙◌}
use Rattle.std.proofs.lemmas.List.{append_assoc, drop_more}
use Rattle.template.specs.Lines.{normal, LineByte}
use Rattle.template.specs.Sinks.{Adds}
use Rattle.template.proofs.Adding.{adds_both}

-- The next byte of a run.
next_byte : (run : List ℕ) (after_cr : Bool) (k : ℕ) → k < length run → normal after_cr (drop k run) ≡ normal after_cr (get_or run k 0 ∷ drop (k + 1) run)
next_byte run after_cr k h = ap (normal after_cr) (drop_more run k 0 h)

-- Where the walk is: what was handed on, and what the rest will add.
abbrev pub Lined : {S : Type 0} (Took : S → List ℕ → S → Type 0) (start now : S) (run : List ℕ) (after_cr : Bool) (k : ℕ) → Type 0
Lined Took start now run after_cr k = (front : List ℕ) × Adds Took start front now × (front ++ normal after_cr (drop k run) ≡ normal false run)

module _ {S : Type 0} (Took : S → List ℕ → S → Type 0) where
  -- A byte that stands for one is handed on, and one that stands for nothing is not.
  pub lined_put : (start now next : S) (run : List ℕ) (after_cr : Bool) (k x : ℕ) → k < length run → Lined Took start now run after_cr k
      → LineByte after_cr (get_or run k 0) (Some x) → Adds Took now (x ∷ []) next → Lined Took start next run (eqb (get_or run k 0) 13) (k + 1)
  lined_put start now next run after_cr k x h inv is takes =
      let w = inv.0 in
      let back = drop (k + 1) run in (
        w ++ x ∷ [],
        adds_both Took start now next w (x ∷ []) inv.1 takes,
        append_assoc w (x ∷ []) (normal (eqb (get_or run k 0) 13) back) ∙ ap (λ l. w ++ l) (sym (next_byte run after_cr k h ∙ is back)) ∙ inv.2,
      )

  pub lined_skip : (start now : S) (run : List ℕ) (after_cr : Bool) (k : ℕ) → k < length run → Lined Took start now run after_cr k
      → LineByte after_cr (get_or run k 0) None → Lined Took start now run (eqb (get_or run k 0) 13) (k + 1)
  lined_skip start now run after_cr k h inv is = (inv.0, inv.1, ap (λ l. inv.0 ++ l) (sym (next_byte run after_cr k h ∙ is (drop (k + 1) run))) ∙ inv.2)
