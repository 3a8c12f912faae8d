-- A session is opened on the tree that a root denotes.
use Rattle.std.proofs.Common.{◌≡◌, ℕ, ◌≤◌, [], length, Some, refl, sym, ap, subst, ◌∙◌, inl, inr, arith}
use Rattle.std.specs.Option.{option_map}
use Rattle.std.proofs.lemmas.Bool.{cases_lt}
use Rattle.tree.specs.Tree.{Tree, label, uses}
use Rattle.tree.specs.Heap.{Held}
use Rattle.tree.specs.Limits.{WithinLimits}
use Rattle.tree.proofs.Places.{place_top}
use Rattle.file.specs.Payoff.{DenotesPayoff}
use Rattle.model.specs.Model.{Model, Sound, Opened}
use Rattle.model.proofs.Bounds.{size_held}
use Rattle.session.specs.Models.{Models, counts}

module _ (h : Held) (root : ℕ) (t : Tree) (few : WithinLimits h) (d : DenotesPayoff h root t) where
  abbrev opened_model : Model
  opened_model = record { whole = t; place = []; rewrites = 0; held = counts h }

  used_once : (x : ℕ) → uses x t ≤ 1
  used_once x = elim (cases_lt x (length h.nodes)) [ inl lo ↦ omega (arith, d.once x lo) | inr hi ↦ omega (arith, d.no_other x hi) ]

  is_sound : Sound opened_model
  is_sound = record { payoff = d.lawful; distinct = used_once; numbered = d.no_other }

  pub opened : (m : Model) × Opened t m × Models h root root [] 0 m
  opened = (
    opened_model,
    record { whole = refl; at_root = refl; none_made = refl; sound = is_sound },
    record {
      denoted = d.denoted;
      sound = is_sound;
      limited = few;
      rooted = d.rooted;
      placed = refl;
      trailed = λ k lt. absurd (omega arith);
      at_cursor = ap (option_map label) (place_top t) ∙ ap (λ n. Some n) d.rooted;
      counted = refl;
      held = refl;
      bounded = λ x e. omega (arith, size_held opened_model is_sound x e, few.0);
    },
  )

-- The same of stores and a root that are these.
pub opened_at : (h k : Held) (root top : ℕ) → k ≡ h → top ≡ root → WithinLimits h → (t : Tree) → DenotesPayoff h root t → (m : Model) × Opened t m × Models k top top [] 0 m
opened_at h k root top e f few t d =
    subst (λ n. (m : Model) × Opened t m × Models k n n [] 0 m) (sym f)
    (subst (λ j. (m : Model) × Opened t m × Models j root root [] 0 m) (sym e) (opened h root t few d))
