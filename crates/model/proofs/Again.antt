-- Where no rule would rewrite anything, a round changes nothing and is not refused.
use Rattle.std.proofs.Common.{◌≡◌, ℕ, suc, ◌≤◌, Bool, true, false, List, [], ◌∷◌, ◌++◌, length, is_some, Ok, Err, Result, sym, refl, ap, ◌∙◌, subst, arith}
use Rattle.std.specs.Prelude.{◌↔◌}
use Rattle.std.proofs.lemmas.List.{append-nil, append_assoc}
use Rattle.base.specs.declared.fault.Fault.{Fault}
use Rattle.tree.specs.Tree.{at_place}
use Rattle.host.specs.Answers.{Answers}
use Rattle.rules.proofs.Absurd.{none_some}
use Rattle.model.specs.declared.answer.Outcome.{Outcome}
use Rattle.model.specs.declared.answer.Swept.{Swept}
use Rattle.model.specs.Model.{Given, Model, moved}
use Rattle.model.specs.Tries.{Rule, Try, Tries}
use Rattle.model.specs.Moves.{deepest}
use Rattle.model.specs.Sweeps.{TriesEach, Visits, VisitsBelow, Rounds, Sweeps}
use Rattle.model.specs.Swept.{AllKeep, ASecondSweepChangesNothing}
use Rattle.model.proofs.Still.{KeepsAt, nothing_left, left_told, ends_at_root}

-- An answer is no refusal.
abbrev Answered : {A : Type 0} → Result A Fault → Type 0
Answered r = (e : Fault) → r ≡ Err e → ⊥

answered : {A : Type 0} (x : A) → Answered (Ok x)
answered x e q = let z : ◌≡◌ {A = ℕ} 0 1 = cc in omega arith

-- What all places below a place keep, all below its child keep.
below_child : (g : Given) (a : Answers) (l : Model) (j d : ℕ) → ((i : ℕ) (p : List ℕ) → suc (length p) ≤ suc d → AllKeep g a l (l.place ++ i ∷ p)) → (p : List ℕ) → length p ≤ d → AllKeep g a (moved l (l.place ++ j ∷ [])) ((l.place ++ j ∷ []) ++ p)
below_child g a l j d h p le = subst (AllKeep g a l) (sym (append_assoc l.place (j ∷ []) p)) (h j p (omega arith))

module _ {g : Given} {a : Answers} where
  tries_idle : {k : Rule} {l m : Model} {r : Result Outcome Fault} {ts : List Try} → Tries g a k l r m ts → KeepsAt g a k l → (m ≡ l) × Answered r
  tries_idle (Tries.at_no_expression t at n) h = (refl, answered _)
  tries_idle (Tries.keeps x at e) h = (refl, answered _)
  tries_idle (Tries.rewrites x y at d q) h = none_some (sym (h x at) ∙ d)
  tries_idle (Tries.refuses x y e at d q) h = none_some (sym (h x at) ∙ d)

  each_idle : {ks : List Rule} {l m : Model} {r : Result (Unit {0}) Fault} {ts : List Try} → TriesEach g a ks l r m ts → ((k : Rule) → KeepsAt g a k l) → (m ≡ l) × Answered r
  each_idle TriesEach.none h = (refl, answered tt)
  each_idle (TriesEach.tried {r = k} d e) h =
      let same = (tries_idle d (h k)).0 in
      let rest = each_idle e (subst (λ z. (k : Rule) → KeepsAt g a k z) (sym same) h) in
      (rest.0 ∙ same, rest.1)
  each_idle (TriesEach.stopped {r = k} {e = e} d) h = absurd ((tries_idle d (h k)).1 e refl)

  mutual
    visits_idle : {d : ℕ} {l m : Model} {r : Result Bool Fault} {ts : List Try} → Visits g a d l r m ts → ((p : List ℕ) → length p ≤ d → AllKeep g a l (l.place ++ p)) → (m ≡ l) × Answered r
    visits_idle {l = l} (Visits.visited at b e) h =
        let same = (below_idle b (λ i p. h (i ∷ p))).0 in
        let here = each_idle e (subst (λ z. (k : Rule) → KeepsAt g a k z) (sym same) (subst (AllKeep g a l) (append-nil l.place) (h [] (omega arith)))) in
        (here.0 ∙ same, answered _)
    visits_idle {l = l} (Visits.stopped {e = e} at b d) h =
        let same = (below_idle b (λ i p. h (i ∷ p))).0 in
        let here = each_idle d (subst (λ z. (k : Rule) → KeepsAt g a k z) (sym same) (subst (AllKeep g a l) (append-nil l.place) (h [] (omega arith)))) in
        absurd (here.1 e refl)
    visits_idle (Visits.stopped_below at b) h = below_idle b (λ i p. h (i ∷ p))

    below_idle : {d j n : ℕ} {l m : Model} {r : Result Bool Fault} {ts : List Try} → VisitsBelow g a d j n l r m ts → ((i : ℕ) (p : List ℕ) → suc (length p) ≤ d → AllKeep g a l (l.place ++ i ∷ p)) → (m ≡ l) × Answered r
    below_idle VisitsBelow.none h = (refl, answered false)
    below_idle VisitsBelow.too_deep h = (refl, answered true)
    below_idle {j = j} {l = l} (VisitsBelow.child {d = d} v b) h =
        let same = ap (λ z. moved z l.place) (visits_idle v (below_child g a l j d h)).0 in
        let rest = below_idle b (subst (λ z. (i : ℕ) (p : List ℕ) → suc (length p) ≤ suc d → AllKeep g a z (z.place ++ i ∷ p)) (sym same) h) in
        (rest.0 ∙ same, answered _)
    below_idle {j = j} {l = l} (VisitsBelow.later_stopped {d = d} v b) h =
        let same = ap (λ z. moved z l.place) (visits_idle v (below_child g a l j d h)).0 in
        let rest = below_idle b (subst (λ z. (i : ℕ) (p : List ℕ) → suc (length p) ≤ suc d → AllKeep g a z (z.place ++ i ∷ p)) (sym same) h) in
        (rest.0 ∙ same, rest.1)
    below_idle {j = j} {l = l} (VisitsBelow.child_stopped {d = d} {e = e} v) h = absurd ((visits_idle v (below_child g a l j d h)).1 e refl)

  rounds_idle : {l m : Model} {r : Result (ℕ × Bool) Fault} {ts : List Try} → Rounds g a l r m ts → ((p : List ℕ) → length p ≤ deepest → AllKeep g a l p)
      → (m ≡ moved l []) × Answered r × ((n : ℕ) (left : Bool) → r ≡ Ok (n, left) → n ≡ 1)
  rounds_idle (Rounds.last {left = here} v e) h = ((visits_idle v h).0, answered _, λ n left q. let both : ◌≡◌ {A = ℕ × Bool} (1, here) (n, left) = cc in sym (ap (λ z. z.0) both))
  rounds_idle (Rounds.more v n d) h = absurd (n (ap (λ z. z.rewrites) (visits_idle v h).0))
  rounds_idle (Rounds.later_stopped v n d) h = absurd (n (ap (λ z. z.rewrites) (visits_idle v h).0))
  rounds_idle (Rounds.stopped {e = e} v) h = absurd ((visits_idle v h).1 e refl)

-- Two tests of the same are one.
same_test : (b c : Bool) (P : Type 0) → (b ≡ true) ↔ P → (c ≡ true) ↔ P → b ≡ c
same_test true c P h k = sym (k.1 (h.0 refl))
same_test false true P h k = h.1 (k.0 refl)
same_test false false P h k = refl

-- A node stands further down than the cursor can go.
abbrev Deeper : Model → Type 0
Deeper m = (p : List ℕ) × (length p ≡ suc deepest) × (is_some (at_place m.whole p) ≡ true)

abbrev told : (rewrites rounds : ℕ) (left : Bool) → Swept
told rewrites rounds left = record { rewrites = rewrites; rounds = rounds; left = left }

pub swept_again : ASecondSweepChangesNothing
swept_again g a l m n s (Ok t) ts us sound first (Sweeps.sweeps {m = k} d e) =
    let idle = rounds_idle d (nothing_left g a l m s ts sound first) in
    let same : n ≡ m = ap (λ z. moved z []) idle.0 ∙ ap (λ q. moved m q) (sym (ends_at_root g a l m (Ok s) ts first)) in
    let none : t.rewrites ≡ 0 = omega (arith, ap (λ z. z.rewrites) idle.0) in
    let one = idle.2 t.rounds t.left refl in
    let left = same_test t.left s.left (Deeper m) (subst (λ z. (t.left ≡ true) ↔ Deeper z) same (left_told g a m n t us (Sweeps.sweeps d e))) (left_told g a l m s ts first) in
    (ap (λ z. Ok (told z t.rounds t.left)) none ∙ ap (λ z. Ok (told 0 z t.left)) one ∙ ap (λ z. Ok (told 0 1 z)) left, same)
swept_again g a l m n s (Err f) ts us sound first (Sweeps.refused d e) = absurd ((rounds_idle d (nothing_left g a l m s ts sound first)).1 f.fault refl)
