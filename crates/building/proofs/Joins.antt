-- A text that is joined to the one behind all others.
use Rattle.std.proofs.Common.{◌≡◌, ℕ, ◌+◌, ◌-◌, ◌≤◌, false, List, [], ◌∷◌, ◌++◌, length, take, drop, None, Ok, Err, Result, sym, ap, ◌∙◌, subst, inl, inr, arith, length-append, append_assoc, take_at}
use lib.Utf8.{encode, encodes}
use Rattle.std.proofs.lemmas.List.{append-nil, drop_at, drop-drop, drop-take}
use Rattle.std.proofs.lemmas.Bool.{and_right, leb-true}
use Rattle.base.specs.declared.fault.Fault.{Fault}
use Rattle.text.specs.Utf16.{trailing, paired, points}
use Rattle.text.specs.Points.{ends}
use Rattle.text.specs.Stored.{stored}
use Rattle.text.proofs.Pairing.{leading_range, trailing_range, not_leading_above, not_trailing_below, before_plain}
use Rattle.text.proofs.Rejoin.{joins_as_units}
use Rattle.text.proofs.Widths.{encode_3, encode_4}
use Rattle.tree.specs.declared.run.Run.{Run}
use Rattle.tree.specs.Heap.{cut}
use Rattle.tree.proofs.Cuts.{cut_more, length_cut}
use Rattle.store.specs.declared.store.Store.{Store}
use Rattle.store.specs.Held.{lent, held, room, Refilled, AppendsTo, AppendsWithin}
use Rattle.building.specs.Texts.{TwoTexts, Meeting, Seam, HoldsText}
use Rattle.building.proofs.Refilling.{again, shorter, roomy}

module _ (old : Store ℕ) (start : ℕ) (run : Run ℕ) (front u v : List ℕ) (two : TwoTexts (held old) start run front u v) where
  low : run.start + run.len ≤ length front
  low = leb-true (run.start + run.len) (length front) two.inside

  -- The text that is joined, also once more stands behind.
  found : (behind : List ℕ) → cut (front ++ behind) run.start run.len ≡ stored v
  found behind = cut_more front run.start run.len behind low ∙ sym two.spelled.1

  long : length (stored v) ≡ run.len
  long = ap length two.spelled.1 ∙ length_cut front run.start run.len low

  pub apart : (new : Store ℕ) (r : Result (Unit {0}) Fault) → Seam u v None → AppendsWithin old run.start run.len new r → HoldsText old front (u ++ v) new r
  apart new (Ok t) seam w =
      let joined : held old ++ cut (held old) run.start run.len ≡ front ++ stored (u ++ v) =
      ap (λ l. l ++ cut l run.start run.len) two.ends.is
      ∙ ap (λ l. (front ++ stored u) ++ l) (found (stored u))
      ∙ append_assoc front (stored u) (stored v)
      ∙ ap (λ l. front ++ l) (sym (joins_as_units.0 u v seam)) in
      subst (λ l. Refilled old l new) joined w.0
  apart new (Err e) seam w = λ fits.
      let whole : length (stored (u ++ v)) ≡ length (stored u) + length (stored v) = ap length (joins_as_units.0 u v seam) ∙ length-append (stored u) (stored v) in
      let holds : length (held old) ≡ length front + length (stored u) = ap length two.ends.is ∙ length-append front (stored u) in
      elim w.2 [
        | inl bad ↦ absurd (bad.1 (omega (arith, low, holds), omega (arith, whole, holds, long, fits, length-append front (stored (u ++ v)))))
        | inr never ↦ absurd never.1
      ]

  -- The pair that they make takes the place of its two halves.
  module _ (c : List ℕ) (m : Meeting u v c) where
    wide_first : length (encode m.first) ≡ 3
    wide_first = let r = leading_range m.first m.leads in ap length (encode_3 m.first (omega arith) (omega arith))

    wide_second : length (encode m.second) ≡ 3
    wide_second = let r = trailing_range m.second m.trails in ap length (encode_3 m.second (omega arith) (omega arith))

    wide : length c ≡ 4
    wide = ap length m.is ∙ ap length (encode_4 (paired m.first m.second) (let r = leading_range m.first m.leads in omega arith))

    left : stored u ≡ stored m.before ++ encode m.first
    left =
        let r = leading_range m.first m.leads in
        ap stored m.ends_first
        ∙ joins_as_units.0 m.before (m.first ∷ []) (and_right (ends false m.before) (trailing m.first) (not_trailing_below m.first (omega arith)))
        ∙ ap (λ l. stored m.before ++ l) (append-nil (encode m.first))

    right : stored v ≡ encode m.second ++ stored m.behind
    right =
        let r = trailing_range m.second m.trails in
        ap stored m.begins_second ∙ ap encodes (before_plain m.second (points m.behind) (not_leading_above m.second (omega arith)))

    -- What is held once the first half is gone, then the pair, and then the rest.
    kept : List ℕ
    kept = front ++ stored m.before

    whole : (kept ++ c) ++ stored m.behind ≡ front ++ stored (u ++ v)
    unfolding kept
    whole =
        sym (ap (λ l. front ++ stored (l ++ v)) m.ends_first
        ∙ ap (λ l. front ++ stored ((m.before ++ m.first ∷ []) ++ l)) m.begins_second
        ∙ ap (λ l. front ++ l) (joins_as_units.1 m.before m.behind m.first m.second m.leads m.trails)
        ∙ ap (λ l. front ++ ((stored m.before ++ l) ++ stored m.behind)) (sym m.is)
        ∙ sym (append_assoc front (stored m.before ++ c) (stored m.behind))
        ∙ ap (λ l. l ++ stored m.behind) (sym (append_assoc front (stored m.before) c)))

    kept_front : length front ≤ length kept
    unfolding kept
    kept_front = omega (arith, length-append front (stored m.before))

    held_old : held old ≡ kept ++ encode m.first
    unfolding kept
    held_old = two.ends.is ∙ ap (λ l. front ++ l) left ∙ sym (append_assoc front (stored m.before) (encode m.first))

    module _ (s1 : Store ℕ) (fewer : held s1 ≡ take (length (held old) - 3) (held old)) (memory : lent s1 ≡ lent old) where
      count : length kept ≡ length (held old) - 3
      count = omega (arith, ap length held_old, length-append kept (encode m.first), wide_first)

      first_gone : take (length (held old) - 3) (held old) ≡ kept
      first_gone = ap (take (length (held old) - 3)) held_old ∙ take_at kept (encode m.first) (length (held old) - 3) count

      once : Refilled old kept s1
      once = subst (λ l. Refilled old l s1) first_gone (shorter old s1 (length (held old) - 3) (omega arith) fewer memory)

      held_once : held s1 ≡ kept
      held_once = fewer ∙ first_gone

      room_once : room s1 ≡ room old
      room_once = ap length memory

      all : length (front ++ stored (u ++ v)) ≡ length kept + 4 + length (stored m.behind)
      all = omega (arith, ap length whole, length-append (kept ++ c) (stored m.behind), length-append kept c, wide)

      pub no_pair : (s2 : Store ℕ) (e : Fault) → AppendsTo s1 c s2 (Err e) → HoldsText old front (u ++ v) s2 (Err e)
      no_pair s2 e w fits =
          elim w.2 [
            | inl bad ↦ absurd (bad.1 (omega (arith, all, wide, fits, room_once, ap length held_once)))
            | inr never ↦ absurd never.1
          ]

      module _ (s2 : Store ℕ) (t : Unit {0}) (paired_up : AppendsTo s1 c s2 (Ok t)) where
        twice : Refilled old (kept ++ c) s2
        twice =
            again old s1 s2 kept (kept ++ c) once (subst (λ l. Refilled s1 (l ++ c) s2) held_once paired_up.0)
            (omega (arith, length-append kept c))

        at_least : 3 + length (stored m.behind) ≡ run.len
        at_least = omega (arith, ap length right, length-append (encode m.second) (stored m.behind), wide_second, long)

        behind_it : (more : List ℕ) → cut (front ++ more) (run.start + 3) (run.len - 3) ≡ stored m.behind
        behind_it more =
            let three : 3 + (run.len - 3) ≡ run.len = omega (arith, at_least) in
            cut_more front (run.start + 3) (run.len - 3) more (omega (arith, at_least, low))
            ∙ ap (take (run.len - 3)) (sym (drop-drop 3 run.start front))
            ∙ sym (drop-take 3 (run.len - 3) (drop run.start front))
            ∙ ap (λ k. drop 3 (take k (drop run.start front))) three
            ∙ ap (drop 3) (sym two.spelled.1 ∙ right)
            ∙ drop_at (encode m.second) (stored m.behind) 3 wide_second

        again_behind : cut (kept ++ c) (run.start + 3) (run.len - 3) ≡ stored m.behind
        unfolding kept
        again_behind = ap (λ l. cut l (run.start + 3) (run.len - 3)) (append_assoc front (stored m.before) c) ∙ behind_it (stored m.before ++ c)

        pub met : (s3 : Store ℕ) (r : Result (Unit {0}) Fault) (k : ℕ) → k ≡ run.len - 3 → AppendsWithin s2 (run.start + 3) k s3 r → HoldsText old front (u ++ v) s3 r
        met s3 (Ok y) k e w =
            let third : held s2 ++ cut (held s2) (run.start + 3) k ≡ (kept ++ c) ++ stored m.behind =
            ap (λ l. l ++ cut l (run.start + 3) k) twice.0
            ∙ ap (λ n. (kept ++ c) ++ cut (kept ++ c) (run.start + 3) n) e
            ∙ ap (λ l. (kept ++ c) ++ l) again_behind in
            subst (λ l. Refilled old l s3) whole
            (again old s2 s3 (kept ++ c) ((kept ++ c) ++ stored m.behind) twice (subst (λ l. Refilled s2 l s3) third w.0)
            (omega (arith, length-append (kept ++ c) (stored m.behind))))
        met s3 (Err f) k e w = λ fits.
            let room_twice : room s2 ≡ room old = roomy old s2 (kept ++ c) twice (omega (arith, all, length-append kept c, wide, fits)) in
            elim w.2 [
              | inl bad ↦ absurd (bad.1 (omega (arith, at_least, low, kept_front, e, ap length twice.0, length-append kept c), omega (arith, at_least, e, ap length twice.0, length-append kept c, wide, room_twice, all, fits)))
              | inr never ↦ absurd never.1
            ]
