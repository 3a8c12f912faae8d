-- The texts of a quasi, as they stand in the text store.
use Rattle.std.proofs.Common.{◌≡◌, ℕ, ◌+◌, ◌-◌, ◌≤◌, Bool, true, false, cond, List, [], ◌++◌, length, take, drop, Ok, Err, sym, refl, ap, ◌∙◌, subst, inl, inr, arith, length-append, bytes_eq, ◌≢◌, MatchBool}
use Rattle.std.proofs.lemmas.List.{append-nil, drop_at, take_rest}
use Rattle.std.proofs.Math.Seq.{take-length}
use Rattle.std.proofs.lemmas.Bool.{le-leb, leb-true, cases_Bool}
use Rattle.std.proofs.lemmas.Slice.Eq.{bytes_eq-Decides}
use Rattle.base.specs.declared.fault.Fault.{Fault}
use Rattle.text.specs.Stored.{stored, Stores}
use Rattle.text.proofs.Pairing.{stored_once}
use Rattle.template.specs.Escaped.{raw_of}
use Rattle.template.specs.Extent.{MeasuresText, TellsEscaped}
use Rattle.template.specs.declared.extent.Extent.{Extent}
use Rattle.tree.specs.declared.node.Node.TheVariants.{Quasi}
use Rattle.tree.specs.declared.run.Run.{Run}
use Rattle.tree.specs.Heap.{within, text_at}
use Rattle.tree.proofs.Cuts.{cut_more}
use Rattle.store.specs.declared.store.Store.{Store}
use Rattle.store.specs.Held.{held, room, Refilled, AppendsRaw}
use Rattle.building.specs.Growing.{Takes}
use Rattle.building.specs.Texts.{EndsWithText}
use Rattle.building.specs.Growing.{RunBetween}
use Rattle.building.specs.Quasis.{raw_written, IsQuasi}
use Rattle.building.proofs.Refilling.{as_it_was}

-- ---- whether the raw text is another

pub not_written : (u : List ℕ) → raw_of u ≡ stored u → raw_written u ≡ []
not_written u e = ap (λ b. cond b [] (raw_of u)) ((bytes_eq-Decides (raw_of u) (stored u)).1 e)

pub all_written : (u : List ℕ) → raw_of u ≢ stored u → raw_written u ≡ raw_of u
all_written u n =
    elim (cases_Bool (bytes_eq (raw_of u) (stored u))) [
      | inl t ↦ absurd (n ((bytes_eq-Decides (raw_of u) (stored u)).0 t))
      | inr f ↦ ap (λ b. cond b [] (raw_of u)) f
    ]

-- ---- the pieces

-- What stands behind some bytes.
pub behind : (front more : List ℕ) (r : Run ℕ) → r.start ≡ length front → r.len ≡ length more → (within (front ++ more) r.start r.len ≡ true) × (text_at (front ++ more) r ≡ more)
behind front more r s l = (
  le-leb (r.start + r.len) (length (front ++ more)) (omega (arith, s, l, length-append front more)),
  ap (λ k. take r.len (drop k (front ++ more))) s ∙ ap (take r.len) (drop_at front more (length front) refl) ∙ ap (λ k. take k more) l ∙ take-length more,
)

module _ (old : Store ℕ) (start : ℕ) (front u : List ℕ) (e : EndsWithText (held old) start front u) where
  tail : drop start (held old) ≡ stored u
  tail = ap (drop start) e.is ∙ drop_at front (stored u) start e.starts

  same : (us : List ℕ) → Stores (drop start (held old)) us → us ≡ u
  same us s = stored_once (drop start (held old)) us u s (e.text, sym tail)

  module _ (end : ℕ) (cooked : Run ℕ) (ended : end ≡ length (held old)) (ran : RunBetween start end (Ok cooked)) where
    stands : (within (held old) cooked.start cooked.len ≡ true) × (text_at (held old) cooked ≡ stored u)
    stands =
        let long : length (held old) ≡ length front + length (stored u) = ap length e.is ∙ length-append front (stored u) in
        subst (λ l. (within l cooked.start cooked.len ≡ true) × (text_at l cooked ≡ stored u)) (sym e.is)
        (behind front (stored u) cooked (ran.0 ∙ sym e.starts) (omega (arith, ran.1, ended, e.starts, long)))

    pub as_it_is : (b : Bool) (x : Extent) (items : List ℕ) → items ≡ held old → MeasuresText (take (length items - start) (drop start items)) (Ok x) → TellsEscaped x b → b ≡ false
        → Refilled old (held old ++ raw_written u) old × IsQuasi (held old) (Quasi cooked cooked) u
    as_it_is b x items i m tells f =
        let is : m.0 ≡ u = same m.0 (subst (λ l. Stores l m.0) (take_rest items start ∙ ap (drop start) i) m.1) in
        let plain : raw_of u ≡ stored u = subst (λ us. raw_of us ≡ stored us) is (subst (λ z. MatchBool z (raw_of m.0 ≢ stored m.0) (raw_of m.0 ≡ stored m.0)) f (tells m.0 m.2)) in (
          subst (λ l. Refilled old l old) (sym (ap (λ l. held old ++ l) (not_written u plain) ∙ append-nil (held old))) (as_it_was old),
          record { raw = cooked; cooked = cooked; is = refl; raw_inside = stands.0; raw_text = stands.1 ∙ sym plain; cooked_inside = stands.0; cooked_text = stands.1 },
        )

    module _ (b : Bool) (x : Extent) (items : List ℕ) (i : items ≡ held old) (m : MeasuresText (take (length items - start) (drop start items)) (Ok x)) (tells : TellsEscaped x b) (t : b ≡ true) where
      written : raw_written u ≡ raw_of u
      written =
          let is : m.0 ≡ u = same m.0 (subst (λ l. Stores l m.0) (take_rest items start ∙ ap (drop start) i) m.1) in
          all_written u (subst (λ us. raw_of us ≢ stored us) is (subst (λ z. MatchBool z (raw_of m.0 ≢ stored m.0) (raw_of m.0 ≡ stored m.0)) t (tells m.0 m.2)))

      pub no_room : (new : Store ℕ) (f : Fault) → AppendsRaw old start new (Err f) → Takes (length (held old)) (length (raw_written u)) (room old) → ⊥
      no_room new f w takes =
          let low : start ≤ length (held old) = omega (arith, e.starts, ap length e.is, length-append front (stored u)) in
          elim w.2 [
            | inl bad ↦ bad.1 low
            | inr good ↦ elim good.1 [
              | inl bad ↦ bad.1 (u, (e.text, sym tail))
              | inr fine ↦ elim fine.1 [
                | inl bad ↦ bad.1 (λ us s. omega (arith, takes.0, ap length written, ap (λ l. length (raw_of l)) (same us s)))
                | inr never ↦ absurd never.1
              ]
            ]
          ]

      module _ (new : Store ℕ) (y : Unit {0}) (w : AppendsRaw old start new (Ok y)) (end2 : ℕ) (ended2 : end2 ≡ length (held new)) where
        longer : held new ≡ held old ++ raw_of u
        longer = w.2.0 ∙ ap (λ us. held old ++ raw_of us) (same w.0 w.1)

        pub too_long : (f : Fault) → RunBetween {X = ℕ} end end2 (Err f) → Takes (length (held old)) (length (raw_written u)) (room old) → ⊥
        too_long f r takes = r (omega (arith, ended, ended2, ap length longer, length-append (held old) (raw_of u))) (omega (arith, takes.1, ap length written, ended2, ap length longer, length-append (held old) (raw_of u)))

        pub with_raw : (raw : Run ℕ) → RunBetween end end2 (Ok raw) → Refilled old (held old ++ raw_written u) new × IsQuasi (held new) (Quasi raw cooked) u
        with_raw raw r =
            let low : cooked.start + cooked.len ≤ length (held old) = leb-true (cooked.start + cooked.len) (length (held old)) stands.0 in
            let at = behind (held old) (raw_of u) raw (r.0 ∙ ended) (omega (arith, r.1, ended, ended2, ap length longer, length-append (held old) (raw_of u))) in (
              subst (λ l. Refilled old l new) (ap (λ us. held old ++ raw_of us) (same w.0 w.1) ∙ ap (λ l. held old ++ l) (sym written)) w.2,
              subst (λ l. IsQuasi l (Quasi raw cooked) u) (sym longer) (record {
                raw = raw;
                cooked = cooked;
                is = refl;
                raw_inside = at.0;
                raw_text = at.1;
                cooked_inside = le-leb (cooked.start + cooked.len) (length (held old ++ raw_of u)) (omega (arith, low, length-append (held old) (raw_of u)));
                cooked_text = cut_more (held old) cooked.start cooked.len (raw_of u) low ∙ stands.1;
              }),
            )
