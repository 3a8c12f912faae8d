-- The pair that two texts make where they meet.
use Rattle.std.proofs.Common.{◌≡◌, ℕ, ◌+◌, ◌<◌, true, false, ◌&&◌, List, [], ◌∷◌, ◌++◌, length, drop, Some, None, Option, MatchOption, is_some, sym, ap, ◌∙◌, subst, inl, inr, arith}
use lib.Utf8.{encode}
use Rattle.std.proofs.lemmas.Bool.{cases_Bool, cond-true, cond-false, and_from, and_left, and_right, leb-true}
use Rattle.std.proofs.lemmas.List.{drop_at}
use Rattle.text.specs.declared.encoded.Encoded.{Encoded}
use Rattle.text.specs.Encoded.{bytes_of}
use Rattle.text.specs.Utf16.{leading, trailing, paired}
use Rattle.text.specs.Points.{ends, last_leading, first_trailing}
use Rattle.text.specs.Laws.{begins_trailing}
use Rattle.text.specs.Stored.{stored, Stores}
use Rattle.text.proofs.Pairing.{leading_range, trailing_range}
use Rattle.text.proofs.Borders.{some_last, some_first}
use Rattle.tree.specs.declared.run.Run.{Run}
use Rattle.tree.specs.Heap.{text_at}
use Rattle.tree.proofs.Cuts.{cut_more}
use Rattle.building.specs.Texts.{TwoTexts, Seam, SeamOf}

true_false : true ≡ false → ⊥
true_false e = absurd (cc)

record LastIs (us : List ℕ) (h : ℕ) : Type 0 where
  before : List ℕ
  is : us ≡ before ++ h ∷ []
  leads : leading h ≡ true

last_is : (us : List ℕ) (h : ℕ) → last_leading us ≡ Some h → LastIs us h
last_is [] h e = absurd (cc)
last_is (u ∷ []) h e =
    elim (cases_Bool (leading u)) [
      | inl t ↦ let same : u ≡ h = cc (e, cond-true (leading u) (Some u) None t) in record { before = []; is = ap (λ x. x ∷ []) same; leads = ap leading (sym same) ∙ t }
      | inr f ↦ absurd (cc (e, cond-false (leading u) (Some u) None f))
    ]
last_is (u ∷ v ∷ us) h e = let w = last_is (v ∷ us) h e in record { before = u ∷ w.before; is = ap (λ l. u ∷ l) w.is; leads = w.leads }

record FirstIs (us : List ℕ) (l : ℕ) : Type 0 where
  behind : List ℕ
  is : us ≡ l ∷ behind
  trails : trailing l ≡ true

first_is : (us : List ℕ) (l : ℕ) → first_trailing us ≡ Some l → FirstIs us l
first_is [] l e = absurd (cc)
first_is (u ∷ us) l e =
    elim (cases_Bool (trailing u)) [
      | inl t ↦ let same : u ≡ l = cc (e, cond-true (trailing u) (Some u) None t) in record { behind = us; is = ap (λ x. x ∷ us) same; trails = ap trailing (sym same) ∙ t }
      | inr f ↦ absurd (cc (e, cond-false (trailing u) (Some u) None f))
    ]

module _ (bytes : List ℕ) (start : ℕ) (run : Run ℕ) (s : List ℕ) (o : Option ℕ) (is : s ≡ drop start bytes) (said : (us : List ℕ) → Stores s us → o ≡ last_leading us) where
  last_of : (front u v : List ℕ) → TwoTexts bytes start run front u v → o ≡ last_leading u
  last_of front u v two = said u (two.ends.text, sym (is ∙ ap (drop start) two.ends.is ∙ drop_at front (stored u) start two.ends.starts))

  pub no_last : (r : Option Encoded) → o ≡ None → r ≡ None → SeamOf bytes start run r
  no_last r e f front u v two =
      subst (Seam u v) (sym f)
      (and_left (ends false u) (begins_trailing v) (sym (some_last u) ∙ ap is_some (sym (last_of front u v two) ∙ e)))

  module _ (t : List ℕ) (p : Option ℕ) (at : t ≡ text_at bytes run) (tells : (us : List ℕ) → Stores t us → p ≡ first_trailing us) where
    first_of : (front u v : List ℕ) → TwoTexts bytes start run front u v → p ≡ first_trailing v
    first_of front u v two = tells v (subst (λ l. Stores l v) (sym (at ∙ ap (λ l. text_at l run) two.ends.is ∙ cut_more front run.start run.len (stored u) (leb-true (run.start + run.len) (length front) two.inside))) two.spelled)

    pub no_first : (r : Option Encoded) → p ≡ None → r ≡ None → SeamOf bytes start run r
    no_first r e f front u v two =
        subst (Seam u v) (sym f)
        (and_right (ends false u) (begins_trailing v) (sym (some_first v) ∙ ap is_some (sym (first_of front u v two) ∙ e)))

    module _ (h l : ℕ) (leads : o ≡ Some h) (trails : p ≡ Some l) where
      pub no_pair : (r : Option Encoded) → (leading h && trailing l) ≡ false → SeamOf bytes start run r
      no_pair r e front u v two =
          let a = last_is u h (sym (last_of front u v two) ∙ leads) in
          let b = first_is v l (sym (first_of front u v two) ∙ trails) in
          absurd (true_false (sym (and_from (leading h) (trailing l) a.leads b.trails) ∙ e))

      pub met : (x : ℕ) (r : Option Encoded) → (leading h ≡ true) × (trailing l ≡ true) × (x ≡ paired h l) → MatchOption r (0x10FFFF < x) (λ c. bytes_of c ≡ encode x) → SeamOf bytes start run r
      met x None q m front u v two =
          let i = leading_range h q.0 in
          let j = trailing_range l q.1 in
          absurd (omega (arith, q.2))
      met x (Some c) q m front u v two =
          let a = last_is u h (sym (last_of front u v two) ∙ leads) in
          let b = first_is v l (sym (first_of front u v two) ∙ trails) in
          record { before = a.before; first = h; second = l; behind = b.behind; ends_first = a.is; begins_second = b.is; leads = q.0; trails = q.1; is = m ∙ ap encode q.2 }
