-- A name is one of the language's own exactly where its stored form is.
use Rattle.std.proofs.Common.{rules, ◌≡◌, ℕ, Bool, true, false, cond, not, ◌&&◌, List, [], ◌∷◌, refl, sym, ap, ◌∙◌, subst, arith, inl, inr}
use Rattle.std.specs.Prelude.{codes, bytes_eq}
use lib.Utf8.{encode, encodes}
use Rattle.std.proofs.lemmas.Bool.{and_parts, or_cases}
use Rattle.std.proofs.lemmas.Slice.Eq.{bytes_eq-Decides}
use Rattle.std.proofs.lemmas.Str.{encodes_same}
use Rattle.text.specs.Utf16.{Text, leading, trailing, paired, points, before}
use Rattle.text.specs.Stored.{stored}
use Rattle.meaning.specs.Expression.{Units}
use Rattle.meaning.specs.World.{World}
use Rattle.host.specs.Truth.{ReadsAsOwn}
use Rattle.host.specs.Structural.{own_names, is_among, is_own_name}
use Rattle.host.specs.Laws.{Complete}
use Rattle.host.proofs.Knowing.{false_true}

-- Code points that 16 bits hold are the units themselves: a pair spells a larger one.
unpaired : (b : Bool) (u c : ℕ) (ps cs : List ℕ) → cond b (paired u c ∷ ps) (u ∷ c ∷ ps) ≡ cs → Text cs → u ∷ c ∷ ps ≡ cs
unpaired true u c ps cs e t = let over = (subst Text (sym e) t).0 in absurd (omega (arith, over))
unpaired false u c ps cs e t = e

in_front : (u : ℕ) (ps cs : List ℕ) → before u ps ≡ cs → Text cs → u ∷ ps ≡ cs
in_front u [] cs e t = e
in_front u (c ∷ ps) cs e t = unpaired (leading u && trailing c) u c ps cs e t

same_units : (us cs : List ℕ) → points us ≡ cs → Text cs → us ≡ cs
same_units [] cs e t = e
same_units (u ∷ us) cs e t =
    let f = in_front u (points us) cs e t in
    ap (λ vs. u ∷ vs) (same_units us (points us) refl (subst Text (sym f) t).1) ∙ f

-- A text whose stored form is that of a name which is stored as its units is that name.
named : (name : List ℕ) (u : Units) → Text name → encodes name ≡ name → bytes_eq name (stored u) ≡ true → u ≡ name
named name u t same e = same_units u name (encodes_same (points u) name (sym ((bytes_eq-Decides name (stored u)).0 e) ∙ sym same)) t

undefined_stored : encodes (codes "undefined") ≡ codes "undefined"
unfolding encode
undefined_stored = refl

math_stored : encodes (codes "Math") ≡ codes "Math"
unfolding encode
math_stored = refl

array_stored : encodes (codes "Array") ≡ codes "Array"
unfolding encode
array_stored = refl

not_true : (b : Bool) → not b ≡ true → b ≡ false
not_true true e = sym e
not_true false e = refl

module _ (w : World) (bound : List (List ℕ)) (complete : Complete w bound) where
  read_at : (name : Units) (u : Units) → (is_among (stored name) bound ≡ false → ReadsAsOwn w name) → u ≡ name → is_among (stored u) bound ≡ false → ReadsAsOwn w u
  read_at name u h e = subst (λ v. is_among (stored v) bound ≡ false → ReadsAsOwn w v) (sym e) h

  pub own_read : (u : Units) → is_own_name bound (stored u) ≡ true → ReadsAsOwn w u
  unfolding is_own_name
  own_read u e =
      let both = and_parts (is_among (stored u) own_names) (not (is_among (stored u) bound)) e in
      let free = not_true (is_among (stored u) bound) both.1 in
      elim (or_cases _ _ both.0) [
        | inl a ↦ read_at (codes "undefined") u (complete 0 [] (omega arith)) (named (codes "undefined") u (search rules) undefined_stored a) free
        | inr rest ↦ elim (or_cases _ _ rest) [
          | inl a ↦ read_at (codes "Math") u (complete 1 [] (omega arith)) (named (codes "Math") u (search rules) math_stored a) free
          | inr last ↦ elim (or_cases _ _ last) [
            | inl a ↦ read_at (codes "Array") u (complete 2 [] (omega arith)) (named (codes "Array") u (search rules) array_stored a) free
            | inr none ↦ false_true none
          ]
        ]
      ]
