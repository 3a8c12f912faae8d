-- Reading the words of a line one after the other. Assumes nothing.
use Rattle.std.proofs.Common.{◌≡◌, ℕ, true, false, MatchBool, List, [], ◌∷◌, Some, None, Option, is_some, length, sym, refl, ap, ◌∙◌, subst, arith, Bor}
use Rattle.std.specs.Iterator.{AlwaysYields}
use Rattle.script.specs.Words.{TwoOrThree}

no_some : false ≡ true → ⊥
no_some e = subst (λ b. MatchBool b ⊥ (Unit {0})) e tt

no_none : true ≡ false → ⊥
no_none e = subst (λ b. MatchBool b (Unit {0}) ⊥) e tt

module _ {S : Type 0} (steps : S → Option (Bor (List ℕ)) → S → Type 0) where
  -- These words are left.
  abbrev pub Left : S → List (List ℕ) → Type 0
  Left s ws = AlwaysYields steps (λ x. x.now) s ws

  none_left : (s t : S) (ws : List (List ℕ)) → Left s ws → steps s None t → ws ≡ []
  none_left s t [] l k = refl
  none_left s t (w ∷ ws) l k = absurd (l.0 t k)

  one_read : (s t : S) (x : Bor (List ℕ)) (ws : List (List ℕ)) → Left s ws → steps s (Some x) t → (more : List (List ℕ)) × (ws ≡ x.now ∷ more) × Left t more
  one_read s t x [] l k = absurd (l x t k)
  one_read s t x (w ∷ ws) l k = let m = l.1 x t k in (ws, ap (λ y. y ∷ ws) (sym m.0), m.1)

  -- A line of one word.
  pub alone : (s t u : S) (x : Bor (List ℕ)) (ws : List (List ℕ)) → Left s ws → steps s (Some x) t → steps t None u → TwoOrThree ws None
  alone s t u x ws l a b =
      let m = one_read s t x ws l a in
      let n = none_left t u m.0 m.2 b in
      let e : ws ≡ x.now ∷ [] = m.1 ∙ ap (λ zs. x.now ∷ zs) n in
      (λ two. omega (arith, two, ap length e), λ three. omega (arith, three, ap length e))

  -- A line of more than three words.
  pub many : (stays : (s t : S) → steps s None t → t ≡ s) (s t u v w : S) (x y : Bor (List ℕ)) (r : Option (Bor (List ℕ))) (q : Option (Bor (List ℕ))) (ws : List (List ℕ)) → Left s ws → steps s (Some x) t → steps t (Some y) u → steps u r v → steps v q w → is_some q ≡ true → TwoOrThree ws None
  many stays s t u v w x y r None ws l a b c d e = absurd (no_some e)
  many stays s t u v w x y None (Some z) ws l a b c d e =
      let m = one_read s t x ws l a in
      let n = one_read t u y m.0 m.2 b in
      let none = none_left u v n.0 n.2 c in
      absurd (ended w z (subst (Left u) none n.2) (subst (λ p. steps p (Some z) w) (stays u v c) d))
    where
      ended : (p : S) (o : Bor (List ℕ)) → Left u [] → steps u (Some o) p → ⊥
      ended p o k f = k o p f
  many stays s t u v w x y (Some o) (Some z) ws l a b c d e =
      let m = one_read s t x ws l a in
      let n = one_read t u y m.0 m.2 b in
      let o3 = one_read u v o n.0 n.2 c in
      let o4 = one_read v w z o3.0 o3.2 d in
      let whole : ws ≡ x.now ∷ y.now ∷ o.now ∷ z.now ∷ o4.0 = m.1 ∙ ap (λ zs. x.now ∷ zs) (n.1 ∙ ap (λ zs. y.now ∷ zs) (o3.1 ∙ ap (λ zs. o.now ∷ zs) o4.1)) in
      (λ two. omega (arith, two, ap length whole), λ three. omega (arith, three, ap length whole))

  -- A line of two words or three.
  pub few : (s t u v w : S) (x y : Bor (List ℕ)) (r : Option (Bor (List ℕ))) (q : Option (Bor (List ℕ))) (ws : List (List ℕ)) → Left s ws → steps s (Some x) t → steps t (Some y) u → steps u r v → steps v q w → is_some q ≡ false → TwoOrThree ws (Some (x, y, r))
  few s t u v w x y r (Some z) ws l a b c d e = absurd (no_none e)
  few s t u v w x y None None ws l a b c d e =
      let m = one_read s t x ws l a in
      let n = one_read t u y m.0 m.2 b in
      m.1 ∙ ap (λ zs. x.now ∷ zs) (n.1 ∙ ap (λ zs. y.now ∷ zs) (none_left u v n.0 n.2 c))
  few s t u v w x y (Some z) None ws l a b c d e =
      let m = one_read s t x ws l a in
      let n = one_read t u y m.0 m.2 b in
      let o = one_read u v z n.0 n.2 c in
      m.1 ∙ ap (λ zs. x.now ∷ zs) (n.1 ∙ ap (λ zs. y.now ∷ zs) (o.1 ∙ ap (λ zs. z.now ∷ zs) (none_left v w o.0 o.2 d)))
