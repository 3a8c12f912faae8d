-- A store that is refilled again and again.
use Rattle.std.proofs.Common.{◌≡◌, ℕ, ◌≤◌, List, ◌++◌, length, take, drop, sym, refl, ap, ◌∙◌, subst, arith, length-append, append_assoc}
use Rattle.std.proofs.lemmas.List.{length-take-le, take-append-drop, drop-append-le, length-drop}
use Rattle.std.proofs.lemmas.Slice.{drop-append-drop}
use Rattle.store.specs.declared.store.Store.{Store}
use Rattle.store.specs.Held.{lent, held, room, Refilled}

module _ {T : Type 0} where
  -- What lay behind the longer run lay there before.
  pub again : (a b c : Store T) (xs ys : List T) → Refilled a xs b → Refilled b ys c → length xs ≤ length ys → Refilled a ys c
  again a b c xs ys p q le =
      (q.0, q.1 ∙ ap (λ l. ys ++ drop (length ys) l) p.1 ∙ ap (λ l. ys ++ l) (drop-append-drop (length xs) (lent a) xs (length ys) le refl))

  pub as_it_was : (a : Store T) → Refilled a (held a) a
  as_it_was a =
      (refl, sym (take-append-drop a.len (lent a)) ∙ ap (λ n. held a ++ drop n (lent a)) (sym (length-take-le a.len (lent a) a.within)))

  pub shorter : (a b : Store T) (n : ℕ) → n ≤ length (held a) → held b ≡ take n (held a) → lent b ≡ lent a → Refilled a (take n (held a)) b
  shorter a b n le e m =
      let long : length (take n (held a)) ≡ n = length-take-le n (held a) le in
      let rest = drop (length (held a)) (lent a) in (
        e,
        m ∙ (as_it_was a).1 ∙ ap (λ l. l ++ rest) (sym (take-append-drop n (held a)))
            ∙ append_assoc (take n (held a)) (drop n (held a)) rest
            ∙ ap (λ l. take n (held a) ++ l) (sym (drop-append-le n (held a) rest le) ∙ ap (drop n) (sym (as_it_was a).1) ∙ ap (λ k. drop k (lent a)) (sym long)),
      )

  pub roomy : (a b : Store T) (xs : List T) → Refilled a xs b → length xs ≤ room a → room b ≡ room a
  roomy a b xs p le = omega (arith, ap length p.1, length-append xs (drop (length xs) (lent a)), length-drop (length xs) (lent a))

  -- More behind more.
  pub grows_on : (a b c : Store T) (xs ys : List T) → Refilled a (held a ++ xs) b → Refilled b (held b ++ ys) c → Refilled a (held a ++ (xs ++ ys)) c
  grows_on a b c xs ys p q =
      again a b c (held a ++ xs) (held a ++ (xs ++ ys)) p (subst (λ l. Refilled b l c) (ap (λ l. l ++ ys) p.0 ∙ append_assoc (held a) xs ys) q)
      (omega (arith, length-append (held a) xs, length-append (held a) (xs ++ ys), length-append xs ys))
