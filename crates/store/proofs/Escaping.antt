-- Raw text that is written behind the items of some memory.
use Rattle.std.proofs.Common.{◌≡◌, ℕ, ◌+◌, ◌-◌, ◌≤◌, List, ◌++◌, length, take, drop, Err, sym, ap, ◌∙◌, subst, inl, inr, arith, length-append, take_at}
use Rattle.std.proofs.lemmas.List.{take_rest}
use Rattle.base.specs.declared.fault.Fault.{Fault}
use Rattle.text.specs.Stored.{Stores, Lawful}
use Rattle.template.specs.Calls.{Escapes}
use Rattle.store.specs.Raw.{AppendsRawTo}

-- What is refused of a part of the memory is refused of it all.
pub refused : (xs front rest out : List ℕ) (start len : ℕ) (e : Fault) → xs ≡ front ++ rest → length front ≡ len → start ≤ len
    → Escapes (take (length front - start) (drop start front)) rest out (Err e) → AppendsRawTo xs start len (front ++ out) (Err e)
refused xs front rest out start len e is long le w =
    let first : take len xs ≡ front = ap (take len) is ∙ take_at front rest len long in
    let text : take (length front - start) (drop start front) ≡ drop start (take len xs) = take_rest front start ∙ ap (drop start) (sym first) in
    let all : length xs ≡ length front + length rest = ap length is ∙ length-append front rest in (
      ap (λ l. front ++ l) w.0 ∙ sym is,
      inr (
        le,
        elim w.1 [
          | inl bad ↦ inl (bad.0, λ l. bad.1 (subst Lawful (sym text) l))
          | inr good ↦ inr (
            subst Lawful text good.0,
            elim good.1 [
              | inl bad ↦ inl (bad.0, λ f. bad.1 (λ us s. omega (arith, f us (subst (λ t. Stores t us) text s), all, long)))
              | inr never ↦ absurd never.1
            ],
          )
        ],
      ),
    )
