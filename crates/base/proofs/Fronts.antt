-- A run at the front of a slice, and more behind it.
use Rattle.std.proofs.Common.{◌≡◌, ℕ, ◌+◌, ◌-◌, ◌≤◌, List, ◌++◌, length, take, drop, Ok, sym, ap, ◌∙◌, arith, length-append, drop-drop, take_at}
use lib.Seq.{drop-append-add}
use Rattle.base.specs.Runs.{Appended}

-- Behind a run that stands at the front, what was there still stands.
pub drop_front : {T : Type 0} (old run : List T) (n : ℕ) → length run ≤ n → drop n (run ++ drop (length run) old) ≡ drop n old
drop_front old run n h =
    let split : n ≡ length run + (n - length run) = omega arith in
    ap (λ m. drop m (run ++ drop (length run) old)) split
    ∙ drop-append-add run (drop (length run) old) (n - length run)
    ∙ drop-drop (n - length run) (length run) old
    ∙ ap (λ m. drop m old) (sym split)

pub front_more : {T : Type 0} (old run more mid new : List T) (at n : ℕ) → at ≡ length run → mid ≡ run ++ drop (length run) old → Appended mid at more new (Ok n) → (n ≡ length (run ++ more)) × (new ≡ (run ++ more) ++ drop (length (run ++ more)) old)
front_more old run more mid new at n e f a =
    let long : n ≡ length (run ++ more) = omega (arith, a.0, length-append run more) in
    let low : length run ≤ n = omega (arith, a.0) in (
      long,
      a.2
          ∙ ap (λ l. take at l ++ more ++ drop n l) f
          ∙ ap (λ l. l ++ more ++ drop n (run ++ drop (length run) old)) (take_at run (drop (length run) old) at (sym e))
          ∙ ap (λ l. run ++ more ++ l) (drop_front old run n low)
          ∙ ap (λ m. run ++ more ++ drop m old) long,
    )
