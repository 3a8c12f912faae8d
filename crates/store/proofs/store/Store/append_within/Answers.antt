use Rattle.std.proofs.Common.{◌≡◌, ℕ, ◌+◌, ◌-◌, ◌≤◌, List, ◌++◌, length, take, drop, sym, ap, ◌∙◌, arith, length-append, take_at}
use Rattle.std.proofs.lemmas.List.{length-take-le, length-drop, take-take, drop-take}
use lib.Seq.{paste}
use Rattle.tree.specs.Heap.{cut}
use Rattle.store.proofs.store.Store.append_within.Goals as goal

-- A piece of the first k items is the same piece of all of them.
cut_first : {X : Type 0} → (xs : List X) (k start len : ℕ) → start + len ≤ k → cut xs start len ≡ cut (take k xs) start len
cut_first xs k start len within =
    let rest : k ≡ start + (k - start) = omega arith in
    sym (
    ap (λ m. cut (take m xs) start len) rest
    ∙ ap (take len) (drop-take start (k - start) xs)
    ∙ take-take len (k - start) (drop start xs) (omega arith)
    )

-- The piece pasted right behind the first k items.
pasted : {X : Type 0} → (xs new : List X) (k start len : ℕ) → k ≤ length xs → start + len ≤ k → k + len ≤ length xs → new ≡ paste xs k (drop start xs) (start + len - start)
    → (take (k + len) new ≡ take k xs ++ cut (take k xs) start len) × (new ≡ take k xs ++ cut (take k xs) start len ++ drop (length (take k xs ++ cut (take k xs) start len)) xs)
pasted xs new k start len held within room e =
    let piece = cut (take k xs) start len in
    let front = take k xs ++ piece in
    let same : cut xs start len ≡ piece = cut_first xs k start len within in
    let first : length (take k xs) ≡ k = length-take-le k xs held in
    let long : length piece ≡ len = length-take-le len (drop start (take k xs)) (omega (arith, length-drop start (take k xs))) in
    let all : length front ≡ k + len = omega (arith, length-append (take k xs) piece) in
    let count : start + len - start ≡ len = omega arith in
    let is : new ≡ front ++ drop (k + len) xs =
    e
    ∙ ap (λ m. take k xs ++ take m (drop start xs) ++ drop (k + m) xs) count
    ∙ ap (λ l. take k xs ++ l ++ drop (k + len) xs) same
    in (
      ap (take (k + len)) is ∙ take_at front (drop (k + len) xs) (k + len) all,
      is ∙ ap (λ m. front ++ drop m xs) (sym all),
    )

pub returns : goal.returns
returns g c =
    let s = c.args.self.now in
    let p = pasted s.items.now c.copy_within.new.self s.len c.args.start c.args.len (omega arith) (omega arith) (omega arith) c.copy_within.ensures.after in
    let many : length (take s.len s.items.now) ≡ s.len = length-take-le s.len s.items.now (omega arith) in
    (p, omega arith, omega arith)
