-- What a store holds of the memory that it is lent.
use Rattle.std.specs.Prelude.{◌≡◌, ℕ, ◌+◌, ◌≤◌, List, [], ◌∷◌, ◌++◌, length, take, drop, Ok, Err, Result}
use Rattle.base.specs.declared.fault.Fault.{Fault}
use Rattle.base.specs.Questions.{Refuses}
use Rattle.text.specs.Stored.{Stores, Lawful}
use Rattle.template.specs.Escaped.{raw_of}
use Rattle.tree.specs.Heap.{cut}
use Rattle.store.specs.declared.store.Store.{Store}

-- The whole memory, and how many items it has.
abbrev pub lent : {T : Type 0} → Store T → List T
lent s = s.items.now

abbrev pub room : {T : Type 0} → Store T → ℕ
room s = length (lent s)

-- The items that the store holds, at the front of the memory.
abbrev pub held : {T : Type 0} → Store T → List T
held s = take s.len (lent s)

-- The store `old` holds the items xs instead, and behind them the memory is as it was.
abbrev pub Refilled : {T : Type 0} → (old : Store T) (xs : List T) (new : Store T) → Type 0
Refilled old xs new = (held new ≡ xs) × (lent new ≡ xs ++ drop (length xs) (lent old))

-- Appending: all of `more` behind what was held, or nothing, for want of room.
abbrev pub AppendsTo : {T : Type 0} → (old : Store T) (more : List T) (new : Store T) → Result (Unit {0}) Fault → Type 0
AppendsTo old more new (Ok u) = Refilled old (held old ++ more) new × (length (held old) + length more ≤ room old)
AppendsTo old more new (Err e) = (held new ≡ held old) × (lent new ≡ lent old) × Refuses (((13, 0), length (held old) + length more ≤ room old) ∷ []) e

-- Appending what is held already: the `len` items from `start` on, behind all that was held; or nothing, where they are
-- not all held, or for want of room. (No origin: a notion of ours.)
abbrev pub AppendsWithin : {T : Type 0} → (old : Store T) (start len : ℕ) (new : Store T) → Result (Unit {0}) Fault → Type 0
AppendsWithin old start len new (Ok u) =
    Refilled old (held old ++ cut (held old) start len) new × (start + len ≤ length (held old)) × (length (held old) + len ≤ room old)
AppendsWithin old start len new (Err e) =
    (held new ≡ held old) × (lent new ≡ lent old)
    × Refuses (((13, 0), (start + len ≤ length (held old)) × (length (held old) + len ≤ room old)) ∷ []) e

-- Appending the raw template text of the text from `start` on, behind all that was held; or nothing, where that is not
-- held or no text, or for want of room. (No origin: a notion of ours.)
abbrev pub AppendsRaw : (old : Store ℕ) (start : ℕ) (new : Store ℕ) → Result (Unit {0}) Fault → Type 0
AppendsRaw old start new (Ok u) =
    (us : List ℕ) × Stores (drop start (held old)) us × Refilled old (held old ++ raw_of us) new × (start ≤ length (held old))
    × (length (held old) + length (raw_of us) ≤ room old)
AppendsRaw old start new (Err e) =
    (held new ≡ held old) × (lent new ≡ lent old)
    × Refuses (((13, 0), start ≤ length (held old))
    ∷ ((12, 0), Lawful (drop start (held old)))
    ∷ ((13, 0), (us : List ℕ) → Stores (drop start (held old)) us → length (held old) + length (raw_of us) ≤ room old)
    ∷ []) e
