-- Walks over the arguments of a call, by the numbers at which they stand.
use Rattle.std.proofs.Common.{◌≡◌, ℕ, zero, suc, ◌<◌, ◌≤◌, true, false, List, [], ◌∷◌, length, get_or, refl, arith}
use Rattle.tree.specs.Heap.{Held}
use Rattle.meaning.specs.Expression.{Expression, Arguments}
use Rattle.meaning.specs.Parts.{Part}
use Rattle.rules.specs.Interleaving.{no_spread, none_left}
use Rattle.host.proofs.Knowing.{false_true}
use Rattle.deciding.specs.Standing.{Stands, AllStand, argument_parts}

-- The arguments from the k-th on.
unfoldable pub arguments_from : ℕ → Arguments → Arguments
arguments_from zero xs = xs
arguments_from (suc k) Arguments.no_arguments = Arguments.no_arguments
arguments_from (suc k) (Arguments.argument x xs) = arguments_from k xs
arguments_from (suc k) (Arguments.spread_argument l x xs) = arguments_from k xs

-- The argument of a number, where none is a spread, and those behind it.
pub record AtHead (h : Held) (ns : List ℕ) (k : ℕ) (xs : Arguments) : Type 0 where
  pub head : Expression
  pub rest : Arguments
  pub here : arguments_from k xs ≡ Arguments.argument head rest
  pub next : arguments_from (suc k) xs ≡ rest
  pub stands : Stands h (get_or ns k 0) (Part.expression head)
  pub is_last : length ns ≤ suc k → rest ≡ Arguments.no_arguments
  pub is_not_last : suc k < length ns → none_left rest ≡ false

pub none_behind : (h : Held) (ns : List ℕ) (xs : Arguments) → AllStand h ns (argument_parts xs) → length ns ≤ 0 → xs ≡ Arguments.no_arguments
unfolding argument_parts
none_behind h [] Arguments.no_arguments s e = refl
none_behind h (n ∷ ns) Arguments.no_arguments s e = absurd s
none_behind h [] (Arguments.argument x xs) s e = absurd s
none_behind h (n ∷ ns) (Arguments.argument x xs) s e = absurd (omega arith)
none_behind h [] (Arguments.spread_argument l x xs) s e = absurd s
none_behind h (n ∷ ns) (Arguments.spread_argument l x xs) s e = absurd (omega arith)

pub more_behind : (h : Held) (ns : List ℕ) (xs : Arguments) → AllStand h ns (argument_parts xs) → 0 < length ns → none_left xs ≡ false
unfolding argument_parts none_left
more_behind h [] Arguments.no_arguments s e = absurd (omega arith)
more_behind h (n ∷ ns) Arguments.no_arguments s e = absurd s
more_behind h ns (Arguments.argument x xs) s e = refl
more_behind h ns (Arguments.spread_argument l x xs) s e = refl

pub at_head : (h : Held) (ns : List ℕ) (k : ℕ) (xs : Arguments) → AllStand h ns (argument_parts xs) → no_spread xs ≡ true → k < length ns → AtHead h ns k xs
unfolding argument_parts no_spread arguments_from
at_head h [] k xs s t lt = absurd (omega arith)
at_head h (n ∷ ns) k Arguments.no_arguments s t lt = absurd s
at_head h (n ∷ ns) k (Arguments.spread_argument l x xs) s t lt = false_true t
at_head h (n ∷ ns) zero (Arguments.argument x xs) s t lt = record {
  head = x;
  rest = xs;
  here = refl;
  next = refl;
  stands = s.0;
  is_last = λ e. none_behind h ns xs s.1 (omega arith);
  is_not_last = λ e. more_behind h ns xs s.1 (omega arith);
}
at_head h (n ∷ ns) (suc k) (Arguments.argument x xs) s t lt =
    let w = at_head h ns k xs s.1 t (omega arith) in
    record {
      head = w.head;
      rest = w.rest;
      here = w.here;
      next = w.next;
      stands = w.stands;
      is_last = λ e. w.is_last (omega arith);
      is_not_last = λ e. w.is_not_last (omega arith);
    }

pub at_end : (h : Held) (ns : List ℕ) (k : ℕ) (xs : Arguments) → AllStand h ns (argument_parts xs) → length ns ≤ k → arguments_from k xs ≡ Arguments.no_arguments
unfolding argument_parts arguments_from
at_end h ns zero xs s e = none_behind h ns xs s e
at_end h ns (suc k) Arguments.no_arguments s e = refl
at_end h [] (suc k) (Arguments.argument x xs) s e = absurd s
at_end h (n ∷ ns) (suc k) (Arguments.argument x xs) s e = at_end h ns k xs s.1 (omega arith)
at_end h [] (suc k) (Arguments.spread_argument l x xs) s e = absurd s
at_end h (n ∷ ns) (suc k) (Arguments.spread_argument l x xs) s e = at_end h ns k xs s.1 (omega arith)
