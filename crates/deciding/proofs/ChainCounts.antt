-- What is counted of the arguments of a chain's calls.
use Rattle.std.proofs.Common.{◌≡◌, ℕ, zero, suc, ◌+◌, ◌*◌, ◌^◌, ◌<◌, ◌≤◌, Bool, true, false, ◌&&◌, not, List, [], ◌∷◌, length, drop, get_or, Some, None, nat_lt, nat_le, refl, sym, subst, ap, ◌∙◌, inl, inr, arith}
use Rattle.std.proofs.lemmas.Bool.{cases_lt}
use Rattle.std.proofs.lemmas.Bool.Decides.{nat_tests}
use Rattle.std.proofs.lemmas.List.{length-drop, length-take-le}
use Rattle.tree.specs.declared.run.Run.{Run}
use Rattle.tree.specs.Heap.{Held, entries_at, within, cut}
use Rattle.meaning.specs.Expression.{Arguments}
use Rattle.rules.specs.Interleaves.{argument_count, expression_count}
use Rattle.rules.specs.Interleaving.{no_spread, none_left}
use Rattle.rules.specs.Building.{flat}
use Rattle.deciding.specs.Standing.{AllStand, argument_parts, ListsArguments}
use Rattle.deciding.specs.Arguments.{any_spread, expressions_among}
use Rattle.deciding.specs.ConcatCalls.{CallsStand}
use Rattle.deciding.specs.ChainArguments.{CountsOf, LastArgumentOf}
use Rattle.deciding.proofs.Counts.{how_many, spread_among, expressions}
use Rattle.deciding.proofs.ChainWalks.{CallAt, call_at, behind_it, calls_end, flat_front, spread_append, count_append, expressions_append}

some_left : (xs : Arguments) → 0 < argument_count xs → none_left xs ≡ false
unfolding argument_count none_left
some_left Arguments.no_arguments lt = absurd (omega arith)
some_left (Arguments.argument x xs) lt = refl
some_left (Arguments.spread_argument l x xs) lt = refl

nothing_left : (xs : Arguments) → argument_count xs ≡ 0 → none_left xs ≡ true
unfolding argument_count none_left
nothing_left Arguments.no_arguments e = refl
nothing_left (Arguments.argument x xs) e = absurd (omega arith)
nothing_left (Arguments.spread_argument l x xs) e = absurd (omega arith)

pub no_arguments_none : argument_count (flat []) ≡ 0
unfolding flat argument_count
no_arguments_none = refl

no_expressions : expression_count (flat []) ≡ 0
unfolding flat expression_count
no_expressions = refl

no_spread_none : no_spread (flat []) ≡ true
unfolding flat no_spread
no_spread_none = refl

pub cut_length : (es : List ℕ) (start len : ℕ) → within es start len ≡ true → length (cut es start len) ≡ len
cut_length es start len e =
    let d = length-drop start es in
    let le : start + len ≤ length es = fits (start + len) (length es) e in
    length-take-le len (drop start es) (omega (arith, d, le))
  where
    fits : (k m : ℕ) → nat_le k m ≡ true → k ≤ m
    fits k m e = grind (arith, nat_tests)

pub counted_one : (h : Held) (r : Run ℕ) (xs : Arguments) → ListsArguments h r xs → argument_count xs ≡ r.len
counted_one h r xs s = sym (how_many h (entries_at h.entries r) xs s.1) ∙ cut_length h.entries r.start r.len s.0

pub counted_more : (xs : Arguments) (xss : List Arguments) → argument_count (flat (xs ∷ xss)) ≡ argument_count xs + argument_count (flat xss)
counted_more xs xss = ap argument_count (flat_front xs xss) ∙ count_append xs (flat xss)

-- ---- the last call with arguments

filled_behind : (h : Held) (runs : List (Run ℕ)) (d : Run ℕ) (k j : ℕ) (xss : List Arguments) → CallsStand h runs xss → k ≤ j → j < length runs → 0 < (get_or runs j d).len → 0 < argument_count (flat (drop k xss))
filled_behind h [] d k j xss s le lt f = absurd (omega arith)
filled_behind h (r ∷ rs) d k j [] s le lt f = absurd s
filled_behind h (r ∷ rs) d zero zero (xs ∷ xss) s le lt f =
    let m = counted_more xs xss in
    let c = counted_one h r xs s.0 in
    omega (arith, m, c, f)
filled_behind h (r ∷ rs) d zero (suc j) (xs ∷ xss) s le lt f =
    let m = counted_more xs xss in
    let i = filled_behind h rs d zero j xss s.1 (omega arith) (omega arith) f in
    omega (arith, m, i)
filled_behind h (r ∷ rs) d (suc k) zero (xs ∷ xss) s le lt f = absurd (omega arith)
filled_behind h (r ∷ rs) d (suc k) (suc j) (xs ∷ xss) s le lt f = filled_behind h rs d k j xss s.1 (omega arith) (omega arith) f

empty_behind : (h : Held) (runs : List (Run ℕ)) (d : Run ℕ) (k : ℕ) (xss : List Arguments) → CallsStand h runs xss → ((j : ℕ) → k ≤ j → j < length runs → (get_or runs j d).len ≡ 0) → argument_count (flat (drop k xss)) ≡ 0
empty_behind h [] d zero [] s f = no_arguments_none
empty_behind h [] d (suc k) [] s f = no_arguments_none
empty_behind h [] d k (xs ∷ xss) s f = absurd s
empty_behind h (r ∷ rs) d k [] s f = absurd s
empty_behind h (r ∷ rs) d zero (xs ∷ xss) s f =
    let m = counted_more xs xss in
    let c = counted_one h r xs s.0 in
    let i = empty_behind h rs d zero xss s.1 (λ j le lt. f (suc j) (omega arith) (omega arith)) in
    let g = f 0 (omega arith) (omega arith) in
    omega (arith, m, c, i, g)
empty_behind h (r ∷ rs) d (suc k) (xs ∷ xss) s f = empty_behind h rs d k xss s.1 (λ j le lt. f (suc j) (omega arith) (omega arith))

-- Of the first i calls none has arguments from the count-th on, and the one before that has some.
pub record LastSoFar (runs : List (Run ℕ)) (i count : ℕ) (d : Run ℕ) : Type 0 where
  pub below : count ≤ i
  pub last : (j : ℕ) → count ≡ suc j → 0 < (get_or runs j d).len
  pub empty : (j : ℕ) → count ≤ j → j < i → (get_or runs j d).len ≡ 0

pub none_so_far : (runs : List (Run ℕ)) (d : Run ℕ) → LastSoFar runs 0 0 d
none_so_far runs d = record { below = omega arith; last = λ j e. absurd (omega arith); empty = λ j le lt. absurd (omega arith) }

pub later_last : (runs : List (Run ℕ)) (i count : ℕ) (d : Run ℕ) → 0 < (get_or runs i d).len → LastSoFar runs (i + 1) (i + 1) d
later_last runs i count d f = record {
  below = omega arith;
  last = λ j e. let g : j ≡ i = omega arith in subst (λ z. 0 < (get_or runs z d).len) (sym g) f;
  empty = λ j le lt. absurd (omega arith);
}

pub same_last : (runs : List (Run ℕ)) (i count : ℕ) (d : Run ℕ) → LastSoFar runs i count d → (get_or runs i d).len ≤ 0 → LastSoFar runs (i + 1) count d
same_last runs i count d w f = record {
  below = let b = w.below in omega (arith, b);
  last = w.last;
  empty = λ j le lt.
      elim (cases_lt j i) [
        | inl l ↦ w.empty j le l
        | inr g ↦ let e : j ≡ i = omega arith in subst (λ z. (get_or runs z d).len ≡ 0) (sym e) (omega (arith, f))
      ];
}

pub last_within : (runs : List (Run ℕ)) (i count : ℕ) (d : Run ℕ) → LastSoFar runs i count d → i ≤ length runs → count ≤ length runs
last_within runs i count d w le = let b = w.below in omega (arith, b, le)

pub last_found : (runs : List (Run ℕ)) (i count : ℕ) (d : Run ℕ) → LastSoFar runs i count d → i ≤ length runs → length runs ≤ i → LastArgumentOf runs count
last_found runs i count d w le ge h xss s k =
    elim (cases_lt k count) [
      | inl lt ↦ some_left (flat (drop k xss)) (filled count lt w.below (w.last)) ∙ sym (ap not (is_less k count lt))
      | inr le ↦ nothing_left (flat (drop k xss)) (empty_behind h runs d k xss s (λ j l lt. w.empty j (omega arith) (omega arith))) ∙ sym (ap not (is_not_less k count le))
    ]
  where
    filled : (c : ℕ) → k < c → c ≤ i → ((j : ℕ) → c ≡ suc j → 0 < (get_or runs j d).len) → 0 < argument_count (flat (drop k xss))
    filled zero lt b f = absurd (omega arith)
    filled (suc j) lt b f = filled_behind h runs d k j xss s (omega arith) (omega (arith, b, le)) (f j refl)

    is_less : (k m : ℕ) → k < m → nat_lt k m ≡ true
    is_less k m e = grind (arith, nat_tests)

    is_not_less : (k m : ℕ) → m ≤ k → nat_lt k m ≡ false
    is_not_less k m e = grind (arith, nat_tests)

-- ---- all arguments

-- Of the first k calls, none of whose arguments is a spread, so many are counted.
pub record CountedSoFar (h : Held) (runs : List (Run ℕ)) (k arguments expressions : ℕ) : Type 0 where
  pub below : expressions ≤ arguments
  pub bounded : arguments ≤ k * 2 ^ 32
  pub spread_left : (xss : List Arguments) → CallsStand h runs xss → no_spread (flat xss) ≡ no_spread (flat (drop k xss))
  pub arguments_left : (xss : List Arguments) → CallsStand h runs xss → argument_count (flat xss) ≡ arguments + argument_count (flat (drop k xss))
  pub expressions_left : (xss : List Arguments) → CallsStand h runs xss → expression_count (flat xss) ≡ expressions + expression_count (flat (drop k xss))

pub none_counted : (h : Held) (runs : List (Run ℕ)) → CountedSoFar h runs 0 0 0
none_counted h runs = record {
  below = omega arith;
  bounded = omega arith;
  spread_left = λ xss s. refl;
  arguments_left = λ xss s. omega arith;
  expressions_left = λ xss s. omega arith;
}

module _ (h : Held) (runs : List (Run ℕ)) (k arguments expressions_so_far : ℕ) (d : Run ℕ) (w : CountedSoFar h runs k arguments expressions_so_far) (lt : k < length runs) where
  false_true : {A : Type 0} → false ≡ true → A
  false_true e = absurd (cc)

  pub no_list : within h.entries (get_or runs k d).start (get_or runs k d).len ≡ false → CountsOf h runs None
  no_list e xss s = let c = call_at h runs k d xss s lt in false_true (sym e ∙ c.stand.0)

  spread_of : (xss : List Arguments) (c : CallAt h runs k d xss) → no_spread (flat (drop k xss)) ≡ (no_spread c.arguments && no_spread (flat c.rest))
  spread_of xss c = ap (λ z. no_spread (flat z)) c.here ∙ ap no_spread (flat_front c.arguments c.rest) ∙ spread_append c.arguments (flat c.rest)

  module _ (ns : List ℕ) (is : ns ≡ entries_at h.entries (get_or runs k d)) where
    standing : (xss : List Arguments) (c : CallAt h runs k d xss) → AllStand h ns (argument_parts c.arguments)
    standing xss c = subst (λ z. AllStand h z (argument_parts c.arguments)) (sym is) c.stand.1

    pub a_spread : (b : Bool) → b ≡ any_spread h ns → b ≡ true → CountsOf h runs None
    a_spread b e f xss s =
        let c = call_at h runs k d xss s lt in
        w.spread_left xss s ∙ spread_of xss c ∙ ap (λ z. z && no_spread (flat c.rest)) (spread_among h ns c.arguments (standing xss c) ∙ ap not (sym e ∙ f))

    long : within h.entries (get_or runs k d).start (get_or runs k d).len ≡ true → length ns ≡ (get_or runs k d).len
    long i = ap length is ∙ cut_length h.entries (get_or runs k d).start (get_or runs k d).len i

    pub count_step : (b : Bool) → b ≡ any_spread h ns → b ≡ false → within h.entries (get_or runs k d).start (get_or runs k d).len ≡ true → (get_or runs k d).len < 2 ^ 32 → expressions_among h ns ≤ length ns
        → (more : ℕ) → more ≡ expressions_among h ns → CountedSoFar h runs (k + 1) (arguments + (get_or runs k d).len) (expressions_so_far + more)
    count_step b e f i fits le more m = record {
      below = let q = w.below in let l = long i in omega (arith, q, l, le, m);
      bounded = let q = w.bounded in omega (arith, q, fits);
      spread_left = λ xss s.
          let c = call_at h runs k d xss s lt in
          w.spread_left xss s ∙ spread_of xss c ∙ ap (λ z. z && no_spread (flat c.rest)) (spread_among h ns c.arguments (standing xss c) ∙ ap not (sym e ∙ f)) ∙ ap (λ z. no_spread (flat z)) (sym (behind_it h runs k d xss c));
      arguments_left = λ xss s.
          let c = call_at h runs k d xss s lt in
          let q = w.arguments_left xss s in
          let here = ap (λ z. argument_count (flat z)) c.here ∙ counted_more c.arguments c.rest in
          let next = ap (λ z. argument_count (flat z)) (behind_it h runs k d xss c) in
          let n = how_many h ns c.arguments (standing xss c) in
          let l = long i in
          omega (arith, q, here, next, n, l);
      expressions_left = λ xss s.
          let c = call_at h runs k d xss s lt in
          let q = w.expressions_left xss s in
          let here = ap (λ z. expression_count (flat z)) c.here ∙ ap expression_count (flat_front c.arguments c.rest) ∙ expressions_append c.arguments (flat c.rest) in
          let next = ap (λ z. expression_count (flat z)) (behind_it h runs k d xss c) in
          let n = expressions h ns c.arguments (standing xss c) in
          omega (arith, q, here, next, n, m);
    }

pub all_counted : (h : Held) (runs : List (Run ℕ)) (k arguments expressions : ℕ) → CountedSoFar h runs k arguments expressions → length runs ≤ k
    → CountsOf h runs (Some (record { arguments = arguments; expressions = expressions }))
all_counted h runs k arguments expressions w le xss s =
    let end = calls_end h runs k xss s le in
    let q = w.arguments_left xss s in
    let r = w.expressions_left xss s in
    let a = ap (λ z. argument_count (flat z)) end ∙ no_arguments_none in
    let b = ap (λ z. expression_count (flat z)) end ∙ no_expressions in
    (w.spread_left xss s ∙ ap (λ z. no_spread (flat z)) end ∙ no_spread_none, omega (arith, q, a), omega (arith, r, b))
