-- Walks over the calls of a chain, by the pieces in which their arguments stand.
use Rattle.std.proofs.Common.{◌≡◌, ℕ, zero, suc, ◌+◌, ◌<◌, ◌≤◌, true, ◌&&◌, List, [], ◌∷◌, length, drop, get_or, refl, sym, ap, ◌∙◌, arith}
use Rattle.std.proofs.lemmas.Bool.{and_parts}
use Rattle.tree.specs.declared.run.Run.{Run}
use Rattle.tree.specs.Heap.{Held}
use Rattle.meaning.specs.Expression.{Arguments}
use Rattle.rules.specs.Building.{append_arguments, flat}
use Rattle.rules.specs.Interleaves.{argument_count, expression_count}
use Rattle.rules.specs.Interleaving.{no_spread}
use Rattle.deciding.specs.ConcatCalls.{CallsStand}
use Rattle.deciding.specs.Standing.{ListsArguments}

-- The k-th call, and those behind it.
pub record CallAt (h : Held) (runs : List (Run ℕ)) (k : ℕ) (d : Run ℕ) (xss : List Arguments) : Type 0 where
  pub arguments : Arguments
  pub rest : List Arguments
  pub here : drop k xss ≡ arguments ∷ rest
  pub next : drop (suc k) xss ≡ rest
  pub stand : ListsArguments h (get_or runs k d) arguments

pub call_at : (h : Held) (runs : List (Run ℕ)) (k : ℕ) (d : Run ℕ) (xss : List Arguments) → CallsStand h runs xss → k < length runs → CallAt h runs k d xss
call_at h [] k d xss s lt = absurd (omega arith)
call_at h (r ∷ rs) k d [] s lt = absurd s
call_at h (r ∷ rs) zero d (xs ∷ xss) s lt = record { arguments = xs; rest = xss; here = refl; next = refl; stand = s.0 }
call_at h (r ∷ rs) (suc k) d (xs ∷ xss) s lt =
    let w = call_at h rs k d xss s.1 (omega arith) in
    record { arguments = w.arguments; rest = w.rest; here = w.here; next = w.next; stand = w.stand }

pub behind_it : (h : Held) (runs : List (Run ℕ)) (k : ℕ) (d : Run ℕ) (xss : List Arguments) (w : CallAt h runs k d xss) → drop (k + 1) xss ≡ w.rest
behind_it h runs k d xss w = let e : k + 1 ≡ suc k = omega arith in ap (λ m. drop m xss) e ∙ w.next

pub calls_end : (h : Held) (runs : List (Run ℕ)) (k : ℕ) (xss : List Arguments) → CallsStand h runs xss → length runs ≤ k → drop k xss ≡ []
calls_end h [] zero [] s le = refl
calls_end h [] (suc k) [] s le = refl
calls_end h [] k (xs ∷ xss) s le = absurd s
calls_end h (r ∷ rs) k [] s le = absurd s
calls_end h (r ∷ rs) zero (xs ∷ xss) s le = absurd (omega arith)
calls_end h (r ∷ rs) (suc k) (xs ∷ xss) s le = calls_end h rs k xss s.1 (omega arith)

pub calls_behind : (h : Held) (runs : List (Run ℕ)) (k : ℕ) (xss : List Arguments) → CallsStand h runs xss → CallsStand h (drop k runs) (drop k xss)
calls_behind h runs zero xss s = s
calls_behind h [] (suc k) [] s = tt
calls_behind h [] (suc k) (xs ∷ xss) s = absurd s
calls_behind h (r ∷ rs) (suc k) [] s = absurd s
calls_behind h (r ∷ rs) (suc k) (xs ∷ xss) s = calls_behind h rs k xss s.1

-- ---- all arguments, of one call and of those behind it

pub flat_front : (xs : Arguments) (xss : List Arguments) → flat (xs ∷ xss) ≡ append_arguments xs (flat xss)
unfolding flat
flat_front xs xss = refl

pub flat_none : flat [] ≡ Arguments.no_arguments
unfolding flat
flat_none = refl

pub spread_append : (xs ys : Arguments) → no_spread (append_arguments xs ys) ≡ (no_spread xs && no_spread ys)
unfolding append_arguments no_spread
spread_append Arguments.no_arguments ys = refl
spread_append (Arguments.argument x xs) ys = spread_append xs ys
spread_append (Arguments.spread_argument l x xs) ys = refl

pub count_append : (xs ys : Arguments) → argument_count (append_arguments xs ys) ≡ argument_count xs + argument_count ys
unfolding append_arguments argument_count
count_append Arguments.no_arguments ys = omega arith
count_append (Arguments.argument x xs) ys = let i = count_append xs ys in omega (arith, i)
count_append (Arguments.spread_argument l x xs) ys = let i = count_append xs ys in omega (arith, i)

pub expressions_append : (xs ys : Arguments) → expression_count (append_arguments xs ys) ≡ expression_count xs + expression_count ys
unfolding append_arguments expression_count
expressions_append Arguments.no_arguments ys = omega arith
expressions_append (Arguments.argument x xs) ys = let i = expressions_append xs ys in omega (arith, i)
expressions_append (Arguments.spread_argument l x xs) ys = let i = expressions_append xs ys in omega (arith, i)

-- No spread is among those behind the first k calls.
pub spread_behind : (k : ℕ) (xss : List Arguments) → no_spread (flat xss) ≡ true → no_spread (flat (drop k xss)) ≡ true
spread_behind zero xss e = e
spread_behind (suc k) [] e = e
spread_behind (suc k) (xs ∷ xss) e =
    spread_behind k xss (and_parts (no_spread xs) (no_spread (flat xss)) (sym (ap no_spread (flat_front xs xss) ∙ spread_append xs (flat xss)) ∙ e)).1

pub spread_here : (h : Held) (runs : List (Run ℕ)) (k : ℕ) (d : Run ℕ) (xss : List Arguments) (w : CallAt h runs k d xss) → no_spread (flat xss) ≡ true → no_spread w.arguments ≡ true
spread_here h runs k d xss w e =
    (and_parts (no_spread w.arguments) (no_spread (flat w.rest))
    (sym (ap (λ zss. no_spread (flat zss)) w.here ∙ ap no_spread (flat_front w.arguments w.rest) ∙ spread_append w.arguments (flat w.rest)) ∙ spread_behind k xss e)).0
