-- What is counted of the calls of a chain, and of what they become.
use Rattle.std.proofs.Common.{◌≡◌, ℕ, ◌+◌, ◌*◌, ◌^◌, ◌<◌, ◌≤◌, Bool, true, false, cond, List, [], ◌∷◌, ◌++◌, length, drop, get_or, Some, None, refl, sym, subst, ap, ◌∙◌, arith}
use Rattle.tree.specs.declared.run.Run.{Run}
use Rattle.tree.specs.Heap.{Held, entries_at}
use Rattle.tree.specs.Limits.{WithinLimits}
use Rattle.text.specs.Stored.{stored}
use Rattle.store.specs.declared.stores.Counts.{Counts}
use Rattle.meaning.specs.Expression.{Expression, Arguments, Units}
use Rattle.meaning.specs.Methods.{concat_name}
use Rattle.meaning.specs.Parts.{Part}
use Rattle.rules.specs.Building.{append_arguments, flat}
use Rattle.rules.specs.Chain.{Chain, chain_of, called_on, longer}
use Rattle.rules.specs.Deciding.{same_name}
use Rattle.rules.specs.Interleaves.{argument_count}
use Rattle.deciding.specs.declared.concat_chain.Root.{Root}
use Rattle.deciding.specs.declared.concat_chain.Root.TheVariants.{String, Array}
use Rattle.deciding.specs.declared.concat_chain.ConcatChain.{ConcatChain}
use Rattle.deciding.specs.declared.pieces.Pieces.{Pieces}
use Rattle.deciding.specs.Standing.{Stands, argument_parts, Spells}
use Rattle.deciding.specs.ConcatCalls.{CallsStand, Rooted, Collects, calls_of}
use Rattle.deciding.specs.Needs.{CountsCalls, CountsChain, calls_in, BasedOn, JoinsTo, JoinsChain}
use Rattle.deciding.specs.Reached.{Reached, needed, nothing_read, with_text, with_part, with_parts, size, Tells, IsEmpty, ReadsText, ReadsAll, TakesAll}
use Rattle.deciding.proofs.ChainCounts.{counted_one, counted_more, no_arguments_none}
use Rattle.deciding.proofs.ChainWalks.{call_at, behind_it, calls_end, flat_front}
use Rattle.deciding.proofs.ReadPieces.{cut_small, parts_small}

-- ---- all arguments

-- So many arguments the first k calls have.
pub record CountedCalls (runs : List (Run ℕ)) (len k : ℕ) : Type 0 where
  pub bounded : len ≤ k * 2 ^ 32
  pub behind : (h : Held) (xss : List Arguments) → CallsStand h runs xss → argument_count (flat xss) ≡ len + argument_count (flat (drop k xss))

pub no_call_counted : (runs : List (Run ℕ)) → CountedCalls runs 0 0
no_call_counted runs = record { bounded = omega arith; behind = λ h xss s. omega arith }

pub call_counted : (runs : List (Run ℕ)) (len k : ℕ) (d : Run ℕ) → CountedCalls runs len k → k < length runs → (get_or runs k d).len < 2 ^ 32 → CountedCalls runs (len + (get_or runs k d).len) (k + 1)
call_counted runs len k d w lt fits = record {
  bounded = let a = w.bounded in omega (arith, a, fits);
  behind = λ h xss s.
      let c = call_at h runs k d xss s lt in
      let a = w.behind h xss s in
      let here = ap (λ z. argument_count (flat z)) c.here ∙ counted_more c.arguments c.rest in
      let one = counted_one h (get_or runs k d) c.arguments c.stand in
      let next = ap (λ z. argument_count (flat z)) (behind_it h runs k d xss c) in
      omega (arith, a, here, one, next);
}

pub calls_counted : (runs : List (Run ℕ)) (len k : ℕ) → CountedCalls runs len k → length runs ≤ k → CountsCalls runs len
calls_counted runs len k w le h xss s =
    let a = w.behind h xss s in
    let b = ap (λ z. argument_count (flat z)) (calls_end h runs k xss s le) ∙ no_arguments_none in
    omega (arith, a, b)

-- Those of a chain that was collected, or of none.
rooted_calls : (r : Root) (f : Expression) (xss : List Arguments) (c : Chain) → Rooted r f xss c → calls_in c ≡ xss
unfolding calls_in
rooted_calls String f xss c w = ap calls_in w.1
rooted_calls Array f xss c w = ap calls_in w

pub chain_counted : (h : Held) (call : ℕ) (k : ConcatChain) → Collects h call (Some k) → (calls : List (Run ℕ)) (len : ℕ) → calls ≡ calls_of k → CountsCalls calls len → CountsChain h call len
chain_counted h call k found calls len is counted limits x s =
    let w = found limits.0 x s in
    counted h w.calls (subst (λ z. CallsStand h z w.calls) (sym is) w.calls_stand) ∙ ap (λ z. argument_count (flat z)) (sym (rooted_calls k.root w.callee w.calls (chain_of x) w.rooted))

pub no_chain_counted : (h : Held) (call : ℕ) → Collects h call None → CountsChain h call 0
unfolding calls_in
no_chain_counted h call found limits x s = sym (ap (λ c. argument_count (flat (calls_in c))) (found limits.0 x s) ∙ no_arguments_none)

-- ---- all parts

parts_append : (xs ys : Arguments) → argument_parts (append_arguments xs ys) ≡ argument_parts xs ++ argument_parts ys
unfolding append_arguments argument_parts
parts_append Arguments.no_arguments ys = refl
parts_append (Arguments.argument x xs) ys = ap (λ ps. Part.expression x ∷ ps) (parts_append xs ys)
parts_append (Arguments.spread_argument l x xs) ys = ap (λ ps. Part.spread l x ∷ ps) (parts_append xs ys)

with_append : (s : Reached) (ps qs : List Part) → with_parts s (ps ++ qs) ≡ with_parts (with_parts s ps) qs
unfolding with_parts
with_append s [] qs = refl
with_append s (p ∷ ps) qs = with_append (with_part s p) ps qs

with_call : (s : Reached) (xs : Arguments) (xss : List Arguments) → with_parts s (argument_parts (flat (xs ∷ xss))) ≡ with_parts (with_parts s (argument_parts xs)) (argument_parts (flat xss))
with_call s xs xss = ap (λ z. with_parts s (argument_parts z)) (flat_front xs xss) ∙ ap (with_parts s) (parts_append xs (flat xss)) ∙ with_append s (argument_parts xs) (argument_parts (flat xss))

with_no_call : (s : Reached) → with_parts s (argument_parts (flat [])) ≡ s
unfolding with_parts argument_parts flat
with_no_call s = refl

-- So far the first k calls are read.
pub record AlongCalls (pieces : Pieces) (u : Units) (xss : List Arguments) (k : ℕ) : Type 0 where
  pub state : Reached
  pub told : Tells pieces state
  pub behind : with_parts (with_text nothing_read u) (argument_parts (flat xss)) ≡ with_parts state (argument_parts (flat (drop k xss)))
  pub small : size state ≤ 3 * 65536 + k * 2 ^ 32

pub record JoinedSoFar (h : Held) (base : Run ℕ) (runs : List (Run ℕ)) (pieces : Pieces) (k : ℕ) : Type 0 where
  pub along : WithinLimits h → (u : Units) (xss : List Arguments) → Spells h base u → CallsStand h runs xss → AlongCalls pieces u xss k

text_short : (h : Held) (r : Run ℕ) (u : Units) → Spells h r u → length (stored u) ≤ length h.text
text_short h r u s =
    let a = ap length s.1.1 in
    let b = cut_small h.text r.start r.len in
    omega (arith, a, b)

pub base_read : (h : Held) (base : Run ℕ) (runs : List (Run ℕ)) (nothing pieces : Pieces) → IsEmpty nothing → ReadsText h base nothing pieces → JoinedSoFar h base runs pieces 0
base_read h base runs nothing pieces empty reads = record {
  along = λ limits u xss sp s.
      let a = text_short h base u sp in
      let few = limits.2 in
      record {
        state = with_text nothing_read u;
        told = reads few u sp nothing_read empty (omega arith);
        behind = refl;
        small = omega (arith, a, few);
      };
}

pub call_read : (h : Held) (base : Run ℕ) (runs : List (Run ℕ)) (pieces more : Pieces) (k : ℕ) (d : Run ℕ) → JoinedSoFar h base runs pieces k → k < length runs → length runs ≤ 2048 → ReadsAll h (get_or runs k d) pieces more → JoinedSoFar h base runs more (k + 1)
call_read h base runs pieces more k d w lt fits reads = record {
  along = λ limits u xss sp s.
      let a = w.along limits u xss sp s in
      let c = call_at h runs k d xss s lt in
      let r = get_or runs k d in
      let few = limits.2 in
      let listed = cut_small h.entries r.start r.len in
      let entries = limits.1 in
      let i = a.small in
      let j = parts_small h (entries_at h.entries r) (argument_parts c.arguments) few c.stand.1 a.state in
      record {
        state = with_parts a.state (argument_parts c.arguments);
        told = reads few c.arguments c.stand a.state a.told (omega (arith, i, listed, entries, lt, fits));
        behind = a.behind ∙ ap (λ z. with_parts a.state (argument_parts (flat z))) c.here ∙ with_call a.state c.arguments c.rest
            ∙ ap (λ z. with_parts (with_parts a.state (argument_parts c.arguments)) (argument_parts (flat z))) (sym (behind_it h runs k d xss c));
        small = omega (arith, i, j, listed, entries);
      };
}

pub calls_read : (h : Held) (base : Run ℕ) (runs : List (Run ℕ)) (pieces : Pieces) (k : ℕ) (need : Counts) → JoinedSoFar h base runs pieces k → length runs ≤ k → k ≤ length runs → length runs ≤ 2048 → TakesAll pieces need → JoinsTo h base runs need
calls_read h base runs pieces k need w le ge fits takes limits u xss sp s =
    let a = w.along limits u xss sp s in
    let i = a.small in
    takes a.state a.told (omega (arith, i, ge, fits))
    ∙ ap needed (sym (a.behind ∙ ap (λ z. with_parts a.state (argument_parts (flat z))) (calls_end h runs k xss s le) ∙ with_no_call a.state))

-- ---- the whole chain

-- The innermost callee of a string's chain is a static member of a string of that text.
pub record OfText (f : Expression) (u : Units) : Type 0 where
  pub m : ℕ
  pub l : ℕ
  pub key : Units
  pub is : f ≡ Expression.static_member m (Expression.string l u) key

abbrev Based : Chain → Type 0
Based (Chain.of_string f u xss) = OfText f u
Based (Chain.of_array f xss) = Unit {0}
Based Chain.none = Unit {0}

longer_based : (c : Chain) (xs : Arguments) → Based c → Based (longer c xs)
unfolding longer
longer_based (Chain.of_string f u xss) xs b = b
longer_based (Chain.of_array f xss) xs b = tt
longer_based Chain.none xs b = tt

called_based : (m : ℕ) (o : Expression) (k : Units) (xs : Arguments) (c : Chain) → Based c → Based (called_on (Expression.static_member m o k) o xs c)
unfolding called_on
called_based m (Expression.string l u) k xs c b = record { m = m; l = l; key = k; is = refl }
called_based m (Expression.array l es) k xs c b = tt
called_based m o k xs c b = longer_based c xs b

chain_based : (x : Expression) → Based (chain_of x)
unfolding chain_of
chain_based (Expression.call n (Expression.static_member m o k) xs) = by (same_name k concat_name) (called_based m o k xs (chain_of o) (chain_based o))
  where
    by : (b : Bool) → Based (called_on (Expression.static_member m o k) o xs (chain_of o)) → Based (cond b (called_on (Expression.static_member m o k) o xs (chain_of o)) Chain.none)
    by true w = w
    by false w = tt
chain_based x = tt

pub string_based : (x g : Expression) (u : Units) (xss : List Arguments) → chain_of x ≡ Chain.of_string g u xss → OfText g u
string_based x g u xss e = subst Based e (chain_based x)

by_root : (r : Root) (f g : Expression) (u : Units) (yss xss : List Arguments) (c : Chain) → Rooted r f yss c → c ≡ Chain.of_string g u xss → (f ≡ g) × (yss ≡ xss)
by_root String f g u yss xss c w e = let same = sym w.1 ∙ e in (cc, cc)
by_root Array f g u yss xss c w e = absurd (cc)

module _ (h : Held) (call : ℕ) (k : ConcatChain) (found : Collects h call (Some k)) where
  pub chain_joined : (base : Run ℕ) (calls : List (Run ℕ)) (need : Counts) → calls ≡ calls_of k → BasedOn h k.new_root_callee (Some base) → JoinsTo h base calls need → JoinsChain h call need
  chain_joined base calls need is based joins limits x g u xss s e =
      let w = found limits.0 x s in
      let same = by_root k.root w.callee g u w.calls xss (chain_of x) w.rooted e in
      let t = string_based x g u xss e in
      let callee = subst (λ z. Stands h k.new_root_callee (Part.expression z)) (same.0 ∙ t.is) w.callee_stands in
      joins limits u xss (based t.m t.l u t.key callee) (subst (λ z. CallsStand h z xss) (sym is) (subst (CallsStand h (calls_of k)) same.1 w.calls_stand))

  pub not_based : (need : Counts) → BasedOn h k.new_root_callee None → JoinsChain h call need
  not_based need based limits x g u xss s e =
      let w = found limits.0 x s in
      let same = by_root k.root w.callee g u w.calls xss (chain_of x) w.rooted e in
      let t = string_based x g u xss e in
      absurd (based t.m t.l u t.key (subst (λ z. Stands h k.new_root_callee (Part.expression z)) (same.0 ∙ t.is) w.callee_stands))
