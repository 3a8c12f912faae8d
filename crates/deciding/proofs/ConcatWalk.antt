-- The walk inwards through the calls of a chain. It ends: the numbers on the way are those of ever smaller trees, so no
-- two are the same, and there are no more than nodes.
use Rattle.std.proofs.Common.{◌≡◌, ℕ, ◌+◌, ◌-◌, ◌*◌, ◌<◌, ◌≤◌, true, false, List, [], ◌∷◌, ◌++◌, length, drop, slice_set, Some, None, inl, inr, refl, sym, subst, ap, ap₂, ◌∙◌, arith}
use Rattle.std.specs.List.{list_any, IsDistinct, AllByRecursion}
use Rattle.std.proofs.Math.Dec.{eqb}
use Rattle.std.proofs.Math.ListN.{replicate}
use Rattle.std.proofs.lemmas.Bool.{or_cases, eqb-true, ne_eqb}
use Rattle.std.proofs.lemmas.List.{append-nil, append_assoc, drop-set, drop_all, length-set, length-replicate}
use Rattle.std.proofs.lemmas.Option.{slice_get_within}
use Rattle.std.proofs.lemmas.Map.Keys.{IsDistinct-cons}
use Rattle.std.proofs.lemmas.Map.Steps.{length-le_from_distinct_below}
use Rattle.tree.specs.declared.run.Run.{Run}
use Rattle.tree.specs.Tree.{Tree, tree}
use Rattle.tree.specs.Heap.{Held, look}
use Rattle.tree.proofs.Counting.{weigh}
use Rattle.tree.proofs.Denoting.{same_tree}
use Rattle.meaning.specs.Expression.{Expression, Arguments, Units}
use Rattle.meaning.specs.Methods.{concat_name}
use Rattle.meaning.specs.Parts.{Part, part_tree}
use Rattle.rules.specs.Deciding.{same_name}
use Rattle.rules.specs.Chain.{Chain, chain_of, called_on, longer}
use Rattle.deciding.specs.declared.concat_chain.Root.{Root}
use Rattle.deciding.specs.declared.concat_chain.Root.TheVariants.{String, Array}
use Rattle.deciding.specs.declared.concat_chain.ConcatChain.{ConcatChain}
use Rattle.deciding.specs.declared.chain_calls.ConcatCall.{ConcatCall}
use Rattle.deciding.specs.Standing.{Stands}
use Rattle.deciding.specs.ConcatCalls.{root_of, RootAt, IsConcat, ConcatAt, CallsStand, Rooted, Collects}
use Rattle.deciding.proofs.Records.{recorded}

-- ---- the numbers on the way

abbrev size : Part → ℕ
size p = weigh (λ n. 1) (part_tree p)

-- The number stands for a part with more nodes than s.
record Larger (h : Held) (n s : ℕ) : Type 0 where
  part : Part
  stands : Stands h n part
  larger : s < size part

abbrev AllLarger : Held → List ℕ → ℕ → Type 0
AllLarger h [] s = Unit {0}
AllLarger h (k ∷ ks) s = Larger h k s × AllLarger h ks s

smaller : (h : Held) (ks : List ℕ) (s t : ℕ) → t ≤ s → AllLarger h ks s → AllLarger h ks t
smaller h [] s t le a = tt
smaller h (k ∷ ks) s t le a = let g = a.0.larger in (record { part = a.0.part; stands = a.0.stands; larger = omega (arith, g) }, smaller h ks s t le a.1)

another : (h : Held) (n k : ℕ) (p : Part) → Stands h n p → Larger h k (size p) → n ≡ k → ⊥
another h n k p s l e =
    let same = same_tree (look h) (part_tree p) (part_tree l.part) s.denoted l.stands.denoted (s.numbered ∙ e ∙ sym l.stands.numbered) in
    let f : size p ≡ size l.part = ap (weigh (λ m. 1)) same in
    let g = l.larger in
    omega (arith, f, g)

all_others : (h : Held) (n : ℕ) (ks : List ℕ) (p : Part) → Stands h n p → AllLarger h ks (size p) → IsDistinct eqb ks → IsDistinct eqb (n ∷ ks)
all_others h n ks p s a d = IsDistinct-cons eqb n ks (others ks a) d
  where
    others : (ks : List ℕ) → AllLarger h ks (size p) → AllByRecursion (λ y. eqb n y ≡ false) ks
    others [] a = tt
    others (k ∷ ks) a = (ne_eqb n k (another h n k p s a.0), others ks a.1)

in_store : (h : Held) (n : ℕ) (p : Part) → Stands h n p → n < length h.nodes
in_store h n p s = let r = recorded h n p s in slice_get_within h.nodes n r.node r.there

all_in_store : (h : Held) (ks : List ℕ) (s : ℕ) → AllLarger h ks s → (q : ℕ) → list_any (eqb q) ks ≡ true → q < length h.nodes
all_in_store h [] s a q e = absurd (cc)
all_in_store h (k ∷ ks) s a q e =
    elim (or_cases (eqb q k) (list_any (eqb q) ks) e) [
      | inl f ↦ let g = in_store h k a.0.part a.0.stands in let i = eqb-true q k f in omega (arith, g, i)
      | inr f ↦ all_in_store h ks s a.1 q f
    ]

-- Numbers of ever smaller parts, all larger than s.
pub record Path (h : Held) (ks : List ℕ) (s : ℕ) : Type 0 where
  larger : AllLarger h ks s
  distinct : IsDistinct eqb ks

further : (h : Held) (ks : List ℕ) (n : ℕ) (p : Part) (s : ℕ) → Path h ks (size p) → Stands h n p → s < size p → Path h (n ∷ ks) s
further h ks n p s w t lt = record {
  larger = (record { part = p; stands = t; larger = lt }, smaller h ks (size p) s (omega (arith, lt)) w.larger);
  distinct = all_others h n ks p t w.larger w.distinct;
}

no_longer : (h : Held) (ks : List ℕ) (s : ℕ) → Path h ks s → length ks ≤ length h.nodes
no_longer h ks s w = length-le_from_distinct_below ks (length h.nodes) w.distinct (all_in_store h ks s w.larger)

-- ---- the calls on the way

-- A chain with more calls outside of it.
abbrev onto : Chain → List Arguments → Chain
onto c [] = c
onto c (xs ∷ xss) = onto (longer c xs) xss

onto_none : (xss : List Arguments) → onto Chain.none xss ≡ Chain.none
unfolding longer
onto_none [] = refl
onto_none (xs ∷ xss) = onto_none xss

onto_string : (f : Expression) (u : Units) (yss xss : List Arguments) → onto (Chain.of_string f u yss) xss ≡ Chain.of_string f u (yss ++ xss)
unfolding longer
onto_string f u yss [] = ap (λ zss. Chain.of_string f u zss) (sym (append-nil yss))
onto_string f u yss (xs ∷ xss) = onto_string f u (yss ++ (xs ∷ [])) xss ∙ ap (λ zss. Chain.of_string f u zss) (append_assoc yss (xs ∷ []) xss)

onto_array : (f : Expression) (yss xss : List Arguments) → onto (Chain.of_array f yss) xss ≡ Chain.of_array f (yss ++ xss)
unfolding longer
onto_array f yss [] = ap (λ zss. Chain.of_array f zss) (sym (append-nil yss))
onto_array f yss (xs ∷ xss) = onto_array f (yss ++ (xs ∷ [])) xss ∙ ap (λ zss. Chain.of_array f zss) (append_assoc yss (xs ∷ []) xss)

-- From the expression at `current`, the i calls outside of it lead to the one that the walk began with.
pub record Onward (h : Held) (i current : ℕ) (runs : List (Run ℕ)) (x : Expression) : Type 0 where
  inner : Expression
  calls : List Arguments
  stands : Stands h current (Part.expression inner)
  calls_stand : CallsStand h runs calls
  whole : chain_of x ≡ onto (chain_of inner) calls
  path : List ℕ
  on_path : Path h path (size (Part.expression inner))
  twice : length path ≡ 2 * i

pub record Walked (h : Held) (node i current : ℕ) (table : List (Run ℕ)) : Type 0 where
  pub full : length table ≡ 2048
  pub onward : (x : Expression) → Stands h node (Part.expression x) → Onward h i current (drop (2048 - i) table) x

past_end : (table : List (Run ℕ)) → length table ≡ 2048 → drop (2048 - 0) table ≡ []
past_end table e = drop_all 2048 table (omega (arith, e))

pub set_out : (h : Held) (node : ℕ) (r : Run ℕ) → Walked h node 0 node (replicate 2048 r)
unfolding IsDistinct
set_out h node r = record {
  full = length-replicate 2048 r;
  onward = λ x s. record {
    inner = x;
    calls = [];
    stands = s;
    calls_stand = subst (λ rs. CallsStand h rs []) (sym (past_end (replicate 2048 r) (length-replicate 2048 r))) tt;
    whole = refl;
    path = [];
    on_path = record { larger = tt; distinct = tt };
    twice = refl;
  };
}

-- What a call's chain is, by its object.
chain_of_named : (l m : ℕ) (o : Expression) (k : Units) (xs : Arguments) → same_name k concat_name ≡ true
    → chain_of (Expression.call l (Expression.static_member m o k) xs) ≡ called_on (Expression.static_member m o k) o xs (chain_of o)
unfolding chain_of
chain_of_named l m o k xs e = rw e refl

chain_of_call : (h : Held) (c : ConcatCall) (x : Expression) (w : IsConcat h c x)
    → chain_of x ≡ called_on (Expression.static_member w.m w.object w.key) w.object w.arguments (chain_of w.object)
chain_of_call h c x w = ap chain_of w.called ∙ chain_of_named w.l w.m w.object w.key w.arguments w.named

on_string : (f o : Expression) (xs : Arguments) (c : Chain) → Some String ≡ root_of o → (u : Units) × (called_on f o xs c ≡ Chain.of_string f u (xs ∷ []))
unfolding called_on root_of
on_string f (Expression.string l u) xs c e = (u, refl)
on_string f (Expression.array l es) xs c e = absurd (cc)
on_string f o xs c e = absurd (cc)

on_array : (f o : Expression) (xs : Arguments) (c : Chain) → Some Array ≡ root_of o → called_on f o xs c ≡ Chain.of_array f (xs ∷ [])
unfolding called_on root_of
on_array f (Expression.string l u) xs c e = absurd (cc)
on_array f (Expression.array l es) xs c e = refl
on_array f o xs c e = absurd (cc)

on_other : (f o : Expression) (xs : Arguments) (c : Chain) → None ≡ root_of o → called_on f o xs c ≡ longer c xs
unfolding called_on root_of
on_other f (Expression.string l u) xs c e = absurd (cc)
on_other f (Expression.array l es) xs c e = absurd (cc)
on_other f o xs c e = refl

rooted : (r : Root) (f o : Expression) (xs : Arguments) (c d : Chain) (xss : List Arguments) → Some r ≡ root_of o → d ≡ onto (called_on f o xs c) xss → Rooted r f (xs ∷ xss) d
rooted String f o xs c d xss e g = let w = on_string f o xs c e in (w.0, g ∙ ap (λ z. onto z xss) w.1 ∙ onto_string f w.0 (xs ∷ []) xss)
rooted Array f o xs c d xss e g = g ∙ ap (λ z. onto z xss) (on_array f o xs c e) ∙ onto_array f (xs ∷ []) xss

module _ (h : Held) (node i current : ℕ) (table : List (Run ℕ)) (walked : Walked h node i current table) where
  -- No chain ends with what is no call of `concat`.
  pub no_more : ConcatAt h current None → Collects h node None
  no_more a few x s =
      let w = walked.onward x s in
      w.whole ∙ ap (λ c. onto c w.calls) (a w.inner w.stands) ∙ onto_none w.calls

  module _ (lt : i < 2048) (call : ConcatCall) (found : ConcatAt h current (Some call)) where
    with_call : (start : ℕ) → start ≡ 2047 - i → drop start (slice_set table start call.arguments) ≡ call.arguments ∷ drop (2048 - i) table
    with_call start e =
        let f = walked.full in
        drop-set table start call.arguments (omega (arith, e, f, lt)) ∙ ap (λ k. call.arguments ∷ drop k table) (let g : start + 1 ≡ 2048 - i = omega (arith, e, lt) in g)

    pub reached : (root : Root) (start : ℕ) → start ≡ 2047 - i → (k : ConcatChain) → k.root ≡ root → k.new_root_callee ≡ call.callee → k.table ≡ slice_set table start call.arguments → k.start ≡ start → RootAt h call.object (Some root) → Collects h node (Some k)
    reached root start e k kr kc kt ks r few x s =
        let w = walked.onward x s in
        let c = found w.inner w.stands in
        record {
          callee = Expression.static_member c.m c.object c.key;
          calls = c.arguments ∷ w.calls;
          rooted = subst (λ z. Rooted z (Expression.static_member c.m c.object c.key) (c.arguments ∷ w.calls) (chain_of x)) (sym kr)
              (rooted root (Expression.static_member c.m c.object c.key) c.object c.arguments (chain_of c.object) (chain_of x) w.calls (r c.object c.object_stands)
              (w.whole ∙ ap (λ z. onto z w.calls) (chain_of_call h call w.inner c)));
          callee_stands = subst (λ z. Stands h z (Part.expression (Expression.static_member c.m c.object c.key))) (sym kc) c.callee_stands;
          calls_stand = subst (λ z. CallsStand h z (c.arguments ∷ w.calls)) (sym (ap₂ (λ m rs. drop m rs) ks kt ∙ with_call start e)) (c.arguments_stand, w.calls_stand);
        }

    inwards : (w : Expression) (c : IsConcat h call w) (ks : List ℕ) → Stands h current (Part.expression w) → Path h ks (size (Part.expression w))
        → Path h (call.callee ∷ current ∷ ks) (size (Part.expression c.object))
    inwards w c ks s p =
        let callee = Expression.static_member c.m c.object c.key in
        let whole : size (Part.expression w) ≡ size (Part.expression (Expression.call c.l callee c.arguments)) = ap (λ z. size (Part.expression z)) c.called in
        further h (current ∷ ks) call.callee (Part.expression callee) (size (Part.expression c.object))
        (further h ks current (Part.expression w) (size (Part.expression callee)) p s (omega (arith, whole)))
        c.callee_stands (omega arith)

    pub step : (start : ℕ) → start ≡ 2047 - i → (new : List (Run ℕ)) → new ≡ slice_set table start call.arguments → (next : ℕ) → next ≡ call.object → RootAt h call.object None → Walked h node (i + 1) next new
    step start e new n next o r = subst (λ z. Walked h node (i + 1) z new) (sym o) (subst (λ z. Walked h node (i + 1) call.object z) (sym n) (record {
      full = length-set table start call.arguments ∙ walked.full;
      onward = λ x s.
          let w = walked.onward x s in
          let c = found w.inner w.stands in
          let t = w.twice in
          record {
            inner = c.object;
            calls = c.arguments ∷ w.calls;
            stands = c.object_stands;
            calls_stand = subst (λ z. CallsStand h z (c.arguments ∷ w.calls)) (sym (ap (λ k. drop k (slice_set table start call.arguments)) (let g : 2048 - (i + 1) ≡ start = omega (arith, e, lt) in g) ∙ with_call start e)) (c.arguments_stand, w.calls_stand);
            whole = w.whole ∙ ap (λ z. onto z w.calls) (chain_of_call h call w.inner c ∙ on_other (Expression.static_member c.m c.object c.key) c.object c.arguments (chain_of c.object) (r c.object c.object_stands));
            path = call.callee ∷ current ∷ w.path;
            on_path = inwards w.inner c w.path w.stands w.on_path;
            twice = omega (arith, t);
          };
    }))

-- A chain that has no room has more numbers than there are nodes.
pub no_room : (h : Held) (node i current : ℕ) (table : List (Run ℕ)) → Walked h node i current table → 2048 ≤ i → Collects h node None
no_room h node i current table walked le few x s =
    let w = walked.onward x s in
    let p = no_longer h (current ∷ w.path) 0 (further h w.path current (Part.expression w.inner) 0 w.on_path w.stands (some_nodes (Part.expression w.inner))) in
    let t = w.twice in
    absurd (omega (arith, p, t, few, le))
  where
    some_nodes : (p : Part) → 0 < size p
    some_nodes p = by (part_tree p)
      where
        by : (t : Tree) → 0 < weigh (λ m. 1) t
        by (tree l o ts) = omega arith
