-- What the rule chain decides, by what the code finds out.
use Rattle.std.proofs.Common.{◌≡◌, ℕ, suc, ◌+◌, ◌-◌, ◌*◌, ◌≤◌, Bool, true, false, cond, ◌&&◌, List, [], ◌∷◌, length, Some, None, Option, nat_le, refl, sym, subst, ap, ap₂, ◌∙◌, inl, inr, arith}
use Rattle.std.specs.Bool.{then_some}
use Rattle.tree.specs.declared.run.Run.{Run}
use Rattle.tree.specs.Heap.{Held}
use Rattle.meaning.specs.Expression.{Expression, Arguments, Units}
use Rattle.meaning.specs.Parts.{Part}
use Rattle.host.specs.Answers.{Answers}
use Rattle.rules.specs.Deciding.{Deciding, decided, when, outermost}
use Rattle.rules.specs.Places.{Settings}
use Rattle.rules.specs.Building.{joined, flat}
use Rattle.rules.specs.Interleaves.{string_count}
use Rattle.rules.specs.Interleaving.{no_spread, interleaving, short}
use Rattle.rules.specs.Chain.{Chain, chain_of, each_interleaving, string_chain, array_chain, calls_apart, chained, chain_rule}
use Rattle.deciding.specs.declared.place.Place.{Place}
use Rattle.deciding.specs.declared.place.Place.TheVariants.{Ordinary, ConcatObject, Referred}
use Rattle.deciding.specs.declared.plan.Decision.{Decision}
use Rattle.deciding.specs.declared.plan.Decision.TheVariants.{Kept, Rewritten}
use Rattle.deciding.specs.declared.plan.Plan.TheVariants.{OneCall as OneCallPlan, Joined as JoinedPlan}
use Rattle.deciding.specs.declared.plan.Calls.TheVariants.{Chain as ChainOf}
use Rattle.deciding.specs.declared.concat_chain.Root.{Root}
use Rattle.deciding.specs.declared.concat_chain.Root.TheVariants.{String, Array}
use Rattle.deciding.specs.declared.concat_chain.ConcatChain.{ConcatChain}
use Rattle.deciding.specs.declared.chain_arguments.ArgumentCounts.{ArgumentCounts}
use Rattle.deciding.specs.declared.chain_joining.Joined.{Joined}
use Rattle.deciding.specs.declared.chain_joining.Joined.TheVariants.{Template, OneCall}
use Rattle.deciding.specs.Standing.{Stands}
use Rattle.deciding.specs.Plans.{DecisionOf, DecidesOf, role_of}
use Rattle.deciding.specs.ConcatCalls.{CallsStand, Rooted, Collects, calls_of}
use Rattle.deciding.specs.ChainArguments.{CountsOf, EachInterleavesOf, AllInterleaveOf, ApartOf}
use Rattle.deciding.specs.Joining.{prefers, joined_to, JoinsString}
use Rattle.deciding.proofs.Counts.{strings}

-- ---- the calls of a string

string_front : (s : Settings) (next : ℕ) (f : Expression) (u : Units) (xss : List Arguments) (b : Bool) → no_spread (flat xss) ≡ b
    → string_chain s next f u xss ≡ when b
    (cond (s.templates && short 1 (flat xss)) (each_interleaving xss (Deciding.becomes (joined next u (flat xss))))
    (interleaving (flat xss) (Deciding.becomes (Expression.call next f (flat xss)))
    (when (s.templates && short (length xss) (flat xss)) (each_interleaving xss (Deciding.becomes (joined next u (flat xss)))))))
unfolding string_chain
string_front s next f u xss b e = rw e refl

pub spread_kept : (a : Answers) (h : Held) (s : Settings) (runs : List (Run ℕ)) → CountsOf h runs None → JoinsString a h s runs None
unfolding decided when
spread_kept a h s runs c next f u xss t = ap (decided a) (string_front s next f u xss false (c xss t))

same_length : (h : Held) (runs : List (Run ℕ)) (xss : List Arguments) → CallsStand h runs xss → length runs ≡ length xss
same_length h [] [] s = refl
same_length h [] (xs ∷ xss) s = absurd s
same_length h (r ∷ rs) [] s = absurd s
same_length h (r ∷ rs) (xs ∷ xss) s = ap suc (same_length h rs xss s.1)

becomes_if : (a : Answers) (b : Bool) (y : Expression) → decided a (cond b (Deciding.becomes y) Deciding.keep) ≡ cond b (Some y) None
unfolding decided
becomes_if a true y = refl
becomes_if a false y = refl

joined_if : (next : ℕ) (f : Expression) (u : Units) (xss : List Arguments) (b : Bool) → joined_to next f u xss (cond b (Some Template) None) ≡ cond b (Some (joined next u (flat xss))) None
joined_if next f u xss true = refl
joined_if next f u xss false = refl

some_if : (r : Option Joined) (b : Bool) → r ≡ then_some b Template → cond b (Some Template) None ≡ r
some_if r true e = sym e
some_if r false e = sym e

module _ (a : Answers) (h : Held) (s : Settings) (runs : List (Run ℕ)) (counts : ArgumentCounts) (counted : CountsOf h runs (Some counts)) where
  is_short : (calls : ℕ) (xss : List Arguments) → CallsStand h runs xss → prefers s counts calls ≡ (s.templates && short calls (flat xss))
  unfolding short
  is_short calls xss t =
      let c = counted xss t in
      let n = strings (flat xss) in
      let strings_are : counts.arguments - counts.expressions ≡ string_count (flat xss) = omega (arith, c.1, c.2, n) in
      ap₂ (λ x y. s.templates && nat_le (3 * x) y) (sym c.2) (ap₂ (λ x y. 9 * calls + x + 2 * y) (sym c.1) strings_are)

  abbrev Front : (next : ℕ) (f : Expression) (u : Units) (xss : List Arguments) → Bool → Bool → Deciding
  Front next f u xss b c =
      cond b (each_interleaving xss (Deciding.becomes (joined next u (flat xss))))
      (interleaving (flat xss) (Deciding.becomes (Expression.call next f (flat xss))) (when c (each_interleaving xss (Deciding.becomes (joined next u (flat xss))))))

  fronted : (next : ℕ) (f : Expression) (u : Units) (xss : List Arguments) → CallsStand h runs xss → decided a (string_chain s next f u xss) ≡ decided a (Front next f u xss (prefers s counts 1) (prefers s counts (length runs)))
  unfolding when
  fronted next f u xss t =
      ap (decided a) (string_front s next f u xss true (counted xss t).0)
      ∙ ap₂ (λ b c. decided a (Front next f u xss b c)) (sym (is_short 1 xss t)) (ap (λ n. s.templates && short n (flat xss)) (sym (same_length h runs xss t)) ∙ sym (is_short (length runs) xss t))

  each_joins : (next : ℕ) (f : Expression) (u : Units) (xss : List Arguments) → CallsStand h runs xss → (b : Bool) → EachInterleavesOf a h runs b
      → decided a (each_interleaving xss (Deciding.becomes (joined next u (flat xss)))) ≡ joined_to next f u xss (cond b (Some Template) None)
  each_joins next f u xss t b e = e xss t (counted xss t).0 (Deciding.becomes (joined next u (flat xss))) ∙ becomes_if a b (joined next u (flat xss)) ∙ sym (joined_if next f u xss b)

  pub template_first : (p b : Bool) (r : Option Joined) → p ≡ prefers s counts 1 → p ≡ true → EachInterleavesOf a h runs b → r ≡ then_some b Template → JoinsString a h s runs r
  template_first p b r q i e j next f u xss t =
      fronted next f u xss t ∙ ap (λ z. decided a (Front next f u xss z (prefers s counts (length runs)))) (sym q ∙ i) ∙ each_joins next f u xss t b e ∙ ap (joined_to next f u xss) (some_if r b j)

  module _ (p : Bool) (is : p ≡ prefers s counts 1) (no : p ≡ false) (all : Bool) (together : AllInterleaveOf a h runs all) where
    behind : (next : ℕ) (f : Expression) (u : Units) (xss : List Arguments) → CallsStand h runs xss
        → decided a (string_chain s next f u xss) ≡ decided a (cond all (Deciding.becomes (Expression.call next f (flat xss))) (when (prefers s counts (length runs)) (each_interleaving xss (Deciding.becomes (joined next u (flat xss))))))
    behind next f u xss t =
        fronted next f u xss t ∙ ap (λ z. decided a (Front next f u xss z (prefers s counts (length runs)))) (sym is ∙ no)
        ∙ together xss t (counted xss t).0 (Deciding.becomes (Expression.call next f (flat xss))) (when (prefers s counts (length runs)) (each_interleaving xss (Deciding.becomes (joined next u (flat xss)))))

    pub one_call : all ≡ true → JoinsString a h s runs (Some OneCall)
    unfolding decided
    one_call e next f u xss t =
        behind next f u xss t
        ∙ ap (λ z. decided a (cond z (Deciding.becomes (Expression.call next f (flat xss))) (when (prefers s counts (length runs)) (each_interleaving xss (Deciding.becomes (joined next u (flat xss))))))) e

    last : (q : Bool) → q ≡ prefers s counts (length runs) → all ≡ false → (next : ℕ) (f : Expression) (u : Units) (xss : List Arguments) → CallsStand h runs xss
        → decided a (string_chain s next f u xss) ≡ decided a (when q (each_interleaving xss (Deciding.becomes (joined next u (flat xss)))))
    last q i e next f u xss t =
        behind next f u xss t
        ∙ ap (λ z. decided a (cond z (Deciding.becomes (Expression.call next f (flat xss))) (when (prefers s counts (length runs)) (each_interleaving xss (Deciding.becomes (joined next u (flat xss))))))) e
        ∙ ap (λ z. decided a (when z (each_interleaving xss (Deciding.becomes (joined next u (flat xss)))))) (sym i)

    pub template_last : (q b : Bool) (r : Option Joined) → q ≡ prefers s counts (length runs) → all ≡ false → q ≡ true → EachInterleavesOf a h runs b → r ≡ then_some b Template → JoinsString a h s runs r
    unfolding when
    template_last q b r i e j each k next f u xss t =
        last q i e next f u xss t ∙ ap (λ z. decided a (when z (each_interleaving xss (Deciding.becomes (joined next u (flat xss)))))) j ∙ each_joins next f u xss t b each
        ∙ ap (joined_to next f u xss) (some_if r b k)

    pub not_joined : (q : Bool) → q ≡ prefers s counts (length runs) → all ≡ false → q ≡ false → JoinsString a h s runs None
    unfolding when decided
    not_joined q i e j next f u xss t =
        last q i e next f u xss t ∙ ap (λ z. decided a (when z (each_interleaving xss (Deciding.becomes (joined next u (flat xss)))))) j

-- ---- the rule

inner_kept : (s : Settings) (next : ℕ) (x : Expression) → chain_rule s next (role_of ConcatObject) x ≡ Deciding.keep
unfolding chain_rule when outermost
inner_kept s next x = refl

outer_chained : (s : Settings) (next : ℕ) (place : Place) → (place ≡ ConcatObject → ⊥) → (x : Expression) → chain_rule s next (role_of place) x ≡ chained s next (chain_of x)
unfolding chain_rule when outermost
outer_chained s next Ordinary n x = refl
outer_chained s next ConcatObject n x = absurd (n refl)
outer_chained s next Referred n x = refl

none_kept : (s : Settings) (next : ℕ) → chained s next Chain.none ≡ Deciding.keep
unfolding chained
none_kept s next = refl

short_kept : (s : Settings) (next : ℕ) (r : Root) (f : Expression) (xss : List Arguments) (c : Chain) → Rooted r f xss c → length xss ≤ 1 → chained s next c ≡ Deciding.keep
unfolding chained
short_kept s next String f [] c e le = ap (chained s next) e.1
short_kept s next String f (xs ∷ []) c e le = ap (chained s next) e.1
short_kept s next String f (xs ∷ (ys ∷ yss)) c e le = absurd (omega arith)
short_kept s next Array f [] c e le = ap (chained s next) e
short_kept s next Array f (xs ∷ []) c e le = ap (chained s next) e
short_kept s next Array f (xs ∷ (ys ∷ yss)) c e le = absurd (omega arith)

string_chained : (s : Settings) (next : ℕ) (f : Expression) (u : Units) (xss : List Arguments) → 2 ≤ length xss → chained s next (Chain.of_string f u xss) ≡ string_chain s next f u xss
unfolding chained
string_chained s next f u [] le = absurd (omega arith)
string_chained s next f u (xs ∷ []) le = absurd (omega arith)
string_chained s next f u (xs ∷ (ys ∷ yss)) le = refl

array_chained : (s : Settings) (next : ℕ) (f : Expression) (xss : List Arguments) → 2 ≤ length xss → chained s next (Chain.of_array f xss) ≡ calls_apart xss (Deciding.becomes (Expression.call next f (flat xss)))
unfolding chained array_chain
array_chained s next f [] le = absurd (omega arith)
array_chained s next f (xs ∷ []) le = absurd (omega arith)
array_chained s next f (xs ∷ (ys ∷ yss)) le = refl

module _ (h : Held) (a : Answers) (s : Settings) (next node : ℕ) (place : Place) where
  abbrev Rule : Expression → Option Expression
  Rule x = decided a (chain_rule s next (role_of place) x)

  pub inner_call : place ≡ ConcatObject → DecidesOf h node Rule Kept
  unfolding decided
  inner_call e x t = subst (λ o. DecisionOf h o Kept) (sym (ap (λ z. decided a (chain_rule s next (role_of z) x)) e ∙ ap (decided a) (inner_kept s next x))) tt

module _ (h : Held) (a : Answers) (s : Settings) (node : ℕ) (place : Place) (outer : place ≡ ConcatObject → ⊥) (few : length h.nodes ≤ 4096) where
  abbrev Decides : Decision → Type 0
  Decides d = DecidesOf h node (λ x. decided a (chain_rule s (length h.nodes) (role_of place) x)) d

  kept : (x : Expression) (c : Chain) → chain_of x ≡ c → decided a (chained s (length h.nodes) c) ≡ None → DecisionOf h (decided a (chain_rule s (length h.nodes) (role_of place) x)) Kept
  kept x c e f =
      subst (λ o. DecisionOf h o Kept) (sym (ap (decided a) (outer_chained s (length h.nodes) place outer x ∙ ap (chained s (length h.nodes)) e) ∙ f)) tt

  pub no_chain : Collects h node None → Decides Kept
  unfolding decided
  no_chain c x t = kept x Chain.none (c few x t) (ap (decided a) (none_kept s (length h.nodes)))

  module _ (k : ConcatChain) (collected : Collects h node (Some k)) (runs : List (Run ℕ)) (calls : runs ≡ calls_of k) where
    stand : (x : Expression) (t : Stands h node (Part.expression x)) → CallsStand h runs (collected few x t).calls
    stand x t = subst (λ z. CallsStand h z (collected few x t).calls) (sym calls) (collected few x t).calls_stand

    long : (x : Expression) (t : Stands h node (Part.expression x)) → length runs ≡ length (collected few x t).calls
    long x t = same_length h runs (collected few x t).calls (stand x t)

    pub one_kept : length runs ≤ 1 → Decides Kept
    unfolding decided
    one_kept le x t =
        let c = collected few x t in
        let l = long x t in
        kept x (chain_of x) refl (ap (decided a) (short_kept s (length h.nodes) k.root c.callee c.calls (chain_of x) c.rooted (omega (arith, l, le))))

    module _ (more : 2 ≤ length runs) (is_string : k.root ≡ String) (result : Option Joined) (joins : JoinsString a h s runs result) where
      on_string : (x : Expression) (t : Stands h node (Part.expression x)) → (u : Units) × (chain_of x ≡ Chain.of_string (collected few x t).callee u (collected few x t).calls)
      on_string x t = let c = collected few x t in subst (λ z. Rooted z c.callee c.calls (chain_of x)) is_string c.rooted

      rule_is : (x : Expression) (t : Stands h node (Part.expression x)) → decided a (chain_rule s (length h.nodes) (role_of place) x) ≡ joined_to (length h.nodes) (collected few x t).callee (on_string x t).0 (collected few x t).calls result
      rule_is x t =
          let c = collected few x t in
          let l = long x t in
          ap (decided a) (outer_chained s (length h.nodes) place outer x ∙ ap (chained s (length h.nodes)) (on_string x t).1 ∙ string_chained s (length h.nodes) c.callee (on_string x t).0 c.calls (omega (arith, l, more)))
          ∙ joins (length h.nodes) c.callee (on_string x t).0 c.calls (stand x t)

      pub string_kept : result ≡ None → Decides Kept
      string_kept e x t =
          let c = collected few x t in
          subst (λ o. DecisionOf h o Kept) (sym (rule_is x t ∙ ap (joined_to (length h.nodes) c.callee (on_string x t).0 c.calls) e)) tt

      pub string_template : result ≡ Some Template → Decides (Rewritten (JoinedPlan (ChainOf node)))
      string_template e x t =
          let c = collected few x t in
          subst (λ o. DecisionOf h o (Rewritten (JoinedPlan (ChainOf node)))) (sym (rule_is x t ∙ ap (joined_to (length h.nodes) c.callee (on_string x t).0 c.calls) e))
          (x, c.callee, (on_string x t).0, c.calls, refl, t, (on_string x t).1)

      pub string_call : result ≡ Some OneCall → Decides (Rewritten (OneCallPlan k.new_root_callee node))
      string_call e x t =
          let c = collected few x t in
          subst (λ o. DecisionOf h o (Rewritten (OneCallPlan k.new_root_callee node))) (sym (rule_is x t ∙ ap (joined_to (length h.nodes) c.callee (on_string x t).0 c.calls) e))
          (c.callee, x, c.calls, refl, c.callee_stands, t, inl ((on_string x t).0, (on_string x t).1))

    module _ (more : 2 ≤ length runs) (is_array : k.root ≡ Array) (b : Bool) (apart : ApartOf a h runs b) where
      on_array : (x : Expression) (t : Stands h node (Part.expression x)) → chain_of x ≡ Chain.of_array (collected few x t).callee (collected few x t).calls
      on_array x t = let c = collected few x t in subst (λ z. Rooted z c.callee c.calls (chain_of x)) is_array c.rooted

      array_is : (x : Expression) (t : Stands h node (Part.expression x))
          → decided a (chain_rule s (length h.nodes) (role_of place) x) ≡ cond b (Some (Expression.call (length h.nodes) (collected few x t).callee (flat (collected few x t).calls))) None
      array_is x t =
          let c = collected few x t in
          let l = long x t in
          ap (decided a) (outer_chained s (length h.nodes) place outer x ∙ ap (chained s (length h.nodes)) (on_array x t) ∙ array_chained s (length h.nodes) c.callee c.calls (omega (arith, l, more)))
          ∙ apart c.calls (stand x t) (Deciding.becomes (Expression.call (length h.nodes) c.callee (flat c.calls))) ∙ becomes_if a b (Expression.call (length h.nodes) c.callee (flat c.calls))

      pub array_kept : b ≡ false → Decides Kept
      array_kept e x t =
          let c = collected few x t in
          subst (λ o. DecisionOf h o Kept) (sym (array_is x t ∙ ap (λ z. cond z (Some (Expression.call (length h.nodes) c.callee (flat c.calls))) None) e)) tt

      pub array_call : b ≡ true → Decides (Rewritten (OneCallPlan k.new_root_callee node))
      array_call e x t =
          let c = collected few x t in
          subst (λ o. DecisionOf h o (Rewritten (OneCallPlan k.new_root_callee node))) (sym (array_is x t ∙ ap (λ z. cond z (Some (Expression.call (length h.nodes) c.callee (flat c.calls))) None) e))
          (c.callee, x, c.calls, refl, c.callee_stands, t, inr (on_array x t))
