-- The rule chain decides what its relation says, and nothing else.
use Rattle.std.proofs.Common.{◌≡◌, ℕ, ◌≤◌, Bool, true, false, cond, ◌&&◌, List, [], ◌∷◌, length, Some, Option, ◌⊎◌, inl, inr, refl, sym, ap, ◌∙◌, arith}
use Rattle.std.specs.Cmp.{first_so, second_so}
use Rattle.std.specs.Cmp.Derive.{both_true}
use Rattle.std.proofs.lemmas.Bool.{cond-true}
use Rattle.host.specs.Answers.{Answers}
use Rattle.meaning.specs.Expression.{Expression, Elements, Arguments, Units}
use Rattle.meaning.specs.Methods.{concat_name}
use Rattle.rules.specs.Deciding.{Deciding, decided, when, same_name}
use Rattle.rules.specs.Places.{Role, Settings, IsOutermost}
use Rattle.rules.specs.Interleaves.{settled, Interleaves, Short}
use Rattle.rules.specs.Facts.{said}
use Rattle.rules.specs.Building.{append_arguments, joined, flat}
use Rattle.rules.specs.Interleaving.{no_spread, interleaving, short}
use Rattle.rules.specs.Chain.{Chain, longer, called_on, chain_of, each_interleaving, string_chain, array_chain, chained, chain_rule}
use Rattle.rules.specs.ChainBecomes.{Calls, EachInterleaves, CallCount, ChainBecomes}
use Rattle.rules.specs.Laws.{ChainRewritesExactlyWhen}
use Rattle.rules.proofs.Leading.{said_to, when_decided, cond_decided}
use Rattle.rules.proofs.Interleaved.{AllQuiet, short_says}
use Rattle.rules.proofs.Together.{AnyEffects, Clashes}
use Rattle.rules.proofs.Walking.{StringLed}
use Rattle.rules.proofs.Chaining.{ChainLed, chain_leads}
use Rattle.rules.proofs.ConditionsExactly.{outermost_exactly, short_exactly, no_spread_exactly, interleaving_decided, same_exactly}
use Rattle.rules.proofs.WalkExactly.{each_decided, quiet_all, interleaving_found}
use Rattle.rules.proofs.ReadExactly.{apart_decided}

module _ (a : Answers) where
  effects_no_quiet : {X : Type 0} (xs : Arguments) → AnyEffects (said a) xs → AllQuiet (said a) xs → X
  effects_no_quiet Arguments.no_arguments h q = elim h [ ]
  effects_no_quiet (Arguments.argument x xs) (AnyEffects.here e) q = let z : ◌≡◌ {A = Bool} true false = sym e ∙ q.0 in let y : ◌≡◌ {A = ℕ} 0 1 = cc in absurd (omega arith)
  effects_no_quiet (Arguments.argument x xs) (AnyEffects.past h) q = effects_no_quiet xs h q.1
  effects_no_quiet (Arguments.spread_argument l x xs) h q = absurd q

  clash_apart : {X : Type 0} (xs : Arguments) → Clashes (said a) xs → Interleaves (said a) xs → X
  clash_apart Arguments.no_arguments h i = elim h [ ]
  clash_apart (Arguments.argument x xs) (Clashes.here u e) i = effects_no_quiet xs e (quiet_all a x xs (ap settled u.1 ∙ u.2) i.0)
  clash_apart (Arguments.argument x xs) (Clashes.past h) i = clash_apart xs h i.1
  clash_apart (Arguments.spread_argument l x xs) h i = absurd i

  no_spread_append : (xs ys : Arguments) → no_spread xs ≡ true → no_spread ys ≡ true → no_spread (append_arguments xs ys) ≡ true
  unfolding no_spread append_arguments
  no_spread_append Arguments.no_arguments ys e h = h
  no_spread_append (Arguments.argument x xs) ys e h = no_spread_append xs ys e h
  no_spread_append (Arguments.spread_argument l x xs) ys e h = let z : ◌≡◌ {A = ℕ} 0 1 = cc in absurd (omega arith)

  no_spread_flat : (xss : List Arguments) → EachInterleaves (said a) xss → no_spread (flat xss) ≡ true
  unfolding flat no_spread
  no_spread_flat [] e = refl
  no_spread_flat (xs ∷ xss) e = no_spread_append xs (flat xss) (no_spread_exactly a xs e.0) (no_spread_flat xss e.1)

  -- ---- what is decided is of the relation

  module _ (s : Settings) (next : ℕ) (r : Role) (m j : ℕ) (u : Units) (x : Expression) (xss : List Arguments) (d : Calls (Expression.string j u) m x xss) (two : 2 ≤ length xss) (o : IsOutermost r) where
    more_calls : (c : ℕ) → 1 ≤ c → Short 1 (flat xss) → Short c (flat xss)
    more_calls c l h = omega arith

    template_of_led : s.templates ≡ true → EachInterleaves (said a) xss → Short 1 (flat xss) ⊎ (Short (length xss) (flat xss) × Clashes (said a) (flat xss))
        → Interleaves (said a) (flat xss) ⊎ Clashes (said a) (flat xss) → ChainBecomes (said a) s next r x (joined next u (flat xss))
    template_of_led t e (inl h) (inl i) = ChainBecomes.to_template d two o t e (CallCount.together i) h
    template_of_led t e (inl h) (inr c) = ChainBecomes.to_template d two o t e (CallCount.apart (clash_apart (flat xss) c)) (more_calls (length xss) (omega arith) h)
    template_of_led t e (inr h) k = ChainBecomes.to_template d two o t e (CallCount.apart (clash_apart (flat xss) h.1)) h.0

    one_of : no_spread (flat xss) ≡ true → Interleaves (said a) (flat xss) ⊎ Clashes (said a) (flat xss)
    one_of e = by (interleaving_found a (flat xss) Deciding.keep Deciding.keep e)
      where
        by : (Interleaves (said a) (flat xss) × (decided a (interleaving (flat xss) Deciding.keep Deciding.keep) ≡ decided a Deciding.keep))
            ⊎ (Clashes (said a) (flat xss) × (decided a (interleaving (flat xss) Deciding.keep Deciding.keep) ≡ decided a Deciding.keep)) → Interleaves (said a) (flat xss) ⊎ Clashes (said a) (flat xss)
        by (inl k) = inl k.0
        by (inr k) = inr k.0

    too_long : (s.templates && short 1 (flat xss)) ≡ false → s.templates ≡ true → Short 1 (flat xss) → ⊥
    too_long n t h = let z : ◌≡◌ {A = Bool} true false = sym (both_true t (short_exactly 1 (flat xss) h)) ∙ n in let y : ◌≡◌ {A = ℕ} 0 1 = cc in omega arith

    string_becomes : {y : Expression} → StringLed (said a) s next (Expression.static_member m (Expression.string j u) concat_name) u xss y → ChainBecomes (said a) s next r x y
    string_becomes (StringLed.template t e h) = template_of_led t e h (one_of (no_spread_flat xss e))
    string_becomes (StringLed.call i n) = ChainBecomes.to_one_call d two o i (too_long n)

  led_becomes : (s : Settings) (next : ℕ) (r : Role) {x y : Expression} → ChainLed (said a) s next r x y → ChainBecomes (said a) s next r x y
  led_becomes s next r {x} (ChainLed.of_string {m = m} {j = j} {u = u} {xss = xss} d two o h) = string_becomes s next r m j u x xss d two o h
  led_becomes s next r (ChainLed.of_array d two o i) = ChainBecomes.to_array_call d two o i

  -- ---- and the other way round

  module _ (s : Settings) (next : ℕ) (g : Expression) (u : Units) (xss : List Arguments) where
    no_both : {X : Type 0} (c : ℕ) → s.templates ≡ true → Short c (flat xss) → (s.templates && short c (flat xss)) ≡ false → X
    no_both c t h f = let z : ◌≡◌ {A = Bool} true false = sym (both_true t (short_exactly c (flat xss) h)) ∙ f in let y : ◌≡◌ {A = ℕ} 0 1 = cc in absurd (omega arith)

    -- where one call is too short for a template, the arguments do not interleave together
    no_together : {X : Type 0} (c : ℕ) → s.templates ≡ true → CallCount (said a) xss c → Short c (flat xss) → (s.templates && short 1 (flat xss)) ≡ false → Interleaves (said a) (flat xss) → X
    no_together c t (CallCount.together k) h f i = no_both 1 t h f
    no_together c t (CallCount.apart k) h f i = absurd (k i)

    -- and then it is short against all calls
    all_short : (c : ℕ) → s.templates ≡ true → CallCount (said a) xss c → Short c (flat xss) → (s.templates && short 1 (flat xss)) ≡ false → (s.templates && short (length xss) (flat xss)) ≡ true
    all_short c t (CallCount.together k) h f = no_both 1 t h f
    all_short c t (CallCount.apart k) h f = both_true t (short_exactly (length xss) (flat xss) h)

    template_decided : (c : ℕ) → s.templates ≡ true → EachInterleaves (said a) xss → CallCount (said a) xss c → Short c (flat xss) → decided a (string_chain s next g u xss) ≡ Some (joined next u (flat xss))
    unfolding string_chain decided
    template_decided c t e n h =
        when_decided a _ _ (no_spread_flat xss e)
        ∙ cond_decided a (s.templates && short 1 (flat xss)) _ _ _ (λ _. each_decided a xss _ e)
        (λ f. on f (interleaving_found a (flat xss) _ _ (no_spread_flat xss e)))
      where
        on : (s.templates && short 1 (flat xss)) ≡ false → {w z : Option Expression}
            → (Interleaves (said a) (flat xss) × (w ≡ z)) ⊎ (Clashes (said a) (flat xss) × (w ≡ decided a (when (s.templates && short (length xss) (flat xss)) (each_interleaving xss (Deciding.becomes (joined next u (flat xss)))))))
            → w ≡ Some (joined next u (flat xss))
        on f (inl k) = no_together c t n h f k.0
        on f (inr k) = k.1 ∙ when_decided a _ _ (all_short c t n h f) ∙ each_decided a xss _ e

    call_decided : Interleaves (said a) (flat xss) → (s.templates ≡ true → Short 1 (flat xss) → ⊥) → decided a (string_chain s next g u xss) ≡ Some (Expression.call next g (flat xss))
    unfolding string_chain decided
    call_decided i n =
        when_decided a _ _ (no_spread_exactly a (flat xss) i)
        ∙ cond_decided a (s.templates && short 1 (flat xss)) _ _ _
        (λ f. absurd (n (first_so s.templates (short 1 (flat xss)) f) (short_says 1 (flat xss) (second_so s.templates (short 1 (flat xss)) f))))
        (λ _. interleaving_decided a (flat xss) _ _ i)

  -- a chain has at least two calls
  two_of_string : (s : Settings) (next : ℕ) (g : Expression) (u : Units) (xss : List Arguments) → 2 ≤ length xss → decided a (chained s next (Chain.of_string g u xss)) ≡ decided a (string_chain s next g u xss)
  unfolding chained
  two_of_string s next g u [] l = absurd (omega arith)
  two_of_string s next g u (xs ∷ []) l = absurd (omega arith)
  two_of_string s next g u (xs ∷ (ys ∷ yss)) l = refl

  two_of_array : (s : Settings) (next : ℕ) (g : Expression) (xss : List Arguments) → 2 ≤ length xss → decided a (chained s next (Chain.of_array g xss)) ≡ decided a (array_chain next g xss)
  unfolding chained
  two_of_array s next g [] l = absurd (omega arith)
  two_of_array s next g (xs ∷ []) l = absurd (omega arith)
  two_of_array s next g (xs ∷ (ys ∷ yss)) l = refl

-- the calls of a chain are found
outer_on : (f : Expression) (xs : Arguments) (c : Chain) {b : Expression} {m : ℕ} {x : Expression} {xss : List Arguments} → Calls b m x xss → called_on f x xs c ≡ longer c xs
unfolding called_on
outer_on f xs c Calls.innermost = refl
outer_on f xs c (Calls.outer d) = refl

named_concat : (c : Chain) → cond (same_name concat_name concat_name) c Chain.none ≡ c
named_concat c = cond-true (same_name concat_name concat_name) c Chain.none (same_exactly concat_name)

string_calls : {m j : ℕ} {u : Units} {x : Expression} {xss : List Arguments} → Calls (Expression.string j u) m x xss → chain_of x ≡ Chain.of_string (Expression.static_member m (Expression.string j u) concat_name) u xss
unfolding chain_of called_on longer
string_calls Calls.innermost = named_concat _
string_calls (Calls.outer {xs = xs} d) = named_concat _ ∙ outer_on _ xs _ d ∙ ap (λ c. longer c xs) (string_calls d)

array_calls : {m j : ℕ} {es : Elements} {x : Expression} {xss : List Arguments} → Calls (Expression.array j es) m x xss → chain_of x ≡ Chain.of_array (Expression.static_member m (Expression.array j es) concat_name) xss
unfolding chain_of called_on longer
array_calls Calls.innermost = named_concat _
array_calls (Calls.outer {xs = xs} d) = named_concat _ ∙ outer_on _ xs _ d ∙ ap (λ c. longer c xs) (array_calls d)

module _ (a : Answers) (s : Settings) (next : ℕ) (r : Role) where
  by_chain : (x : Expression) (c : Chain) → IsOutermost r → chain_of x ≡ c → decided a (chain_rule s next r x) ≡ decided a (chained s next c)
  unfolding chain_rule
  by_chain x c o e = when_decided a _ _ (outermost_exactly r o) ∙ ap (λ c. decided a (chained s next c)) e

  rule_exactly : {x y : Expression} → ChainBecomes (said a) s next r x y → decided a (chain_rule s next r x) ≡ Some y
  unfolding array_chain decided
  rule_exactly (ChainBecomes.to_template {m = m} {j = j} {c = c} {u = u} {x = x} {xss = xss} d two o t e n h) =
      by_chain x _ o (string_calls d) ∙ two_of_string a s next (Expression.static_member m (Expression.string j u) concat_name) u xss two
      ∙ template_decided a s next (Expression.static_member m (Expression.string j u) concat_name) u xss c t e n h
  rule_exactly (ChainBecomes.to_one_call {m = m} {j = j} {u = u} {x = x} {xss = xss} d two o i n) =
      by_chain x _ o (string_calls d) ∙ two_of_string a s next (Expression.static_member m (Expression.string j u) concat_name) u xss two
      ∙ call_decided a s next (Expression.static_member m (Expression.string j u) concat_name) u xss i n
  rule_exactly (ChainBecomes.to_array_call {m = m} {j = j} {es = es} {x = x} {xss = xss} d two o i) =
      by_chain x _ o (array_calls d) ∙ two_of_array a s next (Expression.static_member m (Expression.array j es) concat_name) xss two
      ∙ apart_decided a xss (Deciding.becomes (Expression.call next (Expression.static_member m (Expression.array j es) concat_name) (flat xss))) i

pub chain_exactly : ChainRewritesExactlyWhen
chain_exactly a s next r x y =
    (λ e. led_becomes a s next r (said_to (ChainLed (said a) s next r x) a (chain_rule s next r x) (chain_leads (said a) s next r x) y e), λ d. rule_exactly a s next r d)
