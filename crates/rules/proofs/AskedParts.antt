-- Each rule asks only of parts of its expression.
use Rattle.std.proofs.Common.{ℕ, zero, suc, Bool, true, false, cond, List, [], ◌∷◌, ◌++◌, Some, None, Option}
use Rattle.host.specs.declared.value_type.ValueType.{ValueType}
use Rattle.meaning.specs.Expression.{Expression, Elements, Arguments, Units}
use Rattle.meaning.specs.Parts.{Part}
use Rattle.rules.specs.Places.{Role, Settings}
use Rattle.rules.specs.Deciding.{Deciding, when, unless_effects}
use Rattle.rules.specs.Building.{append_arguments, flat}
use Rattle.rules.specs.ChainBecomes.{Calls}
use Rattle.rules.specs.Interleaving.{no_spread, none_left, all_quiet, interleaving}
use Rattle.rules.specs.Property.{without_effects, at_index, at_whole, at_key, property_read, property_rule}
use Rattle.rules.specs.Method.{Callee, keyed, callee_of, string_concat, array_left, array_concat, math_pow, array_of, global_method, method_of_object, method_called, method_rule}
use Rattle.rules.specs.Chain.{Chain, is_array, each_interleaving, string_chain, all_read, all_still, calls_apart, array_chain, chain_of, chained, chain_rule}
use Rattle.rules.proofs.Parts.{EachPart, EachArgument, top_part}
use Rattle.rules.proofs.Chaining.{ChainSays, chain_says}

module _ (P : Part → Type 0) where
  -- Whatever is answered, each question is of a part of which P holds.
  abbrev pub AsksOf : Deciding → Type 0
  AsksOf Deciding.keep = Unit {0}
  AsksOf (Deciding.becomes y) = Unit {0}
  AsksOf (Deciding.ask_effects p k) = P p × ((b : Bool) → AsksOf (k b))
  AsksOf (Deciding.ask_type p k) = P p × ((t : ValueType) → AsksOf (k t))
  AsksOf (Deciding.ask_global p k) = P p × ((b : Bool) → AsksOf (k b))

  when_asks : (b : Bool) (d : Deciding) → AsksOf d → AsksOf (when b d)
  unfolding when
  when_asks true d h = h
  when_asks false d h = tt

  cond_asks : (b : Bool) (d e : Deciding) → AsksOf d → AsksOf e → AsksOf (cond b d e)
  cond_asks true d e h k = h
  cond_asks false d e h k = k

  unless_asks : (b : Bool) (d e : Deciding) → AsksOf d → AsksOf e → AsksOf (unless_effects b d e)
  unfolding unless_effects
  unless_asks false d e h k = h
  unless_asks true d e h k = k

  -- ---- interleaving

  quiet_asks : (xs : Arguments) (d e : Deciding) → EachArgument P xs → AsksOf d → AsksOf e → AsksOf (all_quiet xs d e)
  unfolding all_quiet
  quiet_asks Arguments.no_arguments d e h i j = i
  quiet_asks (Arguments.argument x xs) d e h i j = (top_part P x h.0, λ b. unless_asks b _ _ (quiet_asks xs d e h.1 i j) j)
  quiet_asks (Arguments.spread_argument l x xs) d e h i j = j

  interleaving_asks : (xs : Arguments) (d e : Deciding) → EachArgument P xs → AsksOf d → AsksOf e → AsksOf (interleaving xs d e)
  unfolding interleaving
  interleaving_asks Arguments.no_arguments d e h i j = i
  interleaving_asks (Arguments.spread_argument l x xs) d e h i j = j
  interleaving_asks (Arguments.argument x xs) d e h i j =
      cond_asks (none_left xs) _ _ i (top_part P x h.0, λ t. cond_asks _ _ _ (interleaving_asks xs d e h.1 i j) (quiet_asks xs d e h.1 i j))

  -- ---- the rule property

  without_asks : (o : Expression) (y : Option Expression) → P (Part.expression o) → AsksOf (without_effects o y)
  unfolding without_effects
  without_asks o None h = tt
  without_asks o (Some y) h = (h, λ b. unless_asks b _ _ tt tt)

  index_asks : (next : ℕ) (o : Expression) (k : ℕ) → EachPart P o → AsksOf (at_index next o k)
  unfolding at_index
  index_asks next (Expression.string i u) k h = without_asks _ _ h
  index_asks next (Expression.array i xs) k h = without_asks _ _ h.0
  index_asks next o k h = tt

  whole_asks : (next : ℕ) (o : Expression) (k : Option ℕ) → EachPart P o → AsksOf (at_whole next o k)
  unfolding at_whole
  whole_asks next o None h = tt
  whole_asks next o (Some k) h = when_asks _ _ (index_asks next o k h)

  key_asks : (next : ℕ) (o y : Expression) → EachPart P o → AsksOf (at_key next o y)
  unfolding at_key
  key_asks next o (Expression.number j n) h = whole_asks next o _ h
  key_asks next o y h = tt

  read_asks : (next : ℕ) (x : Expression) → EachPart P x → AsksOf (property_read next x)
  unfolding property_read
  read_asks next (Expression.computed_member m o y) h = key_asks next o y h.1
  read_asks next x h = tt

  pub property_asks : (next : ℕ) (r : Role) (x : Expression) → EachPart P x → AsksOf (property_rule next r x)
  unfolding property_rule
  property_asks next Role.ordinary x h = read_asks next x h
  property_asks next Role.concat_object x h = read_asks next x h
  property_asks next Role.referred x h = tt

  -- ---- the rule method

  string_asks : (s : Settings) (next : ℕ) (u : Units) (xs : Arguments) → EachArgument P xs → AsksOf (string_concat s next u xs)
  unfolding string_concat
  string_asks s next u xs h = when_asks _ _ (interleaving_asks xs _ _ h tt tt)

  left_asks : (next : ℕ) (f : Expression) (es : Elements) (xs : Arguments) → AsksOf (array_left next f es xs)
  unfolding array_left
  left_asks next f es Arguments.no_arguments = tt
  left_asks next f es (Arguments.argument x xs) = tt
  left_asks next f es (Arguments.spread_argument l x xs) = tt

  array_asks : (next : ℕ) (f : Expression) (j : ℕ) (es : Elements) (xs : Arguments) (n : ℕ) → AsksOf (array_concat next f j es xs n)
  unfolding array_concat
  array_asks next f j es xs zero = when_asks _ _ tt
  array_asks next f j es xs (suc n) = left_asks next f _ _

  pow_asks : (s : Settings) (next : ℕ) (o : Expression) (xs : Arguments) → P (Part.expression o) → EachArgument P xs → AsksOf (math_pow s next o xs)
  unfolding math_pow
  pow_asks s next o (Arguments.argument a (Arguments.argument b Arguments.no_arguments)) g h = when_asks _ _ (g, λ t. when_asks t _ (top_part P b h.1.0, λ k. tt))
  pow_asks s next o xs g h = tt

  array_of_asks : (next : ℕ) (o : Expression) (xs : Arguments) → P (Part.expression o) → AsksOf (array_of next o xs)
  unfolding array_of
  array_of_asks next o xs g = (g, λ t. when_asks t _ tt)

  object_asks : (s : Settings) (next : ℕ) (r : Role) (f : Expression) (xs : Arguments) (k : Units) (o : Expression) → EachPart P o → EachArgument P xs → AsksOf (method_of_object s next r f xs k o)
  unfolding method_of_object global_method
  object_asks s next r f xs k (Expression.string j u) g h = when_asks _ _ (string_asks s next u xs h)
  object_asks s next r f xs k (Expression.array j es) g h = when_asks _ _ (array_asks next f j es xs _)
  object_asks s next r f xs k (Expression.name j u) g h = cond_asks _ _ _ (pow_asks s next _ xs g h) (when_asks _ _ (array_of_asks next _ xs g))
  object_asks s next r f xs k o g h = tt

  -- the object of a callee is a part of it
  abbrev CalledPart : Callee → Type 0
  CalledPart (Callee.method o k) = EachPart P o
  CalledPart Callee.none = Unit {0}

  keyed_part : (o y : Expression) → EachPart P o → CalledPart (keyed o y)
  unfolding keyed
  keyed_part o (Expression.string i k) h = h
  keyed_part o y h = tt

  callee_part : (f : Expression) → EachPart P f → CalledPart (callee_of f)
  unfolding callee_of
  callee_part (Expression.static_member m o k) h = h.1
  callee_part (Expression.computed_member m o y) h = keyed_part o y h.1
  callee_part f h = tt

  called_asks : (s : Settings) (next : ℕ) (r : Role) (f : Expression) (xs : Arguments) (c : Callee) → CalledPart c → EachArgument P xs → AsksOf (method_called s next r f xs c)
  unfolding method_called
  called_asks s next r f xs (Callee.method o k) g h = object_asks s next r f xs k o g h
  called_asks s next r f xs Callee.none g h = tt

  pub method_asks : (s : Settings) (next : ℕ) (r : Role) (x : Expression) → EachPart P x → AsksOf (method_rule s next r x)
  unfolding method_rule
  method_asks s next r (Expression.call l f xs) h = called_asks s next r f xs (callee_of f) (callee_part f h.1) h.2
  method_asks s next r x h = tt

  -- ---- the rule chain

  abbrev EachCall : List Arguments → Type 0
  EachCall [] = Unit {0}
  EachCall (xs ∷ xss) = EachArgument P xs × EachCall xss

  behind : (xs ys : Arguments) → EachArgument P xs → EachArgument P ys → EachArgument P (append_arguments xs ys)
  unfolding append_arguments
  behind Arguments.no_arguments ys h k = k
  behind (Arguments.argument x xs) ys h k = (h.0, behind xs ys h.1 k)
  behind (Arguments.spread_argument l x xs) ys h k = (h.0, h.1, behind xs ys h.2 k)

  flat_parts : (xss : List Arguments) → EachCall xss → EachArgument P (flat xss)
  unfolding flat
  flat_parts [] h = tt
  flat_parts (xs ∷ xss) h = behind xs (flat xss) h.0 (flat_parts xss h.1)

  each_asks : (xss : List Arguments) (d : Deciding) → EachCall xss → AsksOf d → AsksOf (each_interleaving xss d)
  unfolding each_interleaving
  each_asks [] d h i = i
  each_asks (xs ∷ xss) d h i = interleaving_asks xs _ _ h.0 (each_asks xss d h.1 i) tt

  string_chain_asks : (s : Settings) (next : ℕ) (f : Expression) (u : Units) (xss : List Arguments) → EachCall xss → AsksOf (string_chain s next f u xss)
  unfolding string_chain
  string_chain_asks s next f u xss h =
      when_asks _ _
      (cond_asks _ _ _ (each_asks xss _ h tt) (interleaving_asks (flat xss) _ _ (flat_parts xss h) tt (when_asks _ _ (each_asks xss _ h tt))))

  read_later_asks : (xs : Arguments) (d e : Deciding) → EachArgument P xs → AsksOf d → AsksOf e → AsksOf (all_read xs d e)
  unfolding all_read
  read_later_asks Arguments.no_arguments d e h i j = i
  read_later_asks (Arguments.argument x xs) d e h i j =
      cond_asks (is_array x) _ _ (read_later_asks xs d e h.1 i j) (top_part P x h.0, λ t. cond_asks _ _ _ (read_later_asks xs d e h.1 i j) j)
  read_later_asks (Arguments.spread_argument l x xs) d e h i j = j

  still_asks : (xs : Arguments) (d : Deciding) → EachArgument P xs → AsksOf d → AsksOf (all_still xs d)
  unfolding all_still
  still_asks Arguments.no_arguments d h i = i
  still_asks (Arguments.argument x xs) d h i = (top_part P x h.0, λ b. unless_asks b _ _ (still_asks xs d h.1 i) tt)
  still_asks (Arguments.spread_argument l x xs) d h i = (h.0, λ b. unless_asks b _ _ (still_asks xs d h.2 i) tt)

  apart_asks : (xss : List Arguments) (d : Deciding) → EachCall xss → AsksOf d → AsksOf (calls_apart xss d)
  unfolding calls_apart
  apart_asks [] d h i = i
  apart_asks (xs ∷ xss) d h i =
      let still = still_asks (flat xss) d (flat_parts xss h.1) i in
      cond_asks (none_left (flat xss)) _ _ i (cond_asks (no_spread xs) _ _ (read_later_asks xs _ _ h.0 (apart_asks xss d h.1 i) still) still)

  both_calls : (xss : List Arguments) (xs : Arguments) → EachCall xss → EachArgument P xs → EachCall (xss ++ (xs ∷ []))
  both_calls [] xs h k = (k, tt)
  both_calls (ys ∷ yss) xs h k = (h.0, both_calls yss xs h.1 k)

  calls_part : {b : Expression} {m : ℕ} {x : Expression} {xss : List Arguments} → Calls b m x xss → EachPart P x → EachCall xss
  calls_part Calls.innermost h = (h.2, tt)
  calls_part (Calls.outer {xs = xs} {xss = xss} d) h = both_calls xss xs (calls_part d h.1.1) h.2

  array_chain_asks : (s : Settings) (next : ℕ) (f : Expression) (xss : List Arguments) → EachCall xss → AsksOf (chained s next (Chain.of_array f xss))
  unfolding chained array_chain
  array_chain_asks s next f [] h = tt
  array_chain_asks s next f (xs ∷ []) h = tt
  array_chain_asks s next f (xs ∷ (ys ∷ yss)) h = apart_asks (xs ∷ (ys ∷ yss)) _ h tt

  text_chain_asks : (s : Settings) (next : ℕ) (f : Expression) (u : Units) (xss : List Arguments) → EachCall xss → AsksOf (chained s next (Chain.of_string f u xss))
  unfolding chained
  text_chain_asks s next f u [] h = tt
  text_chain_asks s next f u (xs ∷ []) h = tt
  text_chain_asks s next f u (xs ∷ (ys ∷ yss)) h = string_chain_asks s next f u (xs ∷ (ys ∷ yss)) h

  chained_asks : (s : Settings) (next : ℕ) (x : Expression) (c : Chain) → ChainSays x c → EachPart P x → AsksOf (chained s next c)
  unfolding chained
  chained_asks s next x c (ChainSays.of_string {xss = xss} d) h = text_chain_asks s next _ _ xss (calls_part d h)
  chained_asks s next x c (ChainSays.of_array {xss = xss} d) h = array_chain_asks s next _ xss (calls_part d h)
  chained_asks s next x c ChainSays.none h = tt

  pub chain_asks : (s : Settings) (next : ℕ) (r : Role) (x : Expression) → EachPart P x → AsksOf (chain_rule s next r x)
  unfolding chain_rule
  chain_asks s next r x h = when_asks _ _ (chained_asks s next x (chain_of x) (chain_says x) h)
