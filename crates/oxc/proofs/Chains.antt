-- Chains of `concat`, as the Rust joins them.
use Rattle.std.proofs.Common.{◌≡◌, ℕ, suc, Bool, true, false, cond, ◌&&◌, ◌||◌, List, [], ◌∷◌, ◌++◌, length, reverse, Some, None, Option, nat_le, refl, sym, subst, ap, ◌∙◌, arith}
use Rattle.std.proofs.lemmas.Bool.Decides.{nat_tests}
use Rattle.std.proofs.lemmas.List.{reverse-reverse, length-reverse, reverse-append}
use Rattle.host.specs.declared.value_type.ValueType.{ValueType}
use Rattle.host.specs.declared.value_type.ValueType.TheVariants.{Undetermined, Undefined, Null, Number, BigInt, String, Boolean, Object}
use Rattle.host.specs.Answers.{Answers}
use Rattle.meaning.specs.Expression.{Expression, Elements, Arguments, Units}
use Rattle.meaning.specs.Methods.{concat_name}
use Rattle.meaning.specs.Parts.{Part}
use Rattle.rules.specs.Deciding.{Deciding, decided, when, unless_effects, same_name, outermost}
use Rattle.rules.specs.Places.{Role, Settings}
use Rattle.rules.specs.Interleaves.{settled}
use Rattle.rules.specs.Building.{append_arguments, joined, flat}
use Rattle.rules.specs.Interleaving.{no_spread, none_left, interleaving, short}
use Rattle.rules.specs.Chain.{Chain, longer, called_on, chain_of, each_interleaving, string_chain, is_array, all_read, all_still, calls_apart, array_chain, chained, chain_rule}
use Rattle.oxc.specs.Folding.{iter, from_iter, object_or_undetermined, interleave_from, string_concat_can_interleave, string_concat_prefers_template, expression_count, fold_string_concat}
use Rattle.oxc.specs.Functions.{string_chain as rust_string_chain, array_chain as rust_array_chain, Made, parent_is_concat, Root, collect, collect_object, flat_map, all_can_interleave, one_call, call_count, may_be_read, any_read, any_effects, order_matters, from_root}
use Rattle.oxc.specs.Laws.{SameButNumbers, Agree, TheRustJoinsChainsAlike}
use Rattle.oxc.proofs.Folding.{short_alike, interleaving_alike, template_alike}
use Rattle.oxc.proofs.Methods.{spread_no, and_false, call_alike}

append_assoc : {A : Type 0} (xs ys zs : List A) → (xs ++ ys) ++ zs ≡ xs ++ (ys ++ zs)
append_assoc [] ys zs = refl
append_assoc (x ∷ xs) ys zs = ap (λ z. x ∷ z) (append_assoc xs ys zs)

-- ---- the walk inwards

-- What the loop ends with, from the calls outside of the expression and the expression's own chain.
abbrev RootOf : Chain → List Arguments → Root → Type 0
RootOf (Chain.of_string f u xss) acc r = (j : ℕ) × (r ≡ Root.root f (Expression.string j u) (acc ++ reverse xss))
RootOf (Chain.of_array f xss) acc r = (j : ℕ) × (es : Elements) × (r ≡ Root.root f (Expression.array j es) (acc ++ reverse xss))
RootOf Chain.none acc r = r ≡ Root.nothing

outside : (acc : List Arguments) (xs : Arguments) (xss : List Arguments) → (acc ++ xs ∷ []) ++ reverse xss ≡ acc ++ reverse (xss ++ xs ∷ [])
outside acc xs xss = append_assoc acc (xs ∷ []) (reverse xss) ∙ ap (λ z. acc ++ z) (sym (reverse-append xss (xs ∷ [])))

one_outside : (c : Chain) (acc : List Arguments) (xs : Arguments) (r : Root) → RootOf c (acc ++ xs ∷ []) r → RootOf (longer c xs) acc r
unfolding longer
one_outside (Chain.of_string f u xss) acc xs r h = (h.0, h.1 ∙ ap (λ z. Root.root f (Expression.string h.0 u) z) (outside acc xs xss))
one_outside (Chain.of_array f xss) acc xs r h = (h.0, h.1, h.2 ∙ ap (λ z. Root.root f (Expression.array h.0 h.1) z) (outside acc xs xss))
one_outside Chain.none acc xs r h = h

inwards_by : (b : Bool) (c : Chain) (acc : List Arguments) (r : Root) → RootOf c acc r → RootOf (cond b c Chain.none) acc (cond b r Root.nothing)
inwards_by true c acc r h = h
inwards_by false c acc r h = refl

-- By the object of a call whose callee is a static member.
on_object : (m : ℕ) (o : Expression) (k : Units) (xs : Arguments) (acc : List Arguments)
    → RootOf (called_on (Expression.static_member m o k) o xs (chain_of o)) acc (collect_object m o k (acc ++ xs ∷ []))
unfolding chain_of called_on collect concat_name longer
on_object m (Expression.string j u) k xs acc = (j, refl)
on_object m (Expression.array j es) k xs acc = (j, es, refl)
on_object m (Expression.call l (Expression.static_member n o i) ys) k xs acc =
    one_outside (cond (same_name i concat_name) (called_on (Expression.static_member n o i) o ys (chain_of o)) Chain.none) acc xs
    (cond (same_name i concat_name) (collect_object n o i ((acc ++ xs ∷ []) ++ ys ∷ [])) Root.nothing)
    (inwards_by (same_name i concat_name) (called_on (Expression.static_member n o i) o ys (chain_of o)) (acc ++ xs ∷ []) (collect_object n o i ((acc ++ xs ∷ []) ++ ys ∷ [])) (on_object n o i ys (acc ++ xs ∷ [])))
on_object m o k xs acc = refl

inwards : (x : Expression) → RootOf (chain_of x) [] (collect x [])
unfolding chain_of collect concat_name
inwards (Expression.call n (Expression.static_member m o k) xs) =
    inwards_by (same_name k concat_name) (called_on (Expression.static_member m o k) o xs (chain_of o)) [] (collect_object m o k (xs ∷ [])) (on_object m o k xs [])
inwards x = refl

-- ---- the arguments of all calls

iter_append : (xs ys : Arguments) → iter (append_arguments xs ys) ≡ iter xs ++ iter ys
unfolding iter append_arguments
iter_append Arguments.no_arguments ys = refl
iter_append (Arguments.argument x xs) ys = ap (λ z. Part.expression x ∷ z) (iter_append xs ys)
iter_append (Arguments.spread_argument l x xs) ys = ap (λ z. Part.spread l x ∷ z) (iter_append xs ys)

flat_alike : (xss : List Arguments) → iter (flat xss) ≡ flat_map xss
unfolding flat flat_map iter
flat_alike [] = refl
flat_alike (xs ∷ xss) = iter_append xs (flat xss) ∙ ap (λ z. iter xs ++ z) (flat_alike xss)

and_assoc : (b c d : Bool) → ((b && c) && d) ≡ (b && (c && d))
and_assoc true c d = refl
and_assoc false c d = refl

and_comm : (b c : Bool) → (b && c) ≡ (c && b)
and_comm true true = refl
and_comm true false = refl
and_comm false true = refl
and_comm false false = refl

all_append : (a : Answers) (xss yss : List Arguments) → all_can_interleave a (xss ++ yss) ≡ (all_can_interleave a xss && all_can_interleave a yss)
unfolding all_can_interleave
all_append a [] yss = refl
all_append a (xs ∷ xss) yss =
    ap (λ z. string_concat_can_interleave a (iter xs) && z) (all_append a xss yss) ∙ sym (and_assoc (string_concat_can_interleave a (iter xs)) (all_can_interleave a xss) (all_can_interleave a yss))

-- In whichever order.
all_reverse : (a : Answers) (xss : List Arguments) → all_can_interleave a (reverse xss) ≡ all_can_interleave a xss
unfolding all_can_interleave
all_reverse a [] = refl
all_reverse a (xs ∷ xss) =
    let here = string_concat_can_interleave a (iter xs) in
    ap (all_can_interleave a) (reverse-append (xs ∷ []) xss)
    ∙ all_append a (reverse xss) (xs ∷ [])
    ∙ ap (λ z. z && (here && true)) (all_reverse a xss)
    ∙ and_comm (all_can_interleave a xss) (here && true)
    ∙ and_assoc here true (all_can_interleave a xss)

-- What interleaves does so in front, and behind.
true_false : {A : Type 0} → false ≡ true → A
true_false e = let z : ◌≡◌ {A = ℕ} 0 1 = cc in absurd (omega arith)

unless_true : (c x y : Bool) → (x ≡ true → y ≡ true) → cond c false x ≡ true → y ≡ true
unless_true true x y h e = true_false e
unless_true false x y h e = h e

either_flag : (a : Answers) (ps : List Part) (d : Bool) → (interleave_from a true ps ≡ true → interleave_from a false ps ≡ true) → interleave_from a true ps ≡ true → interleave_from a d ps ≡ true
either_flag a ps true h e = e
either_flag a ps false h e = h e

quieter : (a : Answers) (b : Bool) (ps : List Part) → interleave_from a b ps ≡ true → interleave_from a false ps ≡ true
unfolding interleave_from
quieter a b [] e = refl
quieter a false (Part.expression x ∷ ps) e = e
quieter a true (Part.expression x ∷ ps) e =
    let d = object_or_undetermined (a.value_type (Part.expression x)) in
    unless_true (a.effects (Part.expression x)) (interleave_from a true ps) (interleave_from a d ps) (either_flag a ps d (quieter a true ps)) e
quieter a b (Part.spread l x ∷ ps) e = true_false e
quieter a b (Part.hole l ∷ ps) e = true_false e
quieter a b (Part.quasi q ∷ ps) e = true_false e

split_by : (c x y z : Bool) → (x ≡ true → (y ≡ true) × (z ≡ true)) → cond c false x ≡ true → (cond c false y ≡ true) × (z ≡ true)
split_by true x y z h e = true_false e
split_by false x y z h e = h e

parts_interleave : (a : Answers) (b : Bool) (ps qs : List Part) → interleave_from a b (ps ++ qs) ≡ true → (interleave_from a b ps ≡ true) × (interleave_from a false qs ≡ true)
unfolding interleave_from
parts_interleave a b [] qs e = (refl, quieter a b qs e)
parts_interleave a b (Part.expression x ∷ ps) qs e =
    let d = b || object_or_undetermined (a.value_type (Part.expression x)) in
    split_by (b && a.effects (Part.expression x)) (interleave_from a d (ps ++ qs)) (interleave_from a d ps) (interleave_from a false qs) (parts_interleave a d ps qs) e
parts_interleave a b (Part.spread l x ∷ ps) qs e = true_false e
parts_interleave a b (Part.hole l ∷ ps) qs e = true_false e
parts_interleave a b (Part.quasi q ∷ ps) qs e = true_false e

-- Where all arguments together interleave, each call does.
together_each : (a : Answers) (xss : List Arguments) → string_concat_can_interleave a (flat_map xss) ≡ true → all_can_interleave a xss ≡ true
unfolding all_can_interleave flat_map
together_each a [] e = refl
together_each a (xs ∷ xss) e = let h = parts_interleave a false (iter xs) (flat_map xss) e in rw (h.0, together_each a xss h.1) refl

-- A spread keeps some call from interleaving.
front_no : (xs ys : Arguments) → no_spread (append_arguments xs ys) ≡ (no_spread xs && no_spread ys)
unfolding no_spread append_arguments
front_no Arguments.no_arguments ys = refl
front_no (Arguments.argument x xs) ys = front_no xs ys
front_no (Arguments.spread_argument l x xs) ys = refl

spread_by : (a : Answers) (xs : Arguments) (rest all b : Bool) → no_spread xs ≡ b → (b && rest) ≡ false → (rest ≡ false → all ≡ false)
    → (string_concat_can_interleave a (iter xs) && all) ≡ false
spread_by a xs rest all false h e f = ap (λ z. z && all) (spread_no a false xs h)
spread_by a xs rest all true h e f = ap (λ z. string_concat_can_interleave a (iter xs) && z) (f e) ∙ and_false (string_concat_can_interleave a (iter xs))

spread_each : (a : Answers) (xss : List Arguments) → no_spread (flat xss) ≡ false → all_can_interleave a xss ≡ false
unfolding all_can_interleave flat no_spread
spread_each a [] e = true_false (sym e)
spread_each a (xs ∷ xss) e =
    spread_by a xs (no_spread (flat xss)) (all_can_interleave a xss) (no_spread xs) refl (sym (front_no xs (flat xss)) ∙ e) (spread_each a xss)

-- ---- a string

each_alike : (a : Answers) (xss : List Arguments) (d : Deciding) → decided a (each_interleaving xss d) ≡ cond (all_can_interleave a xss) (decided a d) None
unfolding each_interleaving all_can_interleave decided
each_alike a [] d = refl
each_alike a (xs ∷ xss) d =
    interleaving_alike a (each_interleaving xss d) Deciding.keep xs ∙ ap (λ o. cond (string_concat_can_interleave a (iter xs)) o None) (each_alike a xss d)
    ∙ twice (string_concat_can_interleave a (iter xs)) (all_can_interleave a xss) (decided a d)
  where
    twice : (b c : Bool) (o : Option Expression) → cond b (cond c o None) None ≡ cond (b && c) o None
    twice true c o = refl
    twice false c o = refl

-- What the rule decides, by what it finds out: that templates are supported, that one is short against one call and
-- against all, that each call interleaves, and that all do.
abbrev found : (t s c each all : Bool) (joined_up one : Option Expression) → Option Expression
found t s c each all joined_up one = cond (t && s) (cond each joined_up None) (cond all one (cond (t && c) (cond each joined_up None) None))

abbrev rust_found : (t s c each all : Bool) (joined_up one : Expression) → Made
rust_found t s c each all joined_up one = cond (t && each && cond all s c) (Made.replaced joined_up) (cond all (Made.replaced one) Made.left)

-- A template that is short against one call is so against more; and where all arguments together interleave each call
-- does.
found_alike : (t s c each all : Bool) (x y x2 y2 : Expression) → (s ≡ true → c ≡ true) → (all ≡ true → each ≡ true) → SameButNumbers x x2 → SameButNumbers y y2
    → Agree (found t s c each all (Some x) (Some y)) (rust_found t s c each all x2 y2)
found_alike false s c each true x y x2 y2 h i p q = q
found_alike false s c each false x y x2 y2 h i p q = tt
found_alike true true c true true x y x2 y2 h i p q = p
found_alike true true true true false x y x2 y2 h i p q = p
found_alike true true false true false x y x2 y2 h i p q = true_false (h refl)
found_alike true true c false true x y x2 y2 h i p q = true_false (i refl)
found_alike true true c false false x y x2 y2 h i p q = tt
found_alike true false c true true x y x2 y2 h i p q = q
found_alike true false c false true x y x2 y2 h i p q = true_false (i refl)
found_alike true false true true false x y x2 y2 h i p q = p
found_alike true false false true false x y x2 y2 h i p q = tt
found_alike true false true false false x y x2 y2 h i p q = tt
found_alike true false false false false x y x2 y2 h i p q = tt

shorter : (n : ℕ) (xs : Arguments) → short 1 xs ≡ true → short (suc n) xs ≡ true
unfolding short
shorter n xs e = grind (arith, nat_tests)

decided_cond : (a : Answers) (b : Bool) (d e : Deciding) → decided a (cond b d e) ≡ cond b (decided a d) (decided a e)
decided_cond a true d e = refl
decided_cond a false d e = refl

decided_when : (a : Answers) (b : Bool) (d : Deciding) → decided a (when b d) ≡ cond b (decided a d) None
unfolding decided when
decided_when a true d = refl
decided_when a false d = refl

module _ (s : Settings) (next : ℕ) (a : Answers) (f : Expression) (u : Units) (xss : List Arguments) where
  abbrev flat_args : Arguments
  flat_args = flat xss

  abbrev as_template : Expression
  as_template = joined next u (flat xss)

  abbrev as_call : Expression
  as_call = Expression.call next f (flat xss)

  abbrev each_call : Bool
  each_call = all_can_interleave a xss

  abbrev all_calls : Bool
  all_calls = string_concat_can_interleave a (iter (flat xss))

  abbrev rule_found : Option Expression
  rule_found = found s.templates (short 1 (flat xss)) (short (length xss) (flat xss)) each_call all_calls (Some as_template) (Some as_call)

  string_decides : decided a (string_chain s next f u xss) ≡ cond (no_spread (flat xss)) rule_found None
  unfolding string_chain decided
  string_decides =
      let each = each_alike a xss (Deciding.becomes as_template) in
      let later = when (s.templates && short (length xss) (flat xss)) (each_interleaving xss (Deciding.becomes as_template)) in
      let last = decided_when a (s.templates && short (length xss) (flat xss)) (each_interleaving xss (Deciding.becomes as_template)) ∙ ap (λ o. cond (s.templates && short (length xss) (flat xss)) o None) each in
      let middle = interleaving_alike a (Deciding.becomes as_call) later (flat xss) ∙ ap (λ o. cond all_calls (Some as_call) o) last in
      let first = decided_cond a (s.templates && short 1 (flat xss)) (each_interleaving xss (Deciding.becomes as_template)) (interleaving (flat xss) (Deciding.becomes as_call) later) in
      decided_when a (no_spread (flat xss)) (cond (s.templates && short 1 (flat xss)) (each_interleaving xss (Deciding.becomes as_template)) (interleaving (flat xss) (Deciding.becomes as_call) later))
      ∙ ap (λ o. cond (no_spread (flat xss)) o None)
      (first ∙ ap (λ o. cond (s.templates && short 1 (flat xss)) o (decided a (interleaving (flat xss) (Deciding.becomes as_call) later))) each ∙ ap (λ o. cond (s.templates && short 1 (flat xss)) (cond each_call (Some as_template) None) o) middle)

  -- The Rust finds the same out.
  abbrev rust_made : Made
  rust_made = rust_found s.templates (short 1 (flat xss)) (short (length xss) (flat xss)) each_call all_calls (fold_string_concat u (iter (flat xss))) (Expression.call 0 f (from_iter (iter (flat xss))))

  preferred : (b : Bool) → string_concat_prefers_template (length (iter (flat xss))) (expression_count (iter (flat xss))) (call_count b (reverse xss)) ≡ cond b (short 1 (flat xss)) (short (length xss) (flat xss))
  preferred true = sym (short_alike 1 (flat xss))
  preferred false = ap (λ n. string_concat_prefers_template (length (iter (flat xss))) (expression_count (iter (flat xss))) n) (length-reverse xss) ∙ sym (short_alike (length xss) (flat xss))

  rust_string : rust_string_chain s a f u (reverse xss) (iter (flat xss)) all_calls ≡ rust_made
  rust_string =
      let template = Made.replaced (fold_string_concat u (iter (flat xss))) in
      let rest = cond all_calls (one_call f (iter (flat xss))) Made.left in
      ap (λ b. cond (s.templates && b && string_concat_prefers_template (length (iter (flat xss))) (expression_count (iter (flat xss))) (call_count all_calls (reverse xss))) template rest) (all_reverse a xss)
      ∙ ap (λ b. cond (s.templates && each_call && b) template rest) (preferred all_calls)

  found_by : (b : Bool) → no_spread (flat xss) ≡ b → (short 1 (flat xss) ≡ true → short (length xss) (flat xss) ≡ true) → Agree (cond b rule_found None) rust_made
  found_by true e h =
      found_alike s.templates (short 1 (flat xss)) (short (length xss) (flat xss)) each_call all_calls as_template as_call (fold_string_concat u (iter (flat xss))) (Expression.call 0 f (from_iter (iter (flat xss))))
      h (λ g. together_each a xss (sym (ap (string_concat_can_interleave a) (flat_alike xss)) ∙ g)) (template_alike next u (flat xss)) (call_alike next f f (flat xss) refl)
  found_by false e h = rw (spread_each a xss e, spread_no a false (flat xss) e, and_false s.templates) tt

  pub string_chain_alike : (short 1 (flat xss) ≡ true → short (length xss) (flat xss) ≡ true)
      → Agree (decided a (string_chain s next f u xss)) (rust_string_chain s a f u (reverse xss) (flat_map xss) (string_concat_can_interleave a (flat_map xss)))
  string_chain_alike h =
      subst (λ ps. Agree (decided a (string_chain s next f u xss)) (rust_string_chain s a f u (reverse xss) ps (string_concat_can_interleave a ps))) (flat_alike xss)
      (subst (λ m. Agree (decided a (string_chain s next f u xss)) m) (sym rust_string)
      (subst (λ o. Agree o rust_made) (sym string_decides) (found_by (no_spread (flat xss)) refl h)))

-- ---- an array

or_false : (b : Bool) → (b || false) ≡ b
or_false true = refl
or_false false = refl

still_by : (a : Answers) (b c : Bool) (e d : Deciding) → decided a e ≡ cond c None (decided a d) → decided a (unless_effects b e Deciding.keep) ≡ cond (b || c) None (decided a d)
unfolding unless_effects decided
still_by a true c e d h = refl
still_by a false c e d h = h

still_alike : (a : Answers) (xs : Arguments) (d : Deciding) → decided a (all_still xs d) ≡ cond (any_effects a (iter xs)) None (decided a d)
unfolding all_still any_effects iter decided
still_alike a Arguments.no_arguments d = refl
still_alike a (Arguments.argument x xs) d = still_by a (a.effects (Part.expression x)) (any_effects a (iter xs)) (all_still xs d) d (still_alike a xs d)
still_alike a (Arguments.spread_argument l x xs) d = still_by a (a.effects (Part.spread l x)) (any_effects a (iter xs)) (all_still xs d) d (still_alike a xs d)

read_by : (a : Answers) (t : ValueType) (c : Bool) (m d e : Deciding) → decided a m ≡ cond c (decided a e) (decided a d)
    → decided a (cond (settled t) m e) ≡ cond (object_or_undetermined t || c) (decided a e) (decided a d)
unfolding settled object_or_undetermined
read_by a Undetermined c m d e h = refl
read_by a Undefined c m d e h = h
read_by a Null c m d e h = h
read_by a Number c m d e h = h
read_by a BigInt c m d e h = h
read_by a String c m d e h = h
read_by a Boolean c m d e h = h
read_by a Object c m d e h = refl

read_alike : (a : Answers) (xs : Arguments) (d e : Deciding) → decided a (all_read xs d e) ≡ cond (any_read a (iter xs)) (decided a e) (decided a d)
unfolding all_read any_read may_be_read iter decided is_array
read_alike a Arguments.no_arguments d e = refl
read_alike a (Arguments.argument (Expression.array l es) xs) d e = read_alike a xs d e
read_alike a (Arguments.argument x xs) d e = read_by a (a.value_type (Part.expression x)) (any_read a (iter xs)) (all_read xs d e) d e (read_alike a xs d e)
read_alike a (Arguments.spread_argument l x xs) d e = refl

effects_append : (a : Answers) (ps qs : List Part) → any_effects a (ps ++ qs) ≡ (any_effects a ps || any_effects a qs)
unfolding any_effects
effects_append a [] qs = refl
effects_append a (p ∷ ps) qs = ap (λ z. a.effects p || z) (effects_append a ps qs) ∙ sym (or_assoc (a.effects p) (any_effects a ps) (any_effects a qs))
  where
    or_assoc : (b c d : Bool) → ((b || c) || d) ≡ (b || (c || d))
    or_assoc true c d = refl
    or_assoc false c d = refl

neither : (a b : Bool) → (a || b) ≡ false → (a ≡ false) × (b ≡ false)
neither false b e = (refl, e)
neither true b e = true_false (sym e)

-- Where no argument has effects, the order does not matter.
quiet_order : (a : Answers) (xss : List Arguments) → any_effects a (flat_map xss) ≡ false → order_matters a xss ≡ false
unfolding order_matters flat_map
quiet_order a [] e = refl
quiet_order a (xs ∷ xss) e =
    let h = neither (any_effects a (iter xs)) (any_effects a (flat_map xss)) (sym (effects_append a (iter xs) (flat_map xss)) ∙ e) in
    rw (h.1, and_false (any_read a (iter xs)), quiet_order a xss h.1) refl

spread_read : (a : Answers) (xs : Arguments) → no_spread xs ≡ false → any_read a (iter xs) ≡ true
unfolding no_spread any_read iter may_be_read
spread_read a Arguments.no_arguments e = true_false (sym e)
spread_read a (Arguments.argument x xs) e = ap (λ z. may_be_read a (Part.expression x) || z) (spread_read a xs e) ∙ or_true (may_be_read a (Part.expression x))
  where
    or_true : (b : Bool) → (b || true) ≡ true
    or_true true = refl
    or_true false = refl
spread_read a (Arguments.spread_argument l x xs) e = refl

no_more : (xs : Arguments) → none_left xs ≡ true → iter xs ≡ []
unfolding none_left iter
no_more Arguments.no_arguments e = refl
no_more (Arguments.argument x xs) e = true_false e
no_more (Arguments.spread_argument l x xs) e = true_false e

joined_by : (read effects order : Bool) (o : Option Expression) → (effects ≡ false → order ≡ false)
    → cond read (cond effects None o) (cond order None o) ≡ cond ((read && effects) || order) None o
joined_by true true order o h = refl
joined_by true false true o h = true_false (sym (h refl))
joined_by true false false o h = refl
joined_by false effects order o h = refl

-- One step outwards: whether a later call has arguments, and whether this one has a spread.
apart_by : (a : Answers) (xs : Arguments) (xss : List Arguments) (d : Deciding) (n s : Bool) → none_left (flat xss) ≡ n → no_spread xs ≡ s
    → decided a (calls_apart xss d) ≡ cond (order_matters a xss) None (decided a d)
    → decided a (cond n d (cond s (all_read xs (calls_apart xss d) (all_still (flat xss) d)) (all_still (flat xss) d)))
    ≡ cond ((any_read a (iter xs) && any_effects a (flat_map xss)) || order_matters a xss) None (decided a d)
unfolding any_effects
apart_by a xs xss d true s e f h =
    let quiet : any_effects a (flat_map xss) ≡ false = ap (any_effects a) (sym (flat_alike xss) ∙ no_more (flat xss) e) in
    rw (quiet, and_false (any_read a (iter xs)), quiet_order a xss quiet) refl
apart_by a xs xss d false true e f h =
    let still : decided a (all_still (flat xss) d) ≡ cond (any_effects a (flat_map xss)) None (decided a d) = still_alike a (flat xss) d ∙ ap (λ ps. cond (any_effects a ps) None (decided a d)) (flat_alike xss) in
    read_alike a xs (calls_apart xss d) (all_still (flat xss) d)
    ∙ ap (λ o. cond (any_read a (iter xs)) o (decided a (calls_apart xss d))) still
    ∙ ap (λ o. cond (any_read a (iter xs)) (cond (any_effects a (flat_map xss)) None (decided a d)) o) h
    ∙ joined_by (any_read a (iter xs)) (any_effects a (flat_map xss)) (order_matters a xss) (decided a d) (quiet_order a xss)
apart_by a xs xss d false false e f h =
    let still : decided a (all_still (flat xss) d) ≡ cond (any_effects a (flat_map xss)) None (decided a d) = still_alike a (flat xss) d ∙ ap (λ ps. cond (any_effects a ps) None (decided a d)) (flat_alike xss) in
    still
    ∙ joined_by true (any_effects a (flat_map xss)) (order_matters a xss) (decided a d) (quiet_order a xss)
    ∙ ap (λ b. cond ((b && any_effects a (flat_map xss)) || order_matters a xss) None (decided a d)) (sym (spread_read a xs f))

apart_alike : (a : Answers) (xss : List Arguments) (d : Deciding) → decided a (calls_apart xss d) ≡ cond (order_matters a xss) None (decided a d)
unfolding calls_apart order_matters
apart_alike a [] d = refl
apart_alike a (xs ∷ xss) d = apart_by a xs xss d (none_left (flat xss)) (no_spread xs) refl refl (apart_alike a xss d)

array_by : (b : Bool) (l : ℕ) (f : Expression) (xs : Arguments) (ps : List Part) → iter xs ≡ ps → Agree (cond b None (Some (Expression.call l f xs))) (cond b Made.no_answer (one_call f ps))
array_by true l f xs ps e = tt
array_by false l f xs ps e = subst (λ qs. Agree (Some (Expression.call l f xs)) (one_call f qs)) e (call_alike l f f xs refl)

array_chain_alike : (next : ℕ) (a : Answers) (f : Expression) (xss : List Arguments) → Agree (decided a (array_chain next f xss)) (rust_array_chain a f xss)
unfolding array_chain decided
array_chain_alike next a f xss =
    subst (λ o. Agree o (rust_array_chain a f xss)) (sym (apart_alike a xss (Deciding.becomes (Expression.call next f (flat xss)))))
    (array_by (order_matters a xss) next f (flat xss) (flat_map xss) (flat_alike xss))

-- ---- the rule

two_or_more : (xs ys : Arguments) (xss : List Arguments) → nat_le (length (reverse (xs ∷ ys ∷ xss))) 1 ≡ false
two_or_more xs ys xss = let e = length-reverse (xs ∷ ys ∷ xss) in grind (arith, nat_tests)

rooted : (s : Settings) (next : ℕ) (a : Answers) (c : Chain) (r : Root) → RootOf c [] r → Agree (decided a (chained s next c)) (from_root s a r)
unfolding chained decided from_root
rooted s next a Chain.none r h = subst (λ z. Agree None (from_root s a z)) (sym h) tt
rooted s next a (Chain.of_string f u []) r h = subst (λ z. Agree None (from_root s a z)) (sym h.1) tt
rooted s next a (Chain.of_string f u (xs ∷ [])) r h = subst (λ z. Agree None (from_root s a z)) (sym h.1) tt
rooted s next a (Chain.of_string f u (xs ∷ (ys ∷ yss))) r h =
    let all = xs ∷ (ys ∷ yss) in
    subst (λ z. Agree (decided a (string_chain s next f u all)) (from_root s a z)) (sym h.1)
    (rw (two_or_more xs ys yss, reverse-reverse all) (string_chain_alike s next a f u all (shorter (suc (length yss)) (flat all))))
rooted s next a (Chain.of_array f []) r h = subst (λ z. Agree None (from_root s a z)) (sym h.2) tt
rooted s next a (Chain.of_array f (xs ∷ [])) r h = subst (λ z. Agree None (from_root s a z)) (sym h.2) tt
rooted s next a (Chain.of_array f (xs ∷ (ys ∷ yss))) r h =
    let all = xs ∷ (ys ∷ yss) in
    subst (λ z. Agree (decided a (array_chain next f all)) (from_root s a z)) (sym h.2)
    (rw (two_or_more xs ys yss, reverse-reverse all) (array_chain_alike next a f all))

pub chains_alike : TheRustJoinsChainsAlike
unfolding chain_rule when outermost parent_is_concat decided
chains_alike s next Role.ordinary a x = rooted s next a (chain_of x) (collect x []) (inwards x)
chains_alike s next Role.referred a x = rooted s next a (chain_of x) (collect x []) (inwards x)
chains_alike s next Role.concat_object a x = tt
