-- What the rule `method` decides of the objects of known methods.
use Rattle.std.proofs.Common.{◌≡◌, ℕ, ◌≢◌, Bool, true, false, cond, not, ◌&&◌, List, length, get_or, Some, None, Option, refl, sym, subst, ap, ◌∙◌, arith}
use Rattle.std.proofs.Math.Bool.{and-true}
use Rattle.std.proofs.lemmas.Bool.{and_parts}
use Rattle.text.specs.Stored.{Stores}
use Rattle.tree.specs.declared.node.Node.TheVariants.{String, Array, Call}
use Rattle.tree.specs.declared.node.Node.{Node}
use Rattle.std.specs.Borrow.{Bor}
use Rattle.tree.specs.declared.run.Run.{Run}
use Rattle.tree.specs.Tree.{Own, string, array, call, own_of}
use Rattle.tree.specs.Heap.{Held, own, entries_at}
use Rattle.host.specs.declared.value_type.ValueType.{ValueType}
use Rattle.host.specs.declared.value_type.ValueType.TheVariants.{Number}
use Rattle.host.specs.Answers.{Answers}
use Rattle.host.specs.Host.{Says}
use Rattle.meaning.specs.Expression.{Expression, Elements, Arguments, Units}
use Rattle.meaning.specs.Methods.{concat_name, pow_name, of_name, math_name, array_name}
use Rattle.meaning.specs.Trees.{tree_of}
use Rattle.meaning.specs.Parts.{Part}
use Rattle.rules.specs.Deciding.{Deciding, decided, when, outermost, same_name}
use Rattle.rules.specs.Places.{Role, Settings}
use Rattle.rules.specs.Building.{elements_of}
use Rattle.rules.specs.Interleaves.{argument_count}
use Rattle.rules.specs.Interleaving.{no_spread}
use Rattle.rules.specs.Taking.{taken_count}
use Rattle.rules.specs.Method.{Callee, callee_of, array_concat, string_concat, is_number, power, math_pow, array_of, global_method, method_of_object, method_called, method_rule}
use Rattle.deciding.specs.Standing.{Stands, AllStand, argument_parts, ListsArguments}
use Rattle.deciding.specs.Plans.{DecisionOf, NamesMethod}
use Rattle.deciding.specs.declared.plan.Decision.{Decision}
use Rattle.deciding.specs.declared.plan.Decision.TheVariants.{Kept, Rewritten}
use Rattle.deciding.specs.declared.plan.Plan.TheVariants.{Power, ArrayOf}
use Rattle.deciding.specs.declared.plan.Exponent.TheVariants.{Number as NumberPlan, Coerced}
use Rattle.deciding.specs.Arguments.{any_spread}
use Rattle.deciding.specs.Method.{is_name, is_global_name, known_name, ConcatsArray, JoinsString, FindsMethod, FindsMethodOf, FoldsOf}
use Rattle.host.proofs.Knowing.{false_true}
use Rattle.deciding.proofs.Records.{same_expression, Read}
use Rattle.deciding.proofs.Walks.{arguments_from, at_head}
use Rattle.deciding.proofs.Counts.{how_many, spread_among}
use Rattle.deciding.specs.declared.methods.KnownMethod.{KnownMethod}
use Rattle.deciding.proofs.Names.{Unknown, unknown, same_known, named, name_of}
use Rattle.deciding.proofs.Folding.{kept, becomes, and-false}
use Rattle.deciding.proofs.Interleaves.{said}

-- Tests of a record by what it says besides its children.
abbrev pub is_base : Own → Bool
is_base (string t) = true
is_base array = true
is_base o = false

abbrev pub is_call : Own → Bool
is_call call = true
is_call o = false

when_is : (b : Bool) (d : Deciding) → when b d ≡ cond b d Deciding.keep
unfolding when
when_is true d = refl
when_is false d = refl

module _ (a : Answers) (s : Settings) (next : ℕ) (r : Role) (f : Expression) (xs : Arguments) where
  -- ---- of names

  -- A global object has no other method that is known.
  neither : (j : ℕ) (u k : Units) → same_name k pow_name ≡ false → same_name k of_name ≡ false → decided a (global_method s next j u k xs) ≡ None
  unfolding global_method when decided
  neither j u k e f = rw (e, f, and-false (same_name u math_name), and-false (same_name u array_name)) refl

  pub unknown_kept : (k : Units) → Unknown k → (o : Expression) → decided a (method_of_object s next r f xs k o) ≡ None
  unfolding method_of_object when decided
  unknown_kept k e (Expression.string j u) = rw e.no_concat refl
  unknown_kept k e (Expression.array j es) = rw e.no_concat refl
  unknown_kept k e (Expression.name j u) = neither j u k e.no_pow e.no_of
  unknown_kept k e o = refl

  -- ---- of `concat`

  no_pow : same_name concat_name pow_name ≡ false
  unfolding concat_name pow_name
  no_pow = refl

  no_of : same_name concat_name of_name ≡ false
  unfolding concat_name of_name
  no_of = refl

  concat_itself : same_name concat_name concat_name ≡ true
  unfolding concat_name
  concat_itself = refl

  pub inner_kept : outermost r ≡ false → (o : Expression) → decided a (method_of_object s next r f xs concat_name o) ≡ None
  unfolding method_of_object when decided
  inner_kept e (Expression.string j u) = rw (e, and-false (same_name concat_name concat_name)) refl
  inner_kept e (Expression.array j es) = rw (e, and-false (same_name concat_name concat_name)) refl
  inner_kept e (Expression.name j u) = neither j u concat_name no_pow no_of
  inner_kept e o = refl

  pub other_kept : (o : Expression) → is_base (own_of (tree_of o)) ≡ false → decided a (method_of_object s next r f xs concat_name o) ≡ None
  unfolding method_of_object decided
  other_kept (Expression.string j u) e = false_true (sym e)
  other_kept (Expression.array j es) e = false_true (sym e)
  other_kept (Expression.name j u) e = neither j u concat_name no_pow no_of
  other_kept o e = refl

  concat_array : (j : ℕ) (es : Elements) → outermost r ≡ true → method_of_object s next r f xs concat_name (Expression.array j es) ≡ array_concat next f j es xs (taken_count xs)
  unfolding method_of_object when
  concat_array j es e = rw (concat_itself, e) refl

  concat_string : (j : ℕ) (u : Units) → outermost r ≡ true → method_of_object s next r f xs concat_name (Expression.string j u) ≡ string_concat s next u xs
  unfolding method_of_object when
  concat_string j u e = rw (concat_itself, e) refl

  no_templates : (j : ℕ) (u : Units) → outermost r ≡ true → s.templates ≡ false → decided a (method_of_object s next r f xs concat_name (Expression.string j u)) ≡ None
  unfolding string_concat when decided
  no_templates j u e t = ap (decided a) (concat_string j u e) ∙ rw t refl

  -- ---- of `pow` and `of`

  pow_global : (j : ℕ) (u : Units) → global_method s next j u pow_name xs ≡ cond (same_name u math_name) (math_pow s next (Expression.name j u) xs) Deciding.keep
  unfolding global_method when pow_name of_name
  pow_global j u = rw (and-true (same_name u math_name), and-false (same_name u array_name)) refl

  pow_called : (o : Expression) → method_of_object s next r f xs pow_name o ≡ cond (is_name math_name o) (math_pow s next o xs) Deciding.keep
  unfolding method_of_object when pow_name concat_name
  pow_called (Expression.string j u) = refl
  pow_called (Expression.array j es) = refl
  pow_called (Expression.name j u) = pow_global j u
  pow_called o = refl

  of_global : (j : ℕ) (u : Units) → global_method s next j u of_name xs ≡ cond (same_name u array_name) (array_of next (Expression.name j u) xs) Deciding.keep
  unfolding global_method pow_name of_name
  of_global j u = rw (and-true (same_name u array_name), and-false (same_name u math_name)) (when_is (same_name u array_name) (array_of next (Expression.name j u) xs))

  of_called : (o : Expression) → method_of_object s next r f xs of_name o ≡ cond (is_name array_name o) (array_of next o xs) Deciding.keep
  unfolding method_of_object when of_name concat_name
  of_called (Expression.string j u) = refl
  of_called (Expression.array j es) = refl
  of_called (Expression.name j u) = of_global j u
  of_called o = refl

-- ---- one call of `concat`

module _ (h : Held) (a : Answers) (s : Settings) (r : Role) (f o : Expression) (xs : Arguments) where
  -- Not by an inner call, and of no other object than an array or a string.
  pub fold_inner : outermost r ≡ false → DecisionOf h (decided a (method_of_object s (length h.nodes) r f xs concat_name o)) Kept
  fold_inner e = kept h (inner_kept a s (length h.nodes) r f xs e o)

  pub fold_other : is_base (own_of (tree_of o)) ≡ false → DecisionOf h (decided a (method_of_object s (length h.nodes) r f xs concat_name o)) Kept
  fold_other e = kept h (other_kept a s (length h.nodes) r f xs o e)

  pub fold_array : (callee object : ℕ) (elements arguments : Run ℕ) (d : Decision) → outermost r ≡ true → Read h (Array elements) (Part.expression o)
      → ConcatsArray h callee object elements arguments d → NamesMethod h callee f → Stands h object (Part.expression o) → ListsArguments h arguments xs
      → DecisionOf h (decided a (method_of_object s (length h.nodes) r f xs concat_name o)) d
  fold_array callee object elements arguments d e m concats sf so lists =
      let says = m.says in
      let same : o ≡ Expression.array says.0 says.1 = sym (same_expression says.2) in
      subst (λ q. DecisionOf h q d) (sym (ap (λ p. decided a (method_of_object s (length h.nodes) r f xs concat_name p)) same ∙ ap (decided a) (concat_array a s (length h.nodes) r f xs says.0 says.1 e)))
      (concats a f says.0 says.1 xs sf (subst (λ p. Stands h object (Part.expression p)) same so) ((and_parts _ _ m.within).0, says.3) lists)

  pub fold_string : (base arguments : Run ℕ) (d : Decision) → outermost r ≡ true → s.templates ≡ true → Read h (String base) (Part.expression o) → JoinsString a h base arguments d → ListsArguments h arguments xs
      → DecisionOf h (decided a (method_of_object s (length h.nodes) r f xs concat_name o)) d
  fold_string base arguments d e t m joins lists =
      let says = m.says in
      let same : o ≡ Expression.string says.0 says.1 = sym (same_expression says.2) in
      subst (λ q. DecisionOf h q d) (sym (ap (λ p. decided a (method_of_object s (length h.nodes) r f xs concat_name p)) same ∙ ap (decided a) (concat_string a s (length h.nodes) r f xs says.0 says.1 e)))
      (joins s says.1 xs t ((and_parts _ _ (and_parts _ _ m.within).1).0, says.3) lists)

  pub fold_unsupported : (base : Run ℕ) → outermost r ≡ true → s.templates ≡ false → Read h (String base) (Part.expression o) → DecisionOf h (decided a (method_of_object s (length h.nodes) r f xs concat_name o)) Kept
  fold_unsupported base e t m =
      let says = m.says in
      let same : o ≡ Expression.string says.0 says.1 = sym (same_expression says.2) in
      kept h (ap (λ p. decided a (method_of_object s (length h.nodes) r f xs concat_name p)) same ∙ no_templates a s (length h.nodes) r f xs says.0 says.1 e t)

-- ---- one call of `pow` or `of`

cond_kept : (a : Answers) (b : Bool) (d : Deciding) → decided a d ≡ None → decided a (cond b d Deciding.keep) ≡ None
unfolding decided
cond_kept a true d e = e
cond_kept a false d e = refl

when_kept : (a : Answers) (b : Bool) (d : Deciding) → decided a d ≡ None → decided a (when b d) ≡ None
unfolding decided when
when_kept a true d e = e
when_kept a false d e = refl

global_or_kept : (a : Answers) (b g : Bool) (d : Deciding) → b && g ≡ false → (g ≡ false → decided a d ≡ None) → decided a (cond b d Deciding.keep) ≡ None
unfolding decided
global_or_kept a true g d e k = k e
global_or_kept a false g d e k = refl

asked_global : (a : Answers) (p : Part) (k : Bool → Deciding) (b : Bool) → a.global p ≡ b → decided a (Deciding.ask_global p k) ≡ decided a (k b)
unfolding decided
asked_global a p k b e = ap (λ g. decided a (k g)) e

asked_when : (a : Answers) (b : Bool) (d : Deciding) → b ≡ true → decided a (when b d) ≡ decided a d
unfolding when
asked_when a b d e = rw e refl

module _ (a : Answers) (s : Settings) (next : ℕ) (o : Expression) where
  pow_unless_two : (xs : Arguments) → ((x y : Expression) → xs ≡ Arguments.argument x (Arguments.argument y Arguments.no_arguments) → ⊥) → decided a (math_pow s next o xs) ≡ None
  unfolding math_pow decided
  pow_unless_two (Arguments.argument x (Arguments.argument y Arguments.no_arguments)) e = absurd (e x y refl)
  pow_unless_two xs e = refl

  pow_unsupported : s.power ≡ false → (xs : Arguments) → decided a (math_pow s next o xs) ≡ None
  unfolding math_pow decided when
  pow_unsupported e (Arguments.argument x (Arguments.argument y Arguments.no_arguments)) = rw e refl
  pow_unsupported e xs = refl

  pow_not_global : a.global (Part.expression o) ≡ false → (xs : Arguments) → decided a (math_pow s next o xs) ≡ None
  unfolding math_pow decided when
  pow_not_global e (Arguments.argument x (Arguments.argument y Arguments.no_arguments)) =
      when_kept a s.power _ (asked_global a (Part.expression o) (λ g. when g (Deciding.ask_type (Part.expression y) (λ t. Deciding.becomes (power next x y (is_number t))))) false e)
  pow_not_global e xs = refl

  pow_of_two : (x y : Expression) → s.power ≡ true → a.global (Part.expression o) ≡ true
      → decided a (math_pow s next o (Arguments.argument x (Arguments.argument y Arguments.no_arguments))) ≡ Some (power next x y (is_number (a.value_type (Part.expression y))))
  unfolding math_pow decided when
  pow_of_two x y p e =
      asked_when a s.power _ p ∙ asked_global a (Part.expression o) (λ g. when g (Deciding.ask_type (Part.expression y) (λ t. Deciding.becomes (power next x y (is_number t))))) true e

  of_not_global : a.global (Part.expression o) ≡ false → (xs : Arguments) → decided a (array_of next o xs) ≡ None
  unfolding array_of decided when
  of_not_global e xs = asked_global a (Part.expression o) (λ g. when g (Deciding.becomes (Expression.array next (elements_of xs)))) false e

  of_global_one : a.global (Part.expression o) ≡ true → (xs : Arguments) → decided a (array_of next o xs) ≡ Some (Expression.array next (elements_of xs))
  unfolding array_of decided when
  of_global_one e xs = asked_global a (Part.expression o) (λ g. when g (Deciding.becomes (Expression.array next (elements_of xs)))) true e

-- Two arguments, none of them a spread.
record Two (h : Held) (ns : List ℕ) (xs : Arguments) : Type 0 where
  base : Expression
  exponent : Expression
  both : xs ≡ Arguments.argument base (Arguments.argument exponent Arguments.no_arguments)
  base_stands : Stands h (get_or ns 0 0) (Part.expression base)
  exponent_stands : Stands h (get_or ns 1 0) (Part.expression exponent)

two : (h : Held) (ns : List ℕ) (xs : Arguments) → AllStand h ns (argument_parts xs) → no_spread xs ≡ true → length ns ≡ 2 → Two h ns xs
unfolding arguments_from
two h ns xs s t e =
    let v = at_head h ns 0 xs s t (omega arith) in
    let w = at_head h ns 1 xs s t (omega arith) in
    record {
      base = v.head;
      exponent = w.head;
      both = v.here ∙ ap (λ ys. Arguments.argument v.head ys) (sym v.next ∙ w.here ∙ ap (λ ys. Arguments.argument w.head ys) (w.is_last (omega arith)));
      base_stands = v.stands;
      exponent_stands = w.stands;
    }

two_count : (x y : Expression) → argument_count (Arguments.argument x (Arguments.argument y Arguments.no_arguments)) ≡ 2
unfolding argument_count
two_count x y = refl

two_unspread : (x y : Expression) → no_spread (Arguments.argument x (Arguments.argument y Arguments.no_arguments)) ≡ true
unfolding no_spread
two_unspread x y = refl

not_number : (t : ValueType) → (t ≡ Number → ⊥) → is_number t ≡ false
unfolding is_number
not_number Number e = absurd (e refl)
not_number t e = refl

module _ (h : Held) (a : Answers) (s : Settings) (r : Role) (f o : Expression) (xs : Arguments) (arguments : Run ℕ) (ns : List ℕ) (listed : ns ≡ entries_at h.entries arguments) (lists : ListsArguments h arguments xs) where
  stand : AllStand h ns (argument_parts xs)
  stand = subst (λ ms. AllStand h ms (argument_parts xs)) (sym listed) lists.1

  pow_kept : decided a (math_pow s (length h.nodes) o xs) ≡ None → DecisionOf h (decided a (method_of_object s (length h.nodes) r f xs pow_name o)) Kept
  pow_kept e = kept h (ap (decided a) (pow_called a s (length h.nodes) r f xs o) ∙ cond_kept a (is_name math_name o) (math_pow s (length h.nodes) o xs) e)

  -- It is kept for each test that fails, in the code's order.
  pub pow_of_others : (length ns ≢ 2) → DecisionOf h (decided a (method_of_object s (length h.nodes) r f xs pow_name o)) Kept
  pow_of_others e = pow_kept (pow_unless_two a s (length h.nodes) o xs (λ x y i. e (how_many h ns xs stand ∙ ap argument_count i ∙ two_count x y)))

  pub pow_of_spreads : any_spread h ns ≡ true → DecisionOf h (decided a (method_of_object s (length h.nodes) r f xs pow_name o)) Kept
  pow_of_spreads e = pow_kept (pow_unless_two a s (length h.nodes) o xs (λ x y i. false_true (sym (spread_among h ns xs stand ∙ ap not e) ∙ ap no_spread i ∙ two_unspread x y)))

  pub pow_without_power : s.power ≡ false → DecisionOf h (decided a (method_of_object s (length h.nodes) r f xs pow_name o)) Kept
  pow_without_power e = pow_kept (pow_unsupported a s (length h.nodes) o e xs)

  pub pow_of_no_global : (told : Bool) → told ≡ is_global_name a math_name o → told ≡ false → DecisionOf h (decided a (method_of_object s (length h.nodes) r f xs pow_name o)) Kept
  pow_of_no_global told t e =
      kept h (
      ap (decided a) (pow_called a s (length h.nodes) r f xs o)
      ∙ global_or_kept a (is_name math_name o) (a.global (Part.expression o)) (math_pow s (length h.nodes) o xs) (sym t ∙ e) (λ g. pow_not_global a s (length h.nodes) o g xs)
      )

  pow_becomes : (told : Bool) → told ≡ is_global_name a math_name o → told ≡ true → s.power ≡ true → any_spread h ns ≡ false → length ns ≡ 2
      → (w : Two h ns xs) × (decided a (method_of_object s (length h.nodes) r f xs pow_name o) ≡ Some (power (length h.nodes) w.base w.exponent (is_number (a.value_type (Part.expression w.exponent)))))
  pow_becomes told t e p n l =
      let w = two h ns xs stand (spread_among h ns xs stand ∙ ap not n) l in
      let both = and_parts (is_name math_name o) (a.global (Part.expression o)) (sym t ∙ e) in (
        w,
        ap (decided a) (pow_called a s (length h.nodes) r f xs o) ∙ ap (λ b. decided a (cond b (math_pow s (length h.nodes) o xs) Deciding.keep)) both.0
            ∙ ap (λ ys. decided a (math_pow s (length h.nodes) o ys)) w.both ∙ pow_of_two a s (length h.nodes) o w.base w.exponent p both.1,
      )

  pub pow_with_number : (told : Bool) (t : ValueType) → told ≡ is_global_name a math_name o → told ≡ true → s.power ≡ true → any_spread h ns ≡ false → length ns ≡ 2 → Says a.value_type h (get_or ns 1 0) t → t ≡ Number
      → DecisionOf h (decided a (method_of_object s (length h.nodes) r f xs pow_name o)) (Rewritten (Power (get_or ns 0 0) (NumberPlan (get_or ns 1 0))))
  unfolding power is_number
  pow_with_number told t g e p n l says i =
      let w = pow_becomes told g e p n l in
      let typed : is_number (a.value_type (Part.expression w.0.exponent)) ≡ true = ap is_number (sym (said says w.0.exponent_stands) ∙ i) in
      becomes h (Rewritten (Power (get_or ns 0 0) (NumberPlan (get_or ns 1 0)))) (w.1 ∙ ap (λ b. Some (power (length h.nodes) w.0.base w.0.exponent b)) typed) (w.0.base, w.0.exponent, refl, w.0.base_stands, w.0.exponent_stands)

  pub pow_coerced : (told : Bool) (t : ValueType) → told ≡ is_global_name a math_name o → told ≡ true → s.power ≡ true → any_spread h ns ≡ false → length ns ≡ 2 → Says a.value_type h (get_or ns 1 0) t → (t ≡ Number → ⊥)
      → DecisionOf h (decided a (method_of_object s (length h.nodes) r f xs pow_name o)) (Rewritten (Power (get_or ns 0 0) (Coerced (get_or ns 1 0))))
  unfolding power
  pow_coerced told t g e p n l says i =
      let w = pow_becomes told g e p n l in
      let typed : is_number (a.value_type (Part.expression w.0.exponent)) ≡ false = ap is_number (sym (said says w.0.exponent_stands)) ∙ not_number t i in
      becomes h (Rewritten (Power (get_or ns 0 0) (Coerced (get_or ns 1 0)))) (w.1 ∙ ap (λ b. Some (power (length h.nodes) w.0.base w.0.exponent b)) typed) (w.0.base, w.0.exponent, refl, w.0.base_stands, w.0.exponent_stands)

module _ (h : Held) (a : Answers) (s : Settings) (r : Role) (f o : Expression) (xs : Arguments) (arguments : Run ℕ) (lists : ListsArguments h arguments xs) (told : Bool) (global : told ≡ is_global_name a array_name o) where
  pub of_no_global : told ≡ false → DecisionOf h (decided a (method_of_object s (length h.nodes) r f xs of_name o)) Kept
  of_no_global e =
      kept h (
      ap (decided a) (of_called a s (length h.nodes) r f xs o)
      ∙ global_or_kept a (is_name array_name o) (a.global (Part.expression o)) (array_of (length h.nodes) o xs) (sym global ∙ e) (λ g. of_not_global a s (length h.nodes) o g xs)
      )

  pub of_becomes : told ≡ true → DecisionOf h (decided a (method_of_object s (length h.nodes) r f xs of_name o)) (Rewritten (ArrayOf arguments))
  of_becomes e =
      let both = and_parts (is_name array_name o) (a.global (Part.expression o)) (sym global ∙ e) in
      becomes h (Rewritten (ArrayOf arguments))
      (ap (decided a) (of_called a s (length h.nodes) r f xs o) ∙ ap (λ b. decided a (cond b (array_of (length h.nodes) o xs) Deciding.keep)) both.0 ∙ of_global_one a s (length h.nodes) o both.1 xs)
      (xs, refl, lists)

-- ---- the rule

not_called : (a : Answers) (s : Settings) (next : ℕ) (r : Role) (x : Expression) → is_call (own_of (tree_of x)) ≡ false → decided a (method_rule s next r x) ≡ None
unfolding method_rule decided
not_called a s next r (Expression.call l f xs) e = false_true (sym e)
not_called a s next r x e = refl

called_none : (a : Answers) (s : Settings) (next : ℕ) (r : Role) (f : Expression) (xs : Arguments) → decided a (method_called s next r f xs Callee.none) ≡ None
unfolding method_called decided
called_none a s next r f xs = refl

called_method : (s : Settings) (next : ℕ) (r : Role) (f o : Expression) (xs : Arguments) (k : Units) → method_called s next r f xs (Callee.method o k) ≡ method_of_object s next r f xs k o
unfolding method_called
called_method s next r f o xs k = refl

-- A method was found: the callee names it.
pub record Named (h : Held) (callee : Callee) (name : Bor (List ℕ)) (object : ℕ) : Type 0 where
  pub of : Expression
  pub units : Units
  pub is_it : callee ≡ Callee.method of units
  pub spelled : Stores name.now units
  pub stands : Stands h object (Part.expression of)

pub named_by : (h : Held) (callee : Callee) (name : Bor (List ℕ)) (object : ℕ) → FindsMethod h callee (Some (name, object)) → Named h callee name object
named_by h (Callee.method o k) name object e = record { of = o; units = k; is_it = refl; spelled = e.0; stands = e.1 }
named_by h Callee.none name object e = absurd e

none_by : (h : Held) (callee : Callee) → FindsMethod h callee None → callee ≡ Callee.none
none_by h (Callee.method o k) e = absurd e
none_by h Callee.none e = refl

module _ (h : Held) (a : Answers) (s : Settings) (r : Role) (x : Expression) where
  pub fold_no_call : {n : Node} → Read h n (Part.expression x) → is_call (own h.text n) ≡ false → DecisionOf h (decided a (method_rule s (length h.nodes) r x)) Kept
  fold_no_call m e = kept h (not_called a s (length h.nodes) r x (ap is_call m.owned ∙ e))

  called : {callee : ℕ} {arguments : Run ℕ} (m : Read h (Call callee arguments) (Part.expression x)) → method_rule s (length h.nodes) r x ≡ method_called s (length h.nodes) r m.says.1 m.says.2 (callee_of m.says.1)
  unfolding method_rule
  called m = ap (method_rule s (length h.nodes) r) (sym (same_expression m.says.3))

  pub fold_not_found : {callee : ℕ} {arguments : Run ℕ} {found : Option (Bor (List ℕ) × ℕ)} → Read h (Call callee arguments) (Part.expression x) → FindsMethodOf h callee found → found ≡ None
      → DecisionOf h (decided a (method_rule s (length h.nodes) r x)) Kept
  fold_not_found m finds e =
      let none = none_by h (callee_of m.says.1) (subst (FindsMethod h (callee_of m.says.1)) e (finds m.says.1 m.says.4)) in
      kept h (ap (decided a) (called m) ∙ ap (λ c. decided a (method_called s (length h.nodes) r m.says.1 m.says.2 c)) none ∙ called_none a s (length h.nodes) r m.says.1 m.says.2)

  -- As the method of that name on that object.
  by_name : {callee : ℕ} {arguments : Run ℕ} (m : Read h (Call callee arguments) (Part.expression x)) (name : Bor (List ℕ)) (object : ℕ) (w : Named h (callee_of m.says.1) name object)
      → decided a (method_rule s (length h.nodes) r x) ≡ decided a (method_of_object s (length h.nodes) r m.says.1 m.says.2 w.units w.of)
  by_name m name object w =
      ap (decided a) (called m) ∙ ap (λ c. decided a (method_called s (length h.nodes) r m.says.1 m.says.2 c)) w.is_it
      ∙ ap (decided a) (called_method s (length h.nodes) r m.says.1 w.of m.says.2 w.units)

  pub fold_unknown : {callee : ℕ} {arguments : Run ℕ} {found : Option (Bor (List ℕ) × ℕ)} (name : Bor (List ℕ)) (object : ℕ) → Read h (Call callee arguments) (Part.expression x) → FindsMethodOf h callee found → found ≡ Some (name, object)
      → known_name name.now ≡ None → DecisionOf h (decided a (method_rule s (length h.nodes) r x)) Kept
  fold_unknown name object m finds e u =
      let w = named_by h (callee_of m.says.1) name object (subst (FindsMethod h (callee_of m.says.1)) e (finds m.says.1 m.says.4)) in
      kept h (by_name m name object w ∙ unknown_kept a s (length h.nodes) r m.says.1 m.says.2 w.units (unknown w.units (sym (same_known name.now w.units w.spelled) ∙ u)) w.of)

  pub fold_known : {callee : ℕ} {arguments : Run ℕ} {found : Option (Bor (List ℕ) × ℕ)} (name : Bor (List ℕ)) (object : ℕ) (known : KnownMethod) (d : Decision)
      → Read h (Call callee arguments) (Part.expression x) → FindsMethodOf h callee found → found ≡ Some (name, object) → known_name name.now ≡ Some known
      → ((f : Expression) → NamesMethod h callee f → FoldsOf h a s r (name_of known) f object arguments d) → DecisionOf h (decided a (method_rule s (length h.nodes) r x)) d
  fold_known name object known d m finds e u folds =
      let w = named_by h (callee_of m.says.1) name object (subst (FindsMethod h (callee_of m.says.1)) e (finds m.says.1 m.says.4)) in
      let k = named w.units known (sym (same_known name.now w.units w.spelled) ∙ u) in
      let lies_within = (and_parts _ _ m.within).0 in
      subst (λ q. DecisionOf h q d) (sym (by_name m name object w ∙ ap (λ v. decided a (method_of_object s (length h.nodes) r m.says.1 m.says.2 v w.of)) k))
      (folds m.says.1 (m.says.4, (w.of, w.units, w.is_it)) w.of m.says.2 w.stands (lies_within, m.says.5))
